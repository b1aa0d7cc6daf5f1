-- What makes a table a move.
use Rattle.std.proofs.Common.{◌≡◌, ◌<◌, ◌≤◌, ◌+◌, ◌*◌, ◌↔◌, ℕ, Bool, IsTrue, List, length, sym, ◌∙◌, ap, subst, arith, slice_index}
use Rattle.matroid_theory.specs.declared.Mode.{Mode}
use Rattle.matroid_theory.specs.Move.{MoveTable, AllowsPower, ArePermutation, IsMove, move_of}
use Rattle.product_rep.specs.declared.moves.Move.TheInside.{Inside}
use Rattle.product_rep.specs.Tables.{table, KeepsMove}
use Rattle.product_rep.specs.Valid.{block, HasBlock, AreCodes, AreInverseCodes, IsFactorPart}
use Rattle.product_rep.proofs.PiecesLemmas.{place_below}

-- the size and the rank, as a function reads them
pub size_is : (a : Inside) (t : MoveTable) (n : ℕ) → table a ≡ t → n ≡ a.size → n ≡ t.shape.size
size_is a t n v e = e ∙ ap (λ (t : MoveTable). t.shape.size) v

pub rank_is : (a : Inside) (t : MoveTable) (n : ℕ) → table a ≡ t → n ≡ a.rank → n ≡ t.shape.rank
rank_is a t n v e = e ∙ ap (λ (t : MoveTable). t.shape.rank) v

-- a list of as many matrices as factors has that of each factor
pub has_block : (t : MoveTable) (xs ys : List ℕ) (n f : ℕ) → KeepsMove t → n ≡ t.shape.rank →
    length xs ≡ length t.shape.factors * t.shape.rank * t.shape.rank → ys ≡ xs → f < length t.shape.factors → HasBlock n f ys
has_block t xs ys n f h e l y b =
    let m : length t.shape.factors ≤ 3 = h.fields.few in
    subst (λ (r : ℕ). HasBlock r f ys) (sym e) (subst (λ (ys : List ℕ). HasBlock t.shape.rank f ys) (sym y) (record {
      rank = h.rank_most;
      factor = omega arith;
      places = λ i k o p. subst (λ (n : ℕ). (f * t.shape.rank + i) * t.shape.rank + k < n) (sym l)
          (place_below (length t.shape.factors * t.shape.rank) t.shape.rank (f * t.shape.rank + i) k
          (place_below (length t.shape.factors) t.shape.rank f i b o) p);
    }))

-- its matrix has codes, in the terms of equal ones
pub block_codes : (q s r m n f g : ℕ) (xs ys : List ℕ) → q ≡ s → r ≡ n → m ≡ n → g ≡ f → ys ≡ xs → AreCodes s n (block n f xs) → AreCodes q r (block m g ys)
block_codes q s r m n f g xs ys qe re me ge ye h =
    subst (λ (q : ℕ). AreCodes q r (block m g ys)) (sym qe)
    (subst (λ (r : ℕ). AreCodes s r (block m g ys)) (sym re)
    (subst (λ (m : ℕ). AreCodes s n (block m g ys)) (sym me)
    (subst (λ (g : ℕ). AreCodes s n (block n g ys)) (sym ge)
    (subst (λ (ys : List ℕ). AreCodes s n (block n f ys)) (sym ye) h))))

-- what a test says of matrices, in the terms of equal ones
pub same_test : (q s r n f g m h : ℕ) (xs vs ys ws : List ℕ) (b : Bool) → q ≡ s → r ≡ n → f ≡ g → m ≡ n → h ≡ g → xs ≡ vs → ys ≡ ws
    → (IsTrue b ↔ AreInverseCodes q r (block r f xs) (block m h ys)) → IsTrue b ↔ AreInverseCodes s n (block n g vs) (block n g ws)
same_test q s r n f g m h xs vs ys ws b qe re fe me he xe ye d =
    subst (λ (q : ℕ). IsTrue b ↔ AreInverseCodes q n (block n g vs) (block n g ws)) qe
    (subst (λ (r : ℕ). IsTrue b ↔ AreInverseCodes q r (block r g vs) (block n g ws)) re
    (subst (λ (f : ℕ). IsTrue b ↔ AreInverseCodes q r (block r f vs) (block n g ws)) fe
    (subst (λ (m : ℕ). IsTrue b ↔ AreInverseCodes q r (block r f vs) (block m g ws)) me
    (subst (λ (h : ℕ). IsTrue b ↔ AreInverseCodes q r (block r f vs) (block m h ws)) he
    (subst (λ (xs : List ℕ). IsTrue b ↔ AreInverseCodes q r (block r f xs) (block m h ws)) xe
    (subst (λ (ys : List ℕ). IsTrue b ↔ AreInverseCodes q r (block r f xs) (block m h ys)) ye d))))))

-- a table whose powers, factors and labels are those of a move of the mode
pub is_move : (mode : Mode) (t : MoveTable) → KeepsMove t → ((f : ℕ) → f < length t.shape.factors → AllowsPower mode (slice_index t.powers f))
    → ((f : ℕ) → f < length t.shape.factors → IsFactorPart t f) → ArePermutation t.shape.size (move_of t).label (move_of t).place →
    IsMove mode t.shape (move_of t)
is_move mode t h a p l = record {
  powers = h.powers_below;
  allowed = a;
  codes = h.row_codes;
  back_codes = h.back_codes;
  inverse = λ f b. record {
    right = λ i j o m. (p f b).matrices.right i o j m;
    left = λ i j o m. (p f b).matrices.left i o j m;
  };
  scalars = h.scalar_codes;
  nonzero = λ f j b o. ((p f b).scalars j o).nonzero;
  labels = l;
}
