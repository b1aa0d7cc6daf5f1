-- A representation built from its codes, and the codes that a key has.
use Rattle.std.proofs.Common.{◌≡◌, ℕ, suc, ◌+◌, ◌-◌, ◌*◌, ◌<◌, ◌≤◌, sym, ◌∙◌, ap, subst, arith, List, ◌++◌, length, take, drop, slice_index}
use Rattle.std.proofs.Math.Nat.{mul-le-mul, le_refl}
use Rattle.std.proofs.Math.Seq.{take-add}
use Rattle.matroid_theory.specs.Rep.{Rep, Shape, shape, size, IsStandard, IsProductColumn}
use Rattle.matroid_theory.specs.Level.{followed_by}
use Rattle.matroid_laws.proofs.Followed.{size_followed, standard_followed}
use Rattle.form_key.specs.Codes.{half_at, AreCodesOf}
use Rattle.form_key.specs.Packing.{IsPackedAs, later_codes, paired}
use Rattle.form_key.proofs.Columns.{piece_is_column, later_codes-followed, length-later, later_are_codes, codes_are_halves}
use Rattle.form_key.proofs.Pairs.{halves_of_paired}

-- the unit columns and j columns of these codes
pub record IsBuilt (factors : List ℕ) (rank : ℕ) (codes : List ℕ) (j : ℕ) (P : Rep) : Type 0 where
  pub shapes : shape P ≡ record { factors = factors; rank = rank; size = rank + j }
  pub standard : IsStandard P
  pub later : later_codes P ≡ take (j * (rank * length factors)) codes

-- the codes of column j, by the width that a function reads
pub piece : (codes v : List ℕ) (j w u : ℕ) → u ≡ w → v ≡ take ((j + 1) * u - j * u) (drop (j * u) codes) → v ≡ take w (drop (j * w) codes)
piece codes v j w u e is =
    let n : (j + 1) * u - j * u ≡ u = omega arith in
    is ∙ (λ i. take ((n ∙ e) i) (drop (j * e i) codes))

pub next_column : (factors : List ℕ) (rank : ℕ) (codes : List ℕ) (later j : ℕ) (P : Rep) (v : List ℕ) → IsBuilt factors rank codes j P
    → AreCodesOf factors codes → length codes ≡ later * (rank * length factors) → j < later
    → v ≡ take (rank * length factors) (drop (j * (rank * length factors)) codes) → IsProductColumn P.factors P.rank v
next_column factors rank codes later j P v b h n l is =
    let room : (j + 1) * (rank * length factors) ≤ later * (rank * length factors) = mul-le-mul (omega arith) (le_refl (rank * length factors)) in
    subst (λ (s : Shape). IsProductColumn s.factors s.rank v) (sym b.shapes)
    (subst (IsProductColumn factors rank) (sym is) (piece_is_column factors codes rank j h (omega arith)))

pub built_more : (factors : List ℕ) (rank : ℕ) (codes : List ℕ) (j : ℕ) (P N : Rep) (v : List ℕ) → IsBuilt factors rank codes j P
    → v ≡ take (rank * length factors) (drop (j * (rank * length factors)) codes)
    → N ≡ followed_by P v → IsBuilt factors rank codes (j + 1) N
built_more factors rank codes j P N v b is new = subst (IsBuilt factors rank codes (j + 1)) (sym new) (record {
  shapes = λ i. record { factors = (b.shapes i).factors; rank = (b.shapes i).rank; size = one_more i };
  standard = standard_followed P v b.standard;
  later = later_codes-followed P v b.standard.room ∙ (λ i. b.later i ++ is i) ∙ sym (take-add (j * w) w codes) ∙ ap (λ n. take n codes) more;
})
  where
    w : ℕ
    w = rank * length factors

    one_more : size (followed_by P v) ≡ rank + (j + 1)
    one_more =
        let a : size (followed_by P v) ≡ suc (size P) = size_followed P v in
        let e : size P ≡ rank + j = ap (λ (s : Shape). s.size) b.shapes in
        omega arith

    more : j * w + w ≡ (j + 1) * w
    more = omega arith

-- the halves of a key are the codes of what is packed as it
pub codes_of_key : (s : Shape) (key codes : List ℕ) (M : Rep) → IsPackedAs s key M → length codes ≡ (s.size - s.rank) * (s.rank * length s.factors)
    → ((k : ℕ) → k < (s.size - s.rank) * (s.rank * length s.factors) → slice_index codes k ≡ half_at key k) → later_codes M ≡ codes
codes_of_key s key codes M p n same =
    halves_of_paired (later_codes M) codes ((s.size - s.rank) * (s.rank * length s.factors))
    (codes_are_halves M.factors (later_codes M) p.shaped.orders (later_are_codes M p.shaped))
    (length-later M p.shaped ∙ ap (λ (x : Shape). (x.size - x.rank) * (x.rank * length x.factors)) p.shapes)
    n
    (λ k l. same k l ∙ ap (λ bytes. half_at bytes k) (sym p.packs))

-- so its bytes are the codes in pairs, and the codes are codes of the factors
pub key_of_codes : (s : Shape) (key codes : List ℕ) (M : Rep) → IsPackedAs s key M → later_codes M ≡ codes → paired codes ≡ key
key_of_codes s key codes M p e = ap paired (sym e) ∙ p.packs

pub codes_of_factors : (s : Shape) (key codes : List ℕ) (M : Rep) → IsPackedAs s key M → later_codes M ≡ codes → AreCodesOf s.factors codes
codes_of_factors s key codes M p e =
    subst (AreCodesOf s.factors) e (subst (λ (x : Shape). AreCodesOf x.factors (later_codes M)) p.shapes (later_are_codes M p.shaped))
