-- What is kept of a move beside it, where the move is changed.
use Rattle.std.proofs.Common.{◌≡◌, ℕ, ◌+◌, ◌*◌, ◌<◌, List, length, inl, inr, sym, ◌∙◌, ap, subst, slice_index, slice_set}
use Rattle.std.proofs.lemmas.Bool.{cases_eq}
use Rattle.std.proofs.lemmas.List.{get_or-set_same, get_or-set_other, length-set}
use Rattle.matroid_theory.specs.Field.{IsField, times, raised}
use Rattle.matroid_theory.specs.Matrix.{sum_below}
use Rattle.matroid_theory.specs.Move.{MoveTable, row_place}
use Rattle.matrix_lemmas.proofs.Sums.{sum_same}
use Rattle.product_rep.specs.Tables.{KeepsMove}
use Rattle.product_rep.proofs.PiecesLemmas.{place_below}
use Rattle.symmetry.specs.Copies.{HasCopies}
use Rattle.symmetry.specs.Images.{mapped}

-- two lists that agree at a place still do after both were set at one place
set_alike : (xs ys : List ℕ) (p x j : ℕ) → p < length xs → p < length ys → slice_index xs j ≡ slice_index ys j →
    slice_index (slice_set xs p x) j ≡ slice_index (slice_set ys p x) j
set_alike xs ys p x j l m e =
    elim (cases_eq j p) [
      | inl s ↦ ap (slice_index (slice_set xs p x)) s ∙ get_or-set_same xs p x 0 l ∙ sym (get_or-set_same ys p x 0 m)
          ∙ sym (ap (slice_index (slice_set ys p x)) s)
      | inr n ↦ get_or-set_other xs p j x 0 n ∙ e ∙ sym (get_or-set_other ys p j x 0 n)
    ]

module _ (t : MoveTable) (factors : List ℕ) (rank : ℕ) (powers rows : List ℕ) (h : HasCopies t factors rank powers rows) (k : KeepsMove t) where
  -- a row's place is one of the list
  pub row_room : (f i j : ℕ) → f < length t.shape.factors → i < t.shape.rank → j < t.shape.rank →
      row_place t.shape f i j < length t.shape.factors * t.shape.rank * t.shape.rank
  row_room f i j l m o = place_below (length t.shape.factors * t.shape.rank) t.shape.rank (f * t.shape.rank + i) j
      (place_below (length t.shape.factors) t.shape.rank f i l m) o

  -- an entry of a matrix was set in both
  pub rows_copied : (f i j x y p : ℕ) → f < length t.shape.factors → i < t.shape.rank → j < t.shape.rank →
      p ≡ row_place t.shape f i j → (t' : MoveTable) →
      t' ≡ record t { rows = slice_set t.rows (row_place t.shape f i j) x; back = slice_set t.back (row_place t.shape f i j) y }
      → (rows' : List ℕ) → rows' ≡ slice_set rows p x → HasCopies t' factors rank powers rows'
  rows_copied f i j x y p l m o pe t' te rows' re =
      subst (λ t'. HasCopies t' factors rank powers rows') (sym te)
      (subst (λ rows'. HasCopies
      (record t { rows = slice_set t.rows (row_place t.shape f i j) x; back = slice_set t.back (row_place t.shape f i j) y })
      factors rank powers rows') (sym (re ∙ ap (λ (p : ℕ). slice_set rows p x) pe)) record {
        same_factors = h.same_factors;
        ranks = h.ranks;
        powers_length = h.powers_length;
        rows_length = length-set rows (row_place t.shape f i j) x ∙ h.rows_length;
        powers_are = h.powers_are;
        rows_are = λ g a b lg la lb. set_alike rows t.rows (row_place t.shape f i j) x (row_place t.shape g a b)
            (subst (λ (n : ℕ). row_place t.shape f i j < n) (sym h.rows_length) (row_room f i j l m o))
            (subst (λ (n : ℕ). row_place t.shape f i j < n) (sym k.rows) (row_room f i j l m o)) (h.rows_are g a b lg la lb);
      })

-- the sum that was computed is the code of the image
pub mapped_is : (t : MoveTable) (v : List ℕ) (f i q p c n x : ℕ) (row : List ℕ) → IsField (slice_index t.shape.factors f) →
    q ≡ slice_index t.shape.factors f → p ≡ slice_index t.powers f → c ≡ length t.shape.factors → n ≡ t.shape.rank
    → ((k : ℕ) → k < t.shape.rank → slice_index row k ≡ slice_index t.rows (row_place t.shape f i k))
    → x ≡ sum_below q n (λ k. times q (slice_index row k) (raised q p (slice_index v (k * c + f)))) → x ≡ mapped t v f i
mapped_is t v f i q p c n x row F qe pe ce ne re xe =
    xe
    ∙ (λ u. sum_below (qe u) (ne u) (λ k. times (qe u) (slice_index row k) (raised (qe u) (pe u) (slice_index v (k * ce u + f)))))
    ∙ sum_same (slice_index t.shape.factors f) F t.shape.rank
    (λ k. times (slice_index t.shape.factors f) (slice_index row k)
    (raised (slice_index t.shape.factors f) (slice_index t.powers f) (slice_index v (k * length t.shape.factors + f))))
    (λ k. times (slice_index t.shape.factors f) (slice_index t.rows (row_place t.shape f i k))
    (raised (slice_index t.shape.factors f) (slice_index t.powers f) (slice_index v (k * length t.shape.factors + f))))
    (λ k b. ap (λ (a : ℕ). times (slice_index t.shape.factors f) a
    (raised (slice_index t.shape.factors f) (slice_index t.powers f) (slice_index v (k * length t.shape.factors + f)))) (re k b))
