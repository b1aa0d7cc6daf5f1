-- The columns of a set, picked out in a list, are independent exactly where the set is.
use Rattle.std.proofs.Common.{◌≡◌, ◌↔◌, ℕ, suc, ◌+◌, ◌<◌, sym, ◌∙◌, ap, subst, arith, Bool, true, false, add-one, inl, inr, ◌⊎◌, List, [], ◌∷◌, ◌++◌, length, length-append}
use Rattle.std.specs.List.{slice_index}
use Rattle.std.proofs.lemmas.Bool.{cases_lt}
use mathlib.Core.Bool.{true≢false}
use Rattle.arrayvec.specs.ArrayVec.{ArrayVec}
use Rattle.matroid_theory.specs.Field.{IsField}
use Rattle.matroid_theory.specs.Matrix.{Matrix, size_below, IsIndependent}
use Rattle.matrix_lemmas.proofs.Bases.{pick, pick_picks}
use Rattle.matrix_lemmas.proofs.Picked.{Picks, picked_independent, set_independent, size_more, size_stays, size_grows}
use Rattle.matrix_lemmas.proofs.Ranks.{IsIndependent-codes}
use Rattle.elimination.specs.Columns.{column, matrix_of, height, IsColumn, AreColumns, AreIndependent}
use Rattle.elimination.proofs.Lists.{column_before, column_last}
use Rattle.column_sets.specs.Picked.{ArePicked}

module _ (source : ℕ → List ℕ) where
  -- before the first column
  pub none_picked : (S : ℕ → Bool) (w : List (ArrayVec ℕ)) → w ≡ [] → ArePicked source 0 S w
  none_picked S w e = record { count = ap (λ (w : List (ArrayVec ℕ)). length w) e; columns = λ j l. absurd (omega arith) }

  -- one more column, in the set or not
  pub more_picked : (n : ℕ) (S : ℕ → Bool) (w v : List (ArrayVec ℕ)) (y : ArrayVec ℕ) → S n ≡ true → v ≡ w ++ y ∷ [] →
      y.items ≡ source n → ArePicked source n S w → ArePicked source (n + 1) S v
  more_picked n S w v y t e c h = subst (λ (x : ℕ). ArePicked source x S v) (sym (add-one n)) (record {
    count =
        (let k : length (w ++ y ∷ []) ≡ length w + 1 = length-append w (y ∷ []) in
        let m : size_below (suc n) S ≡ suc (size_below n S) = size_more n S t in
        let i : length w ≡ size_below n S = h.count in
        ap (λ (w : List (ArrayVec ℕ)). length w) e ∙ omega arith);
    columns = λ j l s. ap (λ (w : List (ArrayVec ℕ)). column w (size_below j S)) e ∙ elim (cases_lt j n) [
      | inl b ↦
          (let m : size_below j S < size_below n S = size_grows j n S b s in
          let i : length w ≡ size_below n S = h.count in
          column_before w y (size_below j S) (omega arith) ∙ h.columns j b s)
      | inr g ↦
          (let d : j ≡ n = omega arith in
          ap (column (w ++ y ∷ [])) (ap (λ x. size_below x S) d ∙ sym h.count) ∙ column_last w y ∙ c ∙ ap source (sym d))
    ];
  })

  pub same_picked : (n : ℕ) (S : ℕ → Bool) (w v : List (ArrayVec ℕ)) → S n ≡ false → v ≡ w → ArePicked source n S w → ArePicked source (n + 1) S v
  same_picked n S w v t e h = subst (λ (v : List (ArrayVec ℕ)). ArePicked source (n + 1) S v) (sym e)
      (subst (λ (x : ℕ). ArePicked source x S w) (sym (add-one n)) (record {
        count = h.count ∙ sym (size_stays n S t);
        columns = λ j l s. elim (cases_lt j n) [
          | inl b ↦ h.columns j b s
          | inr g ↦ (let d : j ≡ n = omega arith in absurd (true≢false (sym s ∙ ap S d ∙ t)))
        ];
      }))

-- independence of no column doesn't depend on the number of rows
pub rows_same : (q r s n : ℕ) (A : Matrix) (S : ℕ → Bool) → (n ≡ 0) ⊎ (r ≡ s) → IsIndependent q r n A S → IsIndependent q s n A S
rows_same q r s n A S h d = elim h [
  | inl z ↦ record { only_zero = λ a _ _ j l. absurd (omega arith) }
  | inr e ↦ subst (λ (x : ℕ). IsIndependent q x n A S) e d
]

module _ (q : ℕ) (F : IsField q) (r n : ℕ) (source : ℕ → List ℕ) (h : (j : ℕ) → j < n → IsColumn q r (source j)) (S : ℕ → Bool)
    (w : List (ArrayVec ℕ)) (p : ArePicked source n S w) where
  -- the code at a row of a column
  abbrev code : Matrix
  code i j = slice_index (source j) i

  abbrev place : ℕ → ℕ
  place k = pick n S k

  picks : Picks n S place
  picks = pick_picks n S

  within : (k : ℕ) → k < length w → place k < n
  within k m = picks.below k (omega (arith, p.count))

  column_at : (k : ℕ) → k < length w → column w k ≡ source (place k)
  column_at k m =
      let o : k < size_below n S = (let e : length w ≡ size_below n S = p.count in omega arith) in
      ap (column w) (sym (picks.rank k o)) ∙ p.columns (place k) (picks.below k o) (picks.member k o)

  rows_at : (k : ℕ) → k < length w → length (column w k) ≡ r
  rows_at k m = ap (λ (xs : List ℕ). length xs) (column_at k m) ∙ (let c = h (place k) (within k m) in c.rows)

  entry_at : (i k : ℕ) → i < r → k < length w → matrix_of w i k ≡ code i (place k)
  entry_at i k m o = ap (λ (xs : List ℕ). slice_index xs i) (column_at k o)

  rows_or_none : (length w ≡ 0) ⊎ (height w ≡ r)
  rows_or_none = elim (cases_lt 0 (length w)) [ inl b ↦ inr (rows_at 0 b) | inr g ↦ inl (omega arith) ]

  pub picked_are_columns : AreColumns q (height w) w
  picked_are_columns k m = record {
    rows = rows_at k m ∙ sym (rows_at 0 (omega arith));
    below = λ i o.
        (let e : i < r = subst (λ (r : ℕ). i < r) (rows_at 0 (omega arith)) o in
        subst (λ (x : ℕ). x < q) (sym (entry_at i k e m)) (let c = h (place k) (within k m) in c.below i e));
  }

  pub picked_are_independent : AreIndependent q (height w) w ↔ IsIndependent q r n code S
  picked_are_independent = (
    (λ d. picked_independent q F S place r n code picks
        (subst (λ (n : ℕ). IsIndependent q r n (λ i k. code i (place k)) (λ _. true)) p.count
        (IsIndependent-codes q r (length w) (matrix_of w) (λ i k. code i (place k)) (λ _. true) entry_at
        (rows_same q (height w) r (length w) (matrix_of w) (λ _. true) rows_or_none d)))),
    (λ d. rows_same q r (height w) (length w) (matrix_of w) (λ _. true) (elim rows_or_none [ inl z ↦ inl z | inr e ↦ inr (sym e) ])
        (IsIndependent-codes q r (length w) (λ i k. code i (place k)) (matrix_of w) (λ _. true) (λ i k o m. sym (entry_at i k o m))
        (subst (λ (n : ℕ). IsIndependent q r n (λ i k. code i (place k)) (λ _. true)) (sym p.count)
        (set_independent q F S place r n code picks d)))),
  )

  -- the same for another name of the list
  pub named_are_columns : (v : List (ArrayVec ℕ)) → v ≡ w → AreColumns q (height v) v
  named_are_columns v d = subst (λ (v : List (ArrayVec ℕ)). AreColumns q (height v) v) (sym d) picked_are_columns

  pub named_are_independent : (v : List (ArrayVec ℕ)) → v ≡ w → AreIndependent q (height v) v ↔ IsIndependent q r n code S
  named_are_independent v d = subst (λ (v : List (ArrayVec ℕ)). AreIndependent q (height v) v ↔ IsIndependent q r n code S) (sym d) picked_are_independent
