-- What holds of one factor's columns, taken out of a representation, holds in the factor.
use Rattle.std.proofs.Common.{◌≡◌, ◌↔◌, ℕ, ◌+◌, ◌<◌, ◌^◌, refl, sym, ◌∙◌, ap, subst, arith, Bool, true, false, not, inl, inr, ◌⊎◌, List, length, IsTrue}
use Rattle.std.specs.List.{slice_index, Contains}
use Rattle.std.proofs.lemmas.Bool.{cases_lt, false≢true}
use mathlib.Core.Bool.{beq, true≢false}
use Rattle.std.proofs.lemmas.List.FromFn.{length-map-range_with_len, get_or-map-range_with_len}
use Rattle.arrayvec.specs.ArrayVec.{ArrayVec}
use Rattle.matroid_theory.specs.Matrix.{size_below, IsIndependent}
use Rattle.matroid_theory.specs.Rep.{Rep, size, count, order, matrix, column_of, KeepsLimits}
use Rattle.matroid_theory.specs.Matroid.{members, IsIndependentIn, IsBasis}
use Rattle.matroid_theory.specs.Minor.{AreBases}
use Rattle.matrix_lemmas.proofs.Masks.{mask, mask-below, members-mask, IsBasis-same, by_masks}
use Rattle.matrix_lemmas.proofs.Ranks.{IsIndependent-codes}
use Rattle.elimination.specs.Columns.{column, matrix_of, height, AreColumns}
use Rattle.column_sets.specs.Picked.{ArePicked, IsBasisOfColumns, IsIndependentSet}
use Rattle.column_sets.specs.Sets.{AreMasks, IsSetOfSize}
use Rattle.column_sets.proofs.PickedColumns.{rows_same}
use Rattle.bases.specs.FactorColumns.{IsFactorOf}

module _ (M : Rep) (k : KeepsLimits M) (f q : ℕ) (columns : List (ArrayVec ℕ)) (h : IsFactorOf M f q columns) where
  rows_at : (j : ℕ) → j < length columns → length (column columns j) ≡ M.rank
  rows_at j l = ap (λ (xs : List ℕ). length xs) (h.same j (let e : length columns ≡ size M = h.count in omega arith))
      ∙ length-map-range_with_len (λ i. matrix M f i j) 0 M.rank

  entry_at : (i j : ℕ) → i < M.rank → j < size M → matrix_of columns i j ≡ matrix M f i j
  entry_at i j m o = ap (λ (xs : List ℕ). slice_index xs i) (h.same j o)
      ∙ get_or-map-range_with_len (λ i. matrix M f i j) 0 M.rank i i 0 m (let e : 0 + i ≡ i = omega arith in e)

  rows_or_none : (length columns ≡ 0) ⊎ (height columns ≡ M.rank)
  rows_or_none = elim (cases_lt 0 (length columns)) [ inl b ↦ inr (rows_at 0 b) | inr g ↦ inl (omega arith) ]

  pub factor_codes : AreColumns q (height columns) columns
  factor_codes j l = record {
    rows = rows_at j l ∙ sym (rows_at 0 (omega arith));
    below = λ i o.
        (let b : j < size M = (let e : length columns ≡ size M = h.count in omega arith) in
        let m : i < M.rank = subst (λ (r : ℕ). i < r) (rows_at 0 (omega arith)) o in
        subst (λ (q : ℕ). matrix_of columns i j < q) (sym h.order)
        (subst (λ (x : ℕ). x < order M f) (sym (entry_at i j m b)) (k.shaped.codes f i j h.below m b)));
  }

  -- independent columns are an independent set of the factor
  pub independent_same : (S : ℕ → Bool) → IsIndependentSet q columns S ↔ IsIndependentIn M f S
  independent_same S = (
    (λ d. subst (λ (q : ℕ). IsIndependent q M.rank (size M) (matrix M f) S) h.order
        (IsIndependent-codes q M.rank (size M) (matrix_of columns) (matrix M f) S entry_at
        (subst (λ (n : ℕ). IsIndependent q M.rank n (matrix_of columns) S) h.count
        (rows_same q (height columns) M.rank (length columns) (matrix_of columns) S rows_or_none d)))),
    (λ d. rows_same q M.rank (height columns) (length columns) (matrix_of columns) S (elim rows_or_none [ inl z ↦ inl z | inr e ↦ inr (sym e) ])
        (subst (λ (n : ℕ). IsIndependent q M.rank n (matrix_of columns) S) (sym h.count)
        (IsIndependent-codes q M.rank (size M) (matrix M f) (matrix_of columns) S (λ i j m o. sym (entry_at i j m o))
        (subst (λ (q : ℕ). IsIndependent q M.rank (size M) (matrix M f) S) (sym h.order) d)))),
  )

  -- columns picked out of the factor's, under another name of their list
  pub picked_same : (v : List (ArrayVec ℕ)) → v ≡ columns → (S : ℕ → Bool) (w : List (ArrayVec ℕ)) →
      ArePicked (column v) (length v) S w → ArePicked (column_of M f) (size M) S w
  picked_same v e S w d =
      (let p : ArePicked (column columns) (length columns) S w = subst (λ (v : List (ArrayVec ℕ)). ArePicked (column v) (length v) S w) e d in record {
        count = p.count ∙ ap (λ n. size_below n S) h.count;
        columns = λ j l s. p.columns j (let e : length columns ≡ size M = h.count in omega arith) s ∙ h.same j l;
      })

  -- a basis of the columns is one of the factor
  pub basis_same : (S : ℕ → Bool) → IsBasisOfColumns q M.rank columns S ↔ IsBasis M f S
  basis_same S = (
    (λ b. record { full = sym (ap (λ n. size_below n S) h.count) ∙ b.full; independent = (independent_same S).0 b.independent }),
    (λ b. record { full = ap (λ n. size_below n S) h.count ∙ b.full; independent = (independent_same S).1 b.independent }),
  )

  -- some set of k of n columns is independent
  abbrev Found : ℕ → ℕ → Type 0
  Found n k = (X : ℕ) × IsSetOfSize n k X × IsIndependentSet q columns (members X)

  -- there is a basis where there is an independent set of rank many columns
  pub some_basis : (n k : ℕ) (b : Bool) → n ≡ size M → k ≡ M.rank → (IsTrue b ↔ Found n k) → IsTrue b ↔ ((S : ℕ → Bool) × IsBasis M f S)
  some_basis n k b ne ke d = (
    (λ t. let w = (at_rank d).0 t in (members w.0, record { full = w.1.elements; independent = (independent_same (members w.0)).0 w.2 })),
    (λ w. (at_rank d).1 (found w.0 w.1)),
  )
    where
      at_rank : (IsTrue b ↔ Found n k) → IsTrue b ↔ Found (size M) M.rank
      at_rank d = subst (λ (n : ℕ). IsTrue b ↔ Found n M.rank) ne (subst (λ (k : ℕ). IsTrue b ↔ Found n k) ke d)

      found : (S : ℕ → Bool) → IsBasis M f S → Found (size M) M.rank
      found S s =
          let X : ℕ = mask (size M) S in
          let c : IsBasis M f (members X) = IsBasis-same M f S (members X) (λ j l. sym (members-mask (size M) S j l)) s in
          (X, record { below = mask-below (size M) S; elements = c.full }, (independent_same (members X)).1 c.independent)

-- each set of r of n columns is independent in both lists or in none
abbrev Alike : ℕ → List (ArrayVec ℕ) → ℕ → List (ArrayVec ℕ) → ℕ → ℕ → Type 0
Alike p columns q others n r = (X : ℕ) → IsSetOfSize n r X → (IsIndependentSet p columns (members X) ↔ IsIndependentSet q others (members X))

-- two factors have the same bases where each set of rank many columns is independent in both or in none
pub same_bases : (M : Rep) (k : KeepsLimits M) (f g p q : ℕ) (columns others : List (ArrayVec ℕ)) → IsFactorOf M f p columns →
    IsFactorOf M g q others → (n r : ℕ) (b : Bool) → n ≡ size M → r ≡ M.rank
    → (IsTrue b ↔ Alike p columns q others n r) → IsTrue b ↔ ((S : ℕ → Bool) → (IsBasis M f S ↔ IsBasis M g S))
same_bases M k f g p q columns others x y n r b ne re d = (
  (λ t. by_masks (size M) (λ S. IsBasis M f S ↔ IsBasis M g S) move (λ X l. (
    (λ c. record {
      full = c.full;
      independent = (independent_same M k g q others y (members X)).0
          ((there t X l c.full).0 ((independent_same M k f p columns x (members X)).1 c.independent));
    }),
    (λ c. record {
      full = c.full;
      independent = (independent_same M k f p columns x (members X)).0
          ((there t X l c.full).1 ((independent_same M k g q others y (members X)).1 c.independent));
    }),
  ))),
  (λ h. at_rank.1 (λ X s. (
    (λ i. (independent_same M k g q others y (members X)).1
        (((h (members X)).0 (record { full = s.elements; independent = (independent_same M k f p columns x (members X)).0 i })).independent)),
    (λ i. (independent_same M k f p columns x (members X)).1
        (((h (members X)).1 (record { full = s.elements; independent = (independent_same M k g q others y (members X)).0 i })).independent)),
  ))),
)
  where
    at_rank : IsTrue b ↔ Alike p columns q others (size M) M.rank
    at_rank = subst (λ (n : ℕ). IsTrue b ↔ Alike p columns q others n M.rank) ne (subst (λ (r : ℕ). IsTrue b ↔ Alike p columns q others n r) re d)

    there : IsTrue b → (X : ℕ) → X < 2 ^ size M → size_below (size M) (members X) ≡ M.rank →
        IsIndependentSet p columns (members X) ↔ IsIndependentSet q others (members X)
    there t X l e = at_rank.0 t X (record { below = l; elements = e })

    move : (S T : ℕ → Bool) → ((j : ℕ) → j < size M → S j ≡ T j) → (IsBasis M f S ↔ IsBasis M g S) → IsBasis M f T ↔ IsBasis M g T
    move S T e h = (
      (λ c. IsBasis-same M g S T e (h.0 (IsBasis-same M f T S (λ j l. sym (e j l)) c))),
      (λ c. IsBasis-same M f S T e (h.1 (IsBasis-same M g T S (λ j l. sym (e j l)) c))),
    )

-- the bases of the first factor's columns, under other names of the order, the rank and the list
pub bases_are : (M : Rep) (k : KeepsLimits M) (p q r : ℕ) (v columns : List (ArrayVec ℕ)) (masks : List ℕ) →
    IsFactorOf M 0 q columns → p ≡ q → r ≡ M.rank → v ≡ columns
    → AreMasks (length v) (λ X. IsBasisOfColumns p r v (members X)) masks → AreBases M masks
bases_are M k p q r v columns masks h pe re ve d = record {
  rising = d.rising;
  exact = λ X. (
    (λ c. let w = (whole X).0 c in (w.0, (basis_same M k 0 q columns h (members X)).0 w.1)),
    (λ w. (whole X).1 (w.0, (basis_same M k 0 q columns h (members X)).1 w.1)),
  );
}
  where
    whole : (X : ℕ) → Contains masks X ↔ ((X < 2 ^ size M) × IsBasisOfColumns q M.rank columns (members X))
    whole X =
        subst (λ (n : ℕ). Contains masks X ↔ ((X < 2 ^ n) × IsBasisOfColumns q M.rank columns (members X))) h.count
        (subst (λ (v : List (ArrayVec ℕ)). Contains masks X ↔ ((X < 2 ^ length v) × IsBasisOfColumns q M.rank v (members X))) ve
        (subst (λ (r : ℕ). Contains masks X ↔ ((X < 2 ^ length v) × IsBasisOfColumns q r v (members X))) re
        (subst (λ (p : ℕ). Contains masks X ↔ ((X < 2 ^ length v) × IsBasisOfColumns p r v (members X))) pe (d.exact X))))

-- whether two answers differ
pub differing : {P Q : Type 0} (a b : Bool) → ((a ≡ true) ↔ P) → ((b ≡ true) ↔ Q) → (not (beq a b) ≡ false) ↔ (P ↔ Q)
differing true true h k = (λ _. (λ p. k.0 refl, λ q. h.0 refl), λ _. refl)
differing true false h k = (λ e. absurd (true≢false e), λ s. absurd (false≢true (k.1 (s.0 (h.0 refl)))))
differing false true h k = (λ e. absurd (true≢false e), λ s. absurd (false≢true (h.1 (s.1 (k.0 refl)))))
differing false false h k = (λ _. (λ p. absurd (false≢true (h.1 p)), λ q. absurd (false≢true (k.1 q))), λ _. refl)
