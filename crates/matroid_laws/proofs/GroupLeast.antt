-- A column whose first code in each group of rows that isn't 0 is 1 is not above the columns whose rows are multiplied by factors of the groups.
use Rattle.std.proofs.Common.{◌≡◌, ◌≢◌, ℕ, suc, ◌+◌, ◌*◌, ◌/◌, ◌%◌, ◌<◌, ◌≤◌, sym, ◌∙◌, ap, subst, arith, List, length, inl, inr, slice_index}
use Rattle.std.proofs.lemmas.Bool.{cases_eq}
use Rattle.std.proofs.lemmas.Nat.{mul-le}
use Rattle.std.proofs.Math.Nat.{mod-lt}
use Rattle.std.specs.Cmp.Lexicographic.{slice_cmp}
use Rattle.std.specs.Ordering.{nat_cmp}
use Rattle.std.specs.declared.cmp.Ordering.TheVariants.{Greater}
use Rattle.matroid_theory.specs.Field.{IsField, times, inverse}
use Rattle.matroid_laws.proofs.First.{row_below, whole}
use Rattle.matrix_lemmas.proofs.Orderings.{least_at_first}

module _ (q : ℕ) (F : IsField q) where
  -- only 0 is fixed by a multiplication by what isn't 1
  fixed_zero : (u x : ℕ) → u < q → u ≢ 1 → x < q → times q u x ≡ x → x ≡ 0
  fixed_zero u x l n m e = elim (cases_eq x 0) [
    | inl z ↦ z
    | inr ne ↦ absurd (n (sym (F.times_comm u 1 ∙ F.times_one u l)
        ∙ ap (times q u) (sym (F.times_inverse x m ne)) ∙ sym (F.times_assoc u x (inverse q x))
        ∙ ap (λ y. times q y (inverse q x)) e ∙ F.times_inverse x m ne))
  ]

  -- 0 stays 0, and 1 doesn't get less
  multiple_at_most : (u x : ℕ) → u < q → u ≢ 0 → (x ≢ 0 → x ≡ 1) → x ≤ times q u x
  multiple_at_most u x l n one = elim (cases_eq x 0) [
    | inl z ↦ omega arith
    | inr ne ↦ (let e : x ≡ 1 = one ne in
        let k : times q u x ≡ u = ap (times q u) e ∙ F.times_comm u 1 ∙ F.times_one u l in
        omega arith)
  ]

-- v and w are columns of count factors and rank rows, of the orders qs
module _ (count rank : ℕ) (qs : ℕ → ℕ) (fields : (f : ℕ) → f < count → IsField (qs f)) (v w : List ℕ) (groups : ℕ → ℕ) (u : ℕ → ℕ → ℕ)
    (v_rows : length v ≡ rank * count) (w_rows : length w ≡ rank * count)
    (codes : (i f : ℕ) → i < rank → f < count → slice_index v (i * count + f) < qs f)
    (leads : (i f : ℕ) → i < rank → f < count → ((k : ℕ) → k < i → groups k ≡ groups i → slice_index v (k * count + f) ≡ 0) →
    slice_index v (i * count + f) ≢ 0 → slice_index v (i * count + f) ≡ 1)
    (u_code : (f g : ℕ) → f < count → u f g < qs f) (u_nonzero : (f g : ℕ) → f < count → u f g ≢ 0)
    (multiples : (i f : ℕ) → i < rank → f < count → slice_index w (i * count + f) ≡ times (qs f) (u f (groups i)) (slice_index v (i * count + f))) where
  at_row : (i f : ℕ) → i < rank → f < count → ((e : ℕ) → e < i * count + f → slice_index v e ≡ slice_index w e) →
      slice_index v (i * count + f) ≤ slice_index w (i * count + f)
  at_row i f l m same = elim (cases_eq (u f (groups i)) 1) [
    | inl e ↦ (let F = fields f m in
        let k : slice_index w (i * count + f) ≡ slice_index v (i * count + f) = multiples i f l m
        ∙ ap (λ s. times (qs f) s (slice_index v (i * count + f))) e ∙ F.times_one (slice_index v (i * count + f)) (codes i f l m) in
        omega arith)
    | inr n ↦ subst (λ x. slice_index v (i * count + f) ≤ x) (sym (multiples i f l m))
        (multiple_at_most (qs f) (fields f m) (u f (groups i)) (slice_index v (i * count + f)) (u_code f (groups i) m)
        (u_nonzero f (groups i) m) (leads i f l m (zeros n)))
  ]
    where
      zeros : u f (groups i) ≢ 1 → (k : ℕ) → k < i → groups k ≡ groups i → slice_index v (k * count + f) ≡ 0
      zeros n k b g =
          fixed_zero (qs f) (fields f m) (u f (groups i)) (slice_index v (k * count + f)) (u_code f (groups i) m) n (codes k f (omega arith) m)
          (ap (λ g. times (qs f) (u f g) (slice_index v (k * count + f))) (sym g) ∙ sym (multiples k f (omega arith) m)
          ∙ sym (same (k * count + f) (let o : suc k * count ≤ i * count = mul-le (suc k) count i count b (omega arith) in omega arith)))

  at_place : (k : ℕ) → k < length v → ((e : ℕ) → e < k → slice_index v e ≡ slice_index w e) → slice_index v k ≤ slice_index w k
  at_place k l same =
      let b : k < rank * count = subst (λ n. k < n) v_rows l in
      let pos : 0 < count = some b in
      let p : k / count * count + k % count ≡ k = whole k count pos in
      subst (λ e. slice_index v e ≤ slice_index w e) p
      (at_row (k / count) (k % count) (row_below k count rank pos b) (mod-lt k pos) (λ e m. same e (subst (λ n. e < n) p m)))
    where
      some : k < rank * count → 0 < count
      some b = elim (cases_eq count 0) [ inl e ↦ (let z : rank * count ≡ rank * 0 = ap (λ c. rank * c) e in absurd (omega arith)) | inr n ↦ omega arith ]

  -- v is not above w
  pub group_least : slice_cmp nat_cmp v w ≢ Greater
  group_least = least_at_first v w (v_rows ∙ sym w_rows) at_place
