-- Groups that become one, and factors of groups, by what a program finds.
use Rattle.std.proofs.Common.{◌≡◌, ◌≢◌, ◌⊎◌, inl, inr, refl, ℕ, zero, suc, ◌<◌, ◌≤◌, Bool, true, false, sym, ◌∙◌, ap, arith, cond}
use Rattle.std.proofs.lemmas.Bool.{cases_lt, cases_eq}
use Rattle.matroid_theory.specs.Field.{times}
use Rattle.matroid_theory.specs.Rep.{Rep, count, order, IsShaped}
use Rattle.form_trails.specs.Trail.{AreZeroBefore, IsMet, TiesGroups}
use Rattle.form_trails.specs.Least.{number, scaled, MakesOnes}
use Rattle.form_trails.proofs.Scalars.{inverse_only}
use Rattle.form_trails.proofs.Entries.{field}
use Rattle.form_trails.proofs.Columns.{number_entries}
use Rattle.matrix_lemmas.proofs.Sums.{times_zero}

-- a code is 0 in all factors or in none
abbrev pub IsSupported : Rep → (ℕ → ℕ → ℕ) → Type 0
IsSupported M c = (f g i : ℕ) → f < count M → g < count M → i < M.rank → c f i ≡ 0 → c g i ≡ 0

module _ (M : Rep) (shaped : IsShaped M) (some : 0 < count M) (k : ℕ) (groups : ℕ → ℕ) (c : ℕ → ℕ → ℕ) (supported : IsSupported M c)
    (zeros : AreZeroBefore M k c) where
  -- groups that have a row that isn't 0 in the first factor are met
  met_by : (i : ℕ) → i < M.rank → c 0 i ≢ 0 → IsMet M groups c (groups i)
  met_by i l n = (i, l, refl, λ f b e. n (supported f 0 i b some l e))

  -- they get the group of row p, which is one of them
  module _ (p : ℕ) (p_below : p < M.rank) (p_nonzero : c 0 p ≢ 0) (met : ℕ → Bool) (marked : (i : ℕ) → i < M.rank → c 0 i ≢ 0 → met (groups i) ≡ true)
      (found : (i : ℕ) → i < M.rank → met (groups i) ≡ true → (j : ℕ) × (j < M.rank) × (groups j ≡ groups i) × (c 0 j ≢ 0))
      (fresh : (i l : ℕ) → i < k → l < M.rank → groups i ≡ groups l → (i ≡ l) ⊎ ((f : ℕ) → f < count M → order M f ≡ 2))
      (more : ℕ → ℕ) (more_is : (i : ℕ) → i < M.rank → more i ≡ cond (met (groups i)) (groups p) (groups i)) where
    decided : (i : ℕ) → i < M.rank → ((met (groups i) ≡ true) × (more i ≡ groups p)) ⊎ ((met (groups i) ≡ false) × (more i ≡ groups i))
    decided i l = elim (met (groups i)) as
        (λ b. met (groups i) ≡ b → ((met (groups i) ≡ true) × (more i ≡ groups p)) ⊎ ((met (groups i) ≡ false) × (more i ≡ groups i))) [
          | true ↦ λ z. inl (z, more_is i l ∙ ap (λ b. cond b (groups p) (groups i)) z)
          | false ↦ λ z. inr (z, more_is i l ∙ ap (λ b. cond b (groups p) (groups i)) z)
        ] refl

    differ : true ≡ false → ⊥
    differ e = cc

    p_met : met (groups p) ≡ true
    p_met = marked p p_below p_nonzero

    found_met : (i : ℕ) → i < M.rank → met (groups i) ≡ true → IsMet M groups c (groups i)
    found_met i l m = let (j, b, e, n) = found i l m in (j, b, e, λ f q z. n (supported f 0 j q some b z))

    merged : (i l : ℕ) → i < M.rank → l < M.rank → more i ≡ more l → (groups i ≡ groups l) ⊎ (IsMet M groups c (groups i) × IsMet M groups c (groups l))
    merged i l b o e = elim (decided i b) [
      | inl w ↦ elim (decided l o) [
        | inl v ↦ inr (found_met i b w.0, found_met l o v.0)
        | inr v ↦ absurd (differ (sym p_met ∙ ap met (sym w.1 ∙ e ∙ v.1) ∙ v.0))
      ]
      | inr w ↦ elim (decided l o) [
        | inl v ↦ absurd (differ (sym p_met ∙ ap met (sym v.1 ∙ sym e ∙ w.1) ∙ w.0))
        | inr v ↦ inl (sym w.1 ∙ e ∙ v.1)
      ]
    ]

    nonzero_at : (f i : ℕ) → f < count M → i < M.rank → c f i ≢ 0 → c 0 i ≢ 0
    nonzero_at f i l b n e = n (supported 0 f i some l b e)

    to_p : (i : ℕ) → i < M.rank → c 0 i ≢ 0 → more i ≡ groups p
    to_p i b n = more_is i b ∙ ap (λ b. cond b (groups p) (groups i)) (marked i b n)

    -- a row that is 0 in the first factor
    zero_row : (i : ℕ) → i < k → c 0 i ≡ 0
    zero_row i l = zeros 0 i some l

    met_row : (i : ℕ) → i < k → i < M.rank → IsMet M groups c (groups i) → ((f : ℕ) → f < count M → order M f ≡ 2)
    met_row i l b (j, o, e, n) = elim (fresh i j l o (sym e)) [
      | inl z ↦ absurd (n 0 some (ap (c 0) (sym z) ∙ zero_row i l))
      | inr two ↦ two
    ]

    pub ties_by : k ≤ M.rank → TiesGroups M k groups c more
    ties_by low = record {
      kept = λ i l b o e. more_is i b ∙ ap (λ g. cond (met g) (groups p) g) e ∙ sym (more_is l o);
      merged = λ i l _ b _ o e. merged i l b o e;
      together = λ f g i l b b' t t' n n'. to_p i t (nonzero_at f i b t n) ∙ sym (to_p l t' (nonzero_at g l b' t' n'));
      fresh = λ i l b o e. elim (merged i l (omega arith) o e) [
        | inl z ↦ fresh i l b o z
        | inr w ↦ inr (met_row i b (omega arith) w.0)
      ];
    }

-- ---- factors of groups

-- the same product whatever the factors of the groups that aren't met
pub ones_same : (M : Rep) → IsShaped M → 0 < count M → (groups : ℕ → ℕ) (c own other : ℕ → ℕ → ℕ) →
    ((f i : ℕ) → f < count M → i < M.rank → c f i < order M f) → MakesOnes M groups c own → MakesOnes M groups c other
    → number M (scaled M groups own c) ≡ number M (scaled M groups other c)
ones_same M shaped some groups c own other codes a b = number_entries M (scaled M groups own c) (scaled M groups other c) (λ f i l m. by_first f i l m)
  where
    -- at the first row of the group that isn't 0 the factors agree
    at_first : (f j : ℕ) → f < count M → j < M.rank → ((e : ℕ) → e < j → groups e ≡ groups j → c f e ≡ 0) → c f j ≢ 0 → own f (groups j) ≡ other f (groups j)
    at_first f j l m z n = let F = field M shaped f l in
        inverse_only (order M f) F (c f j) (own f (groups j)) (record { code = codes f j l m; nonzero = n })
        (a.codes f (groups j) l) (F.times_comm (c f j) (own f (groups j)) ∙ a.leads f j l m z n)
        ∙ sym (inverse_only (order M f) F (c f j) (other f (groups j)) (record { code = codes f j l m; nonzero = n })
        (b.codes f (groups j) l) (F.times_comm (c f j) (other f (groups j)) ∙ b.leads f j l m z n))

    -- a row that isn't 0 has a first one in its group
    first_of : (f g n : ℕ) →
        ((e : ℕ) → e < n → groups e ≡ g → c f e ≡ 0)
        ⊎ ((j : ℕ) × (j < n) × (groups j ≡ g) × (c f j ≢ 0) × ((e : ℕ) → e < j → groups e ≡ g → c f e ≡ 0))
    first_of f g zero = inl (λ e l. absurd (omega arith))
    first_of f g (suc n) = elim (first_of f g n) [
      | inr w ↦ (let (j, l, e, m, z) = w in inr (j, omega arith, e, m, z))
      | inl z ↦ elim (cases_eq (c f n) 0) [
        | inl o ↦ inl (λ e l v. elim (cases_lt e n) [ inl q ↦ z e q v | inr q ↦ (let y : e ≡ n = omega arith in ap (c f) y ∙ o) ])
        | inr o ↦ elim (cases_eq (groups n) g) [
          | inl e ↦ inr (n, omega arith, e, o, z)
          | inr ne ↦ inl (λ e l v. elim (cases_lt e n) [ inl q ↦ z e q v | inr q ↦ absurd (ne (let y : e ≡ n = omega arith in ap groups (sym y) ∙ v)) ])
        ]
      ]
    ]

    by_first : (f i : ℕ) → f < count M → i < M.rank → scaled M groups own c f i ≡ scaled M groups other c f i
    by_first f i l m = elim (cases_eq (c f i) 0) [
      | inl e ↦ (let F = field M shaped f l in ap (times (order M f) (own f (groups i))) e ∙ times_zero (order M f) F (own f (groups i))
          ∙ sym (ap (times (order M f) (other f (groups i))) e ∙ times_zero (order M f) F (other f (groups i))))
      | inr ne ↦ elim (first_of f (groups i) (suc i)) [
        | inl z ↦ absurd (ne (z i (omega arith) refl))
        | inr w ↦ (let (j, q, e, o, z) = w in
            ap (λ y. times (order M f) y (c f i)) (ap (own f) (sym e) ∙ at_first f j l (omega arith) (λ y v u. z y v (u ∙ e)) o ∙ ap (other f) e))
      ]
    ]
