-- A representation followed by one more column: when it is simple, and when its factors agree.
use Rattle.std.proofs.Common.{◌≡◌, ◌≢◌, ◌↔◌, ℕ, suc, ◌+◌, ◌<◌, ◌≤◌, refl, sym, ◌∙◌, ap, subst, arith, add-one, List, Bool, true, false, ◌||◌, inl, inr}
use Rattle.std.specs.Bool.{◌==◌}
use Rattle.std.proofs.lemmas.Bool.{cases_lt, cases_Bool}
use mathlib.Core.Bool.{true≢false}
use Rattle.matroid_theory.specs.Matrix.{size_below, IsIndependent}
use Rattle.matroid_theory.specs.Rep.{Rep, size, count, order, matrix, IsShaped, IsStandard, KeepsLimits, IsProductColumn}
use Rattle.matroid_theory.specs.Matroid.{members, IsIndependentIn, IsBasis, Agrees, IsSimple}
use Rattle.matroid_theory.specs.Level.{followed_by, IsNormalised}
use Rattle.matrix_lemmas.proofs.Bases.{with_own, with_other, smaller_independent}
use Rattle.matrix_lemmas.proofs.FieldLaws.{field_laws}
use Rattle.matroid_laws.proofs.Followed.{matrix_before, size_followed, shaped_pushed}
use Rattle.matrix_lemmas.proofs.Masks.{mask, mask-below, members-mask, size-same, IsIndependent-same, IsBasis-same}
use Rattle.matrix_lemmas.proofs.Pairs.{pair, pairs_both}
use Rattle.matrix_lemmas.proofs.Picked.{size_more}
use Rattle.matrix_lemmas.proofs.Ranks.{without_last, IsIndependent-codes, but, but_own, but_other}
use Rattle.matroid_laws.proofs.Rest.{basis_in_whole, basis_in_part}
use Rattle.matrix_lemmas.proofs.Sums.{same_number, other_number}
use Rattle.extension.specs.Admissible.{IsAdmissible}
use Rattle.extension.specs.Steps.{IsAlikeWith, with_new}

pub rep_followed : (M : Rep) (v : List ℕ) → KeepsLimits M → size M < 16 → IsProductColumn M.factors M.rank v → KeepsLimits (followed_by M v)
rep_followed M v r room c = record {
  fields = r.fields;
  rank_positive = r.rank_positive;
  rank_most = r.rank_most;
  size_most = (let k : size (followed_by M v) ≡ suc (size M) = size_followed M v in omega arith);
  shaped = shaped_pushed M v r.shaped c;
}

module _ (M : Rep) (v : List ℕ) where
  -- ---- sets with the new column

  new_last : (S : ℕ → Bool) → with_new M S (size M) ≡ true
  new_last S = with_own (size M) S

  new_before : (S : ℕ → Bool) (j : ℕ) → j < size M → with_new M S j ≡ S j
  new_before S j l = with_other (size M) S j (λ e. absurd (omega arith))

  pub size_new : (S : ℕ → Bool) → size_below (size (followed_by M v)) (with_new M S) ≡ size_below (size M) S + 1
  size_new S =
      let a : size_below (suc (size M)) (with_new M S) ≡ suc (size_below (size M) (with_new M S)) = size_more (size M) (with_new M S) (new_last S) in
      let b : size_below (size M) (with_new M S) ≡ size_below (size M) S = size-same (size M) (with_new M S) S (new_before S) in
      ap (λ n. size_below n (with_new M S)) (size_followed M v) ∙ a ∙ ap (λ n. suc n) b ∙ sym (add-one (size_below (size M) S))

  -- ---- when it is simple

  -- in each factor the new column is parallel to none
  abbrev pub IsApart : Type 0
  IsApart = (f j : ℕ) → f < count M → j < size M → IsIndependentIn (followed_by M v) f (pair (size M) j)

  module _ (shaped : IsShaped M) where
    -- a set without the new column
    pub in_whole : (f : ℕ) → f < count M → (T : ℕ → Bool) → T (size M) ≡ false → IsIndependentIn M f T → IsIndependentIn (followed_by M v) f T
    in_whole f l T e d = subst (λ n. IsIndependent (order M f) M.rank n (matrix (followed_by M v) f) T) (sym (size_followed M v))
        (without_last (order M f) (field_laws (order M f) (shaped.orders f l)) M.rank (size M) (matrix (followed_by M v) f) T e
        (IsIndependent-codes (order M f) M.rank (size M) (matrix M f) (matrix (followed_by M v) f) T (λ i j _ m. sym (matrix_before M v f i j m)) d))

    both_false : (a b : Bool) → a ≡ false → b ≡ false → (a || b) ≡ false
    both_false a b e h = (λ i. e i || h i)

    pair_false : (i j k : ℕ) → pair i j k ≡ false → (k ≢ i) × (k ≢ j)
    pair_false i j k e = (
      (λ h. true≢false (sym (ap (λ b. b || (k == j)) (ap (λ x. x == i) h ∙ same_number i)) ∙ e)),
      (λ h. true≢false (sym (right (k == i) (k == j) (ap (λ x. x == j) h ∙ same_number j)) ∙ e)),
    )
      where
        right : (a b : Bool) → b ≡ true → (a || b) ≡ true
        right true b t = refl
        right false b t = t

    none_of : (i j k : ℕ) → k ≢ i → k ≢ j → pair i j k ≡ false
    none_of i j k a b = both_false (k == i) (k == j) (other_number k i a) (other_number k j b)

    pub simple_followed : 0 < size M → IsSimple M → IsApart → IsSimple (followed_by M v)
    simple_followed some simple apart f i j l =
        let n : size (followed_by M v) ≡ suc (size M) = size_followed M v in
        pairs_both (followed_by M v) f (size (followed_by M v)) (λ j m i o. elim (cases_lt j (size M)) [
          | inl b ↦ in_whole f l (pair i j) (none_of i j (size M) (λ e. absurd (omega arith)) (λ e. absurd (omega arith))) (simple f i j l (omega arith) b)
          | inr g ↦ (let e : size M ≡ j = omega arith in subst (λ (x : ℕ). IsIndependentIn (followed_by M v) f (pair i x)) e
              (elim (cases_lt i (size M)) [
                | inl b ↦ IsIndependent-same (order M f) M.rank (size (followed_by M v)) (matrix (followed_by M v) f)
                    (pair (size M) i) (pair i (size M)) (λ k _. turned (k == size M) (k == i)) (apart f i l b)
                | inr h ↦ smaller_independent (order M f) M.rank (size (followed_by M v)) (matrix (followed_by M v) f) (pair i (size M)) (pair (size M) 0)
                    (λ k _ z. let d = pair_false (size M) 0 k z in
                    none_of i (size M) k (λ c. d.0 (c ∙ (let q : i ≡ size M = omega arith in q))) d.0) (apart f 0 l some)
              ]))
        ]) i j
      where
        turned : (a b : Bool) → (a || b) ≡ (b || a)
        turned true true = refl
        turned true false = refl
        turned false true = refl
        turned false false = refl

    pub apart_of_simple : IsSimple (followed_by M v) → IsApart
    apart_of_simple simple f j l m = (let n : size (followed_by M v) ≡ suc (size M) = size_followed M v in simple f (size M) j l (omega arith) (omega arith))

  -- ---- when its factors agree

  module _ (shaped : IsShaped (followed_by M v)) (pos : 0 < count M) where
    -- a set with the new column, by the mask of the others
    by_mask : (S : ℕ → Bool) → S (size M) ≡ true → (j : ℕ) → j < size (followed_by M v) → S j ≡ with_new M (members (mask (size M) S)) j
    by_mask S t j l =
        let n : size (followed_by M v) ≡ suc (size M) = size_followed M v in
        elim (cases_lt j (size M)) [
          | inl b ↦ sym (new_before (members (mask (size M) S)) j b ∙ members-mask (size M) S j b)
          | inr g ↦ (let e : j ≡ size M = omega arith in ap S e ∙ t ∙ sym (new_last (members (mask (size M) S)))
              ∙ ap (with_new M (members (mask (size M) S))) (sym e))
        ]

    -- a basis of one factor with the new column is one of each
    with_new_same : IsAlikeWith M v → (f g : ℕ) → f < count M → g < count M → (S : ℕ → Bool) → S (size M) ≡ true →
        IsBasis (followed_by M v) f S → IsBasis (followed_by M v) g S
    with_new_same h f g l m S t b =
        let X : ℕ = mask (size M) S in
        let full : size_below (size M) (members X) + 1 ≡ M.rank = (
        sym (size_new (members X)) ∙ sym (size-same (size (followed_by M v)) S (with_new M (members X)) (by_mask S t)) ∙ b.full) in
        let to = h X f (mask-below (size M) S) full l in
        let from = h X g (mask-below (size M) S) full m in
        record {
          full = b.full;
          independent = back g (from.0 (to.1 (there f b.independent)));
        }
      where
        there : (f : ℕ) → IsIndependentIn (followed_by M v) f S → IsIndependentIn (followed_by M v) f (with_new M (members (mask (size M) S)))
        there f = IsIndependent-same (order M f) M.rank (size (followed_by M v)) (matrix (followed_by M v) f) S
            (with_new M (members (mask (size M) S))) (by_mask S t)

        back : (f : ℕ) → IsIndependentIn (followed_by M v) f (with_new M (members (mask (size M) S))) → IsIndependentIn (followed_by M v) f S
        back f = IsIndependent-same (order M f) M.rank (size (followed_by M v)) (matrix (followed_by M v) f)
            (with_new M (members (mask (size M) S))) S (λ j l. sym (by_mask S t j l))

    pub agrees_followed : Agrees M → IsAlikeWith M v → Agrees (followed_by M v)
    agrees_followed a h = record {
      some = λ f l. (
          let (S, b) = a.some f l in (
            but (size M) S,
            basis_in_whole M v shaped f l (but (size M) S) (but_own (size M) S)
                (IsBasis-same M f S (but (size M) S) (λ j o. sym (but_other (size M) S j (λ e. absurd (omega arith)))) b),
          ));
      same = λ f g l m S b. elim (cases_Bool (S (size M))) [
        | inl t ↦ with_new_same h f g l m S t b
        | inr e ↦ basis_in_whole M v shaped g m S e (a.same f g l m S (basis_in_part M v shaped f l S e b))
      ];
    }

    pub alike_of_agrees : Agrees (followed_by M v) → IsAlikeWith M v
    alike_of_agrees a X f l e m = (step 0 f pos m, step f 0 m pos)
      where
        step : (f g : ℕ) → f < count M → g < count M → IsIndependentIn (followed_by M v) f (with_new M (members X)) →
            IsIndependentIn (followed_by M v) g (with_new M (members X))
        step f g l m d = (let b = a.same f g l m (with_new M (members X)) (record { full = size_new (members X) ∙ e; independent = d }) in b.independent)

    -- for one factor, nothing is to be seen
    pub alike_of_one : count M ≡ 1 → IsAlikeWith M v
    alike_of_one e X f l k m =
        (let z : 0 ≡ f = omega arith in
        subst (λ (f : ℕ). IsIndependentIn (followed_by M v) 0 (with_new M (members X)) ↔ IsIndependentIn (followed_by M v) f
        (with_new M (members X))) z (λ d. d, λ d. d))

-- ---- when the column is admissible

pub followed_shaped : (M : Rep) (v : List ℕ) → KeepsLimits M → IsNormalised M.factors M.rank v → IsShaped (followed_by M v)
followed_shaped M v r n = shaped_pushed M v r.shaped n.is_column

pub admissible : (M : Rep) (v : List ℕ) → KeepsLimits M → IsStandard M → IsSimple M → Agrees M → IsNormalised M.factors M.rank v →
    IsApart M v → IsAlikeWith M v → IsAdmissible M v
admissible M v r s simple agrees n apart alike = record {
  normalised = n;
  simple = simple_followed M v r.shaped (let a : 0 < M.rank = r.rank_positive in let b : M.rank ≤ size M = s.room in omega arith) simple apart;
  agrees = agrees_followed M v (followed_shaped M v r n) (let fs = r.fields in fs.some) agrees alike;
}
