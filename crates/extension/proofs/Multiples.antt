-- Two columns, of which the later one is 1 in a row, are dependent exactly where the other is a multiple of it.
use Rattle.std.proofs.Common.{◌≡◌, ◌≢◌, ℕ, suc, ◌<◌, refl, sym, ◌∙◌, ap, subst, arith, cond, Bool, true, false, ◌||◌, inl, inr}
use Rattle.std.specs.Bool.{◌==◌}
use Rattle.std.proofs.lemmas.Bool.{cases_eq}
use mathlib.Core.Bool.{true≢false}
use Rattle.matroid_theory.specs.Field.{IsField, plus, times, negative, inverse}
use Rattle.matroid_theory.specs.Matrix.{Matrix, combination, AreCoefficients, IsIndependent}
use Rattle.matrix_lemmas.proofs.Pairs.{pair}
use Rattle.matrix_lemmas.proofs.Sums.{zero_below, same_number, other_number, times_zero, sum_one, plus_cancel}

module _ (q : ℕ) (F : IsField q) where
  -- a factor that isn't 0 can be left out
  times_cancel : (x u v : ℕ) → x < q → x ≢ 0 → u < q → v < q → times q x u ≡ times q x v → u ≡ v
  times_cancel x u v l n m o e = sym (undone u m) ∙ ap (times q (inverse q x)) e ∙ undone v o
    where
      undone : (u : ℕ) → u < q → times q (inverse q x) (times q x u) ≡ u
      undone u m = sym (F.times_assoc (inverse q x) x u) ∙ ap (λ y. times q y u) (F.times_comm (inverse q x) x ∙ F.times_inverse x l n) ∙ F.times_one u m

  module _ (r n : ℕ) (A : Matrix) (j : ℕ) (l : j < n) where
    outside_pair : (k : ℕ) → k ≢ n → k ≢ j → pair n j k ≡ false
    outside_pair k a b i = (other_number k n a i) || (other_number k j b i)

    -- a combination of the two has two terms
    two_terms : (a : ℕ → ℕ) → AreCoefficients q (suc n) (pair n j) a → (i : ℕ) →
        combination q (suc n) A a i ≡ plus q (times q (A i j) (a j)) (times q (A i n) (a n))
    two_terms a c i = ap (λ s. plus q s (times q (A i n) (a n))) (sum_one q F n j (λ k. times q (A i k) (a k)) l (F.times_below (A i j) (a j))
        (λ k m ne. ap (times q (A i k)) (c.outside k (omega arith) (outside_pair k (λ e. absurd (omega arith)) ne)) ∙ times_zero q F (A i k)))

    -- the coefficients 1 and minus a number
    coefficient : ℕ → ℕ → ℕ
    coefficient c k = cond (k == n) (negative q c) (cond (k == j) 1 0)

    at_new : (c : ℕ) → coefficient c n ≡ negative q c
    unfolding coefficient
    at_new c = ap (λ b. cond b (negative q c) (cond (n == j) 1 0)) (same_number n)

    at_old : (c : ℕ) → coefficient c j ≡ 1
    unfolding coefficient
    at_old c = ap (λ b. cond b (negative q c) (cond (j == j) 1 0)) (other_number j n (λ e. absurd (omega arith))) ∙ ap (λ b. cond b 1 0) (same_number j)

    at_other : (c k : ℕ) → k ≢ n → k ≢ j → coefficient c k ≡ 0
    unfolding coefficient
    at_other c k a b = ap (λ x. cond x (negative q c) (cond (k == j) 1 0)) (other_number k n a) ∙ ap (λ x. cond x 1 0) (other_number k j b)

    are_coefficients : (c : ℕ) → AreCoefficients q (suc n) (pair n j) (coefficient c)
    are_coefficients c = record {
      codes = λ k _. elim (cases_eq k n) [
        | inl e ↦ subst (λ (x : ℕ). x < q) (sym (ap (coefficient c) e ∙ at_new c)) (F.negative_below c)
        | inr a ↦ elim (cases_eq k j) [
          | inl e ↦ subst (λ (x : ℕ). x < q) (sym (ap (coefficient c) e ∙ at_old c)) F.two
          | inr b ↦ subst (λ (x : ℕ). x < q) (sym (at_other c k a b)) (zero_below q F)
        ]
      ];
      outside = λ k _ o. at_other c k (λ e. true≢false (sym (ap (λ b. b || (k == j)) (ap (λ x. x == n) e ∙ same_number n)) ∙ o))
          (λ e. true≢false (sym (right (k == n) (k == j) (ap (λ x. x == j) e ∙ same_number j)) ∙ o));
    }
      where
        right : (a b : Bool) → b ≡ true → (a || b) ≡ true
        right true b t = refl
        right false b t = t

    pub multiple_dependent : (c : ℕ) → c < q → ((i : ℕ) → i < r → A i j ≡ times q c (A i n)) → ¬ (IsIndependent q r (suc n) A (pair n j))
    multiple_dependent c b h d =
        let z : coefficient c j ≡ 0 = d.only_zero (coefficient c) (are_coefficients c) zero j (omega arith) in
        let o : coefficient c j ≡ 1 = at_old c in
        omega arith
      where
        zero : (i : ℕ) → i < r → combination q (suc n) A (coefficient c) i ≡ 0
        zero i m =
            two_terms (coefficient c) (are_coefficients c) i
            ∙ (λ t. plus q (times q (h i m t) (at_old c t)) (times q (A i n) (at_new c t)))
            ∙ ap (λ x. plus q x (times q (A i n) (negative q c)))
            (F.times_comm (times q c (A i n)) 1 ∙ F.times_one (times q c (A i n)) (F.times_below c (A i n)) ∙ F.times_comm c (A i n))
            ∙ sym (F.times_plus (A i n) c (negative q c)) ∙ ap (times q (A i n)) (F.plus_negative c) ∙ times_zero q F (A i n)

    pub apart_independent : (lead : ℕ) → lead < r → A lead n ≡ 1 → ((i : ℕ) → i < r → A i j < q) →
        ¬ ((i : ℕ) → i < r → A i j ≡ times q (A lead j) (A i n)) → IsIndependent q r (suc n) A (pair n j)
    apart_independent lead b one codes h = record {
      only_zero = λ a c z k m.
          elim (cases_eq (a j) 0) [
            | inr ne ↦ absurd (h (multiple a c z ne))
            | inl e ↦ elim (cases_eq k n) [
              | inl s ↦ ap a s ∙ new_zero a c z e
              | inr s ↦ elim (cases_eq k j) [ inl t ↦ ap a t ∙ e | inr t ↦ c.outside k m (outside_pair k s t) ]
            ]
          ];
    }
      where
        -- in the row of the lead the new column's term is its coefficient
        at_lead : (y : ℕ) → y < q → times q (A lead n) y ≡ y
        at_lead y m = ap (λ x. times q x y) one ∙ F.times_one y m

        new_zero : (a : ℕ → ℕ) → AreCoefficients q (suc n) (pair n j) a → ((i : ℕ) → i < r → combination q (suc n) A a i ≡ 0) → a j ≡ 0 → a n ≡ 0
        new_zero a c z e =
            let m : a n < q = c.codes n (omega arith) in
            sym (F.plus_zero (a n) m)
            ∙ (λ t. plus q (sym (ap (times q (A lead j)) e ∙ times_zero q F (A lead j)) t) (sym (at_lead (a n) m) t))
            ∙ sym (two_terms a c lead) ∙ z lead b

        multiple : (a : ℕ → ℕ) → AreCoefficients q (suc n) (pair n j) a → ((i : ℕ) → i < r → combination q (suc n) A a i ≡ 0) →
            a j ≢ 0 → (i : ℕ) → i < r → A i j ≡ times q (A lead j) (A i n)
        multiple a c z ne i m =
            let x : a j < q = c.codes j (omega arith) in
            let y : a n < q = c.codes n (omega arith) in
            let k : ℕ = times q (A i n) (a n) in
            -- y times the new column, and x times the old one, both make 0 with it
            let s : plus q k (times q (A i j) (a j)) ≡ 0 = F.plus_comm k (times q (A i j) (a j)) ∙ sym (two_terms a c i) ∙ z i m in
            let t : plus q (a n) (times q (A lead j) (a j)) ≡ 0 = F.plus_comm (a n) (times q (A lead j) (a j))
            ∙ (λ u. plus q (times q (A lead j) (a j)) (sym (at_lead (a n) y) u)) ∙ sym (two_terms a c lead) ∙ z lead b in
            let w : plus q k (times q (A i n) (times q (A lead j) (a j))) ≡ 0 =
            sym (F.times_plus (A i n) (a n) (times q (A lead j) (a j))) ∙ ap (times q (A i n)) t ∙ times_zero q F (A i n) in
            let e : times q (A i j) (a j) ≡ times q (A i n) (times q (A lead j) (a j)) = plus_cancel q F k (times q (A i j) (a j))
            (times q (A i n) (times q (A lead j) (a j))) (F.times_below (A i j) (a j))
            (F.times_below (A i n) (times q (A lead j) (a j))) (s ∙ sym w) in
            times_cancel (a j) (A i j) (times q (A lead j) (A i n)) x ne (codes i m) (F.times_below (A lead j) (A i n))
            (F.times_comm (a j) (A i j) ∙ e ∙ F.times_comm (A i n) (times q (A lead j) (a j))
            ∙ ap (λ u. times q u (A i n)) (F.times_comm (A lead j) (a j)) ∙ F.times_assoc (a j) (A lead j) (A i n))
