-- The columns of a set, picked out in order, are independent exactly where the set is.
use Rattle.std.proofs.Common.{◌≡◌, ℕ, zero, suc, ◌+◌, ◌<◌, refl, sym, ◌∙◌, ap, subst, arith, cond, Bool, true, false, inl, inr}
use Rattle.std.proofs.lemmas.Bool.{cases_lt, cases_Bool}
use mathlib.Core.Bool.{true≢false}
use Rattle.matroid_theory.specs.Field.{plus, times, IsField}
use Rattle.matroid_theory.specs.Matrix.{Matrix, sum_below, size_below, IsIndependent}
use Rattle.matrix_lemmas.proofs.Sums.{zero_below, plus_zero_right, sum_same, sum_below-code, times_zero}

-- ps lists the members of S below n in rising order, by its first size_below n S places
pub record Picks (n : ℕ) (S : ℕ → Bool) (ps : ℕ → ℕ) : Type 0 where
  pub below : (l : ℕ) → l < size_below n S → ps l < n
  pub member : (l : ℕ) → l < size_below n S → S (ps l) ≡ true
  pub place : (j : ℕ) → j < n → S j ≡ true → ps (size_below j S) ≡ j
  pub rank : (l : ℕ) → l < size_below n S → size_below (ps l) S ≡ l

pub size_more : (n : ℕ) (S : ℕ → Bool) → S n ≡ true → size_below (suc n) S ≡ suc (size_below n S)
size_more n S e = let h : size_below (suc n) S ≡ size_below n S + 1 = ap (λ b. size_below n S + cond b 1 0) e in omega arith

pub size_stays : (n : ℕ) (S : ℕ → Bool) → S n ≡ false → size_below (suc n) S ≡ size_below n S
size_stays n S e = let h : size_below (suc n) S ≡ size_below n S + 0 = ap (λ b. size_below n S + cond b 1 0) e in omega arith

pub size_grows : (j n : ℕ) (S : ℕ → Bool) → j < n → S j ≡ true → size_below j S < size_below n S
size_grows j zero S l e = absurd (omega arith)
size_grows j (suc n) S l e =
    elim (cases_lt j n) [
      | inl b ↦ (let h : size_below j S < size_below n S = size_grows j n S b e in
          elim (cases_Bool (S n)) [
            | inl t ↦
                (let k : size_below (suc n) S ≡ suc (size_below n S) = size_more n S t in omega arith)
            | inr f ↦
                (let k : size_below (suc n) S ≡ size_below n S = size_stays n S f in omega arith)
          ])
      | inr g ↦ (let i : j ≡ n = omega arith in
          let k : size_below (suc n) S ≡ suc (size_below n S) = size_more n S (sym (ap S i) ∙ e) in
          let m : size_below j S ≡ size_below n S = ap (λ x. size_below x S) i in omega arith)
    ]

module _ (q : ℕ) (F : IsField q) (S : ℕ → Bool) (ps : ℕ → ℕ) where
  -- a sum over the set is the sum over the picked
  picked_sum : (n : ℕ) → ((j : ℕ) → j < n → S j ≡ true → ps (size_below j S) ≡ j) → (f : ℕ → ℕ) →
      ((j : ℕ) → j < n → S j ≡ false → f j ≡ 0) → sum_below q n f ≡ sum_below q (size_below n S) (λ l. f (ps l))
  picked_sum zero at f z = refl
  picked_sum (suc n) at f z =
      elim (cases_Bool (S n)) [
        | inl t ↦ ((λ i. plus q (picked_sum n (λ j l. at j (omega arith)) f (λ j l. z j (omega arith)) i) (f (sym (at n (omega arith) t) i)))
            ∙ ap (λ k. sum_below q k (λ l. f (ps l))) (sym (size_more n S t)))
        | inr e ↦ (ap (plus q (sum_below q n f)) (z n (omega arith) e) ∙ plus_zero_right q F (sum_below q n f) (sum_below-code q F n f)
            ∙ picked_sum n (λ j l. at j (omega arith)) f (λ j l. z j (omega arith)) ∙ ap (λ k. sum_below q k (λ l. f (ps l))) (sym (size_stays n S e)))
      ]

  module _ (r n : ℕ) (A : Matrix) (p : Picks n S ps) where
    pub picked_independent : IsIndependent q r (size_below n S) (λ i l. A i (ps l)) (λ _. true) → IsIndependent q r n A S
    picked_independent h = record {
      only_zero = λ a c z j l. elim (cases_Bool (S j)) [
        | inl t ↦ (sym (ap a (p.place j l t))
            ∙ h.only_zero (λ k. a (ps k)) (record { codes = λ k m. c.codes (ps k) (p.below k m); outside = λ k m o. absurd (true≢false o) })
            (λ i m. sym (picked_sum n p.place (λ j. times q (A i j) (a j))
            (λ j k o. ap (times q (A i j)) (c.outside j k o) ∙ times_zero q F (A i j))) ∙ z i m) (size_below j S) (size_grows j n S l t))
        | inr f ↦ c.outside j l f
      ];
    }

    -- the coefficients of the set that belong to those of the picked
    placed : (ℕ → ℕ) → ℕ → ℕ
    placed c j = cond (S j) (c (size_below j S)) 0

    placed-at : (c : ℕ → ℕ) (l : ℕ) → l < size_below n S → placed c (ps l) ≡ c l
    unfolding placed
    placed-at c l m = ap (λ b. cond b (c (size_below (ps l) S)) 0) (p.member l m) ∙ ap c (p.rank l m)

    placed-outside : (c : ℕ → ℕ) (j : ℕ) → S j ≡ false → placed c j ≡ 0
    unfolding placed
    placed-outside c j e = ap (λ b. cond b (c (size_below j S)) 0) e

    placed-code : (c : ℕ → ℕ) → ((l : ℕ) → l < size_below n S → c l < q) → (j : ℕ) → j < n → placed c j < q
    unfolding placed
    placed-code c h j l = elim (cases_Bool (S j)) [
      | inl t ↦ subst (λ (x : ℕ). x < q) (sym (ap (λ b. cond b (c (size_below j S)) 0) t)) (h (size_below j S) (size_grows j n S l t))
      | inr e ↦ subst (λ (x : ℕ). x < q) (sym (ap (λ b. cond b (c (size_below j S)) 0) e)) (zero_below q F)
    ]

    pub set_independent : IsIndependent q r n A S → IsIndependent q r (size_below n S) (λ i l. A i (ps l)) (λ _. true)
    set_independent h = record {
      only_zero = λ c d z l m.
          sym (placed-at c l m) ∙ h.only_zero (placed c) (record { codes = placed-code c d.codes; outside = λ j k e. placed-outside c j e })
          (λ i k. picked_sum n p.place (λ j. times q (A i j) (placed c j)) (λ j o e. ap (times q (A i j)) (placed-outside c j e) ∙ times_zero q F (A i j))
          ∙ sum_same q F (size_below n S) (λ l. times q (A i (ps l)) (placed c (ps l))) (λ l. times q (A i (ps l)) (c l))
          (λ l m. ap (times q (A i (ps l))) (placed-at c l m)) ∙ z i k) (ps l) (p.below l m);
    }
