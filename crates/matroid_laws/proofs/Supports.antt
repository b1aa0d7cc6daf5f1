-- A column after a standard matrix: with the unit columns but one it is a basis exactly where its code in that row isn't zero.
use Rattle.std.proofs.Common.{◌≡◌, ◌≢◌, ℕ, zero, suc, ◌+◌, ◌<◌, ◌≤◌, refl, sym, ◌∙◌, ap, subst, arith, cond, Bool, true, false, inl, inr}
use Rattle.std.specs.Bool.{◌==◌, nat_lt}
use Rattle.std.proofs.lemmas.Bool.{cases_lt, cases_eq, lt-ltb, le-ltb}
use mathlib.Core.Bool.{true≢false}
use Rattle.matroid_theory.specs.Field.{plus, times, negative, IsField}
use Rattle.matroid_theory.specs.Matrix.{Matrix, combination, unit, size_below, AreCoefficients, IsIndependent}
use Rattle.matrix_lemmas.proofs.Sums.{zero_below, plus_zero_right, times_zero, zero_times}
use Rattle.matrix_lemmas.proofs.Frobenius.{times_nonzero}
use Rattle.matrix_lemmas.proofs.Invertible.{combination_zero}
use Rattle.matrix_lemmas.proofs.Ranks.{with_last, last_own, combination_last, last_coefficients, but, but_own, but_other, size_but}
use Rattle.matrix_lemmas.proofs.Bases.{with_element, with_own, with_other, size_with}
use Rattle.matrix_lemmas.proofs.Units.{units_row}
use Rattle.matroid_laws.proofs.Rest.{size_front}

-- the first r columns but column i, and column n
abbrev pub exchanged : ℕ → ℕ → ℕ → ℕ → Bool
exchanged r n i = with_element n (but i (λ j. nat_lt j r))

-- its numbers before n are the same
before_last : (r n i j : ℕ) → j < n → exchanged r n i j ≡ but i (λ j. nat_lt j r) j
before_last r n i j l = with_other n (but i (λ j. nat_lt j r)) j (λ e. absurd (omega arith))

but_none : (i j : ℕ) (S : ℕ → Bool) → S j ≡ false → but i S j ≡ false
but_none i j S e = elim (j == i) as (λ b. cond b false (S j) ≡ false) [ true ↦ refl | false ↦ e ]

pub size_exchanged : (r n i : ℕ) → r ≤ n → i < r → size_below (suc n) (exchanged r n i) ≡ r
size_exchanged r n i le l =
    let a : size_below (suc n) (exchanged r n i) ≡ size_below (suc n) (but i (λ j. nat_lt j r)) + 1 =
    size_with n (suc n) (but i (λ j. nat_lt j r)) (omega arith) (but_none i n (λ j. nat_lt j r) (le-ltb n r le)) in
    let b : size_below (suc n) (but i (λ j. nat_lt j r)) + 1 ≡ size_below (suc n) (λ j. nat_lt j r) =
    size_but i (suc n) (λ j. nat_lt j r) (omega arith) (lt-ltb i r l) in
    a ∙ b ∙ size_front r (suc n) (omega arith)

module _ (q : ℕ) (F : IsField q) (r n : ℕ) (A : Matrix) (le : r ≤ n) (u : (i j : ℕ) → i < r → j < r → A i j ≡ unit i j) (i : ℕ) (m : i < r) where
  module _ (code : A i n < q) (ne : A i n ≢ 0) (a : ℕ → ℕ) (c : AreCoefficients q (suc n) (exchanged r n i) a)
      (z : (k : ℕ) → k < r → combination q (suc n) A a k ≡ 0) where
    front : AreCoefficients q n (λ j. nat_lt j r) a
    front = record {
      codes = λ j l. c.codes j (omega arith);
      outside = λ j l o. c.outside j (omega arith) (before_last r n i j l ∙ but_none i j (λ j. nat_lt j r) o);
    }

    row : (k : ℕ) → k < r → plus q (a k) (times q (A k n) (a n)) ≡ 0
    row k l = ap (λ x. plus q x (times q (A k n) (a n))) (sym (units_row q F r n A le u a front k l)) ∙ z k l

    own : a i ≡ 0
    own = c.outside i (omega arith) (before_last r n i i (omega arith) ∙ but_own i (λ j. nat_lt j r))

    last : a n ≡ 0
    last = elim (cases_eq (a n) 0) [
      | inl e ↦ e
      | inr ne' ↦ absurd (times_nonzero q F (A i n) (a n) code (c.codes n (omega arith)) ne ne'
          (sym (F.plus_zero (times q (A i n) (a n)) (F.times_below (A i n) (a n))) ∙ ap (λ x. plus q x (times q (A i n) (a n))) (sym own) ∙ row i m))
    ]

    none : (j : ℕ) → j < suc n → a j ≡ 0
    none j l = elim (cases_lt j r) [
      | inl b ↦ sym (ap (plus q (a j)) (ap (times q (A j n)) last ∙ times_zero q F (A j n)) ∙ plus_zero_right q F (a j) (c.codes j l)) ∙ row j b
      | inr g ↦ elim (cases_lt j n) [
        | inl b ↦ c.outside j l (before_last r n i j b ∙ but_none i j (λ j. nat_lt j r) (le-ltb j r g))
        | inr h ↦ (let e : j ≡ n = omega arith in ap a e ∙ last)
      ]
    ]

  -- the code isn't zero
  pub exchanged_independent : A i n < q → A i n ≢ 0 → IsIndependent q r (suc n) A (exchanged r n i)
  exchanged_independent code ne = record { only_zero = none code ne }

  -- the code is zero
  pub exchanged_dependent : ((k : ℕ) → k < r → A k n < q) → A i n ≡ 0 → ¬ (IsIndependent q r (suc n) A (exchanged r n i))
  unfolding negative
  exchanged_dependent code e d =
      let one : 1 ≡ zero = sym (last_own q F n x 1) ∙ d.only_zero (with_last q F n x 1) coefficients zero_row n (omega arith) in absurd (omega arith)
    where
      x : ℕ → ℕ
      x j = cond (nat_lt j r) (negative q (A j n)) 0

      x_front : (j : ℕ) → j < r → x j ≡ negative q (A j n)
      x_front j l = ap (λ b. cond b (negative q (A j n)) 0) (lt-ltb j r l)

      x_rest : (j : ℕ) → nat_lt j r ≡ false → x j ≡ 0
      x_rest j o = ap (λ b. cond b (negative q (A j n)) 0) o

      x_own : x i ≡ 0
      x_own = x_front i m ∙ ap (negative q) e ∙ minus_zero
        where
          minus_zero : negative q 0 ≡ 0
          minus_zero = times_zero q F _

      x_code : (j : ℕ) → x j < q
      x_code j = elim (cases_lt j r) [
        | inl b ↦ subst (λ (y : ℕ). y < q) (sym (x_front j b)) (F.negative_below (A j n))
        | inr g ↦ subst (λ (y : ℕ). y < q) (sym (x_rest j (le-ltb j r g))) (zero_below q F)
      ]

      x_outside : (j : ℕ) → j < n → exchanged r n i j ≡ false → x j ≡ 0
      x_outside j l o = elim (cases_eq j i) [
        | inl k ↦ ap x k ∙ x_own
        | inr ne ↦ x_rest j (sym (before_last r n i j l ∙ but_other i (λ j. nat_lt j r) j ne) ∙ o)
      ]

      coefficients : AreCoefficients q (suc n) (exchanged r n i) (with_last q F n x 1)
      coefficients = last_coefficients q F n (exchanged r n i) x 1 (record { codes = λ j l. x_code j; outside = x_outside }) F.two
          (λ o. absurd (true≢false (sym (with_own n (but i (λ j. nat_lt j r))) ∙ o)))

      zero_row : (k : ℕ) → k < r → combination q (suc n) A (with_last q F n x 1) k ≡ 0
      zero_row k l =
          combination_last q F n A x 1 k
          ∙ (λ t. plus q ((units_row q F r n A le u x (record { codes = λ j _. x_code j; outside = λ j _ o. x_rest j o }) k l
          ∙ x_front k l) t) ((F.times_comm (A k n) 1 ∙ F.times_one (A k n) (code k l)) t))
          ∙ F.plus_comm (negative q (A k n)) (A k n) ∙ F.plus_negative (A k n)

-- a column of zeros is dependent
pub zeros_dependent : (q : ℕ) (F : IsField q) (r n : ℕ) (A : Matrix) (S : ℕ → Bool) → S n ≡ true → ((k : ℕ) → k < r → A k n ≡ 0) →
    ¬ (IsIndependent q r (suc n) A S)
zeros_dependent q F r n A S t z d =
    let one : 1 ≡ zero = sym (last_own q F n (λ _. 0) 1) ∙ d.only_zero (with_last q F n (λ _. 0) 1)
    (last_coefficients q F n S (λ _. 0) 1 (record { codes = λ _ _. zero_below q F; outside = λ _ _ _. refl }) F.two (λ o. absurd (true≢false (sym t ∙ o))))
    (λ k l. combination_last q F n A (λ _. 0) 1 k
    ∙ (λ t. plus q (combination_zero q F n A (λ _. 0) k (λ _ _. refl) t) ((ap (λ y. times q y 1) (z k l) ∙ zero_times q F 1) t))
    ∙ F.plus_zero 0 (zero_below q F)) n (omega arith) in
    absurd (omega arith)
