-- The first columns of a standard matrix are independent.
use Rattle.std.proofs.Common.{◌≡◌, ◌≢◌, ℕ, ◌<◌, ◌≤◌, sym, ◌∙◌, ap, arith, cond, inl, inr}
use Rattle.std.specs.Bool.{nat_lt}
use Rattle.std.proofs.lemmas.Bool.{cases_lt, le-ltb}
use Rattle.matroid_theory.specs.Field.{times, IsField}
use Rattle.matroid_theory.specs.Matrix.{Matrix, combination, unit, AreCoefficients, IsIndependent}
use Rattle.matrix_lemmas.proofs.Sums.{sum_one, times_zero, zero_times, same_number, other_number}

module _ (q : ℕ) (F : IsField q) (r : ℕ) where
  -- a combination of the first columns has their coefficients as its codes
  pub units_row : (n : ℕ) (A : Matrix) → r ≤ n → ((i j : ℕ) → i < r → j < r → A i j ≡ unit i j) → (a : ℕ → ℕ) →
      AreCoefficients q n (λ j. nat_lt j r) a → (i : ℕ) → i < r → combination q n A a i ≡ a i
  units_row n A le u a c i b =
      sum_one q F n i (λ j. times q (A i j) (a j)) (omega arith) (F.times_below (A i i) (a i)) (λ j m ne. other j m ne)
      ∙ ap (λ x. times q x (a i)) (u i i b b)
      ∙ ap (λ b. times q (cond b 1 0) (a i)) (same_number i) ∙ F.times_one (a i) (c.codes i (omega arith))
    where
      other : (j : ℕ) → j < n → j ≢ i → times q (A i j) (a j) ≡ 0
      other j m ne =
          elim (cases_lt j r) [
            | inl b' ↦ ap (λ x. times q x (a j)) (u i j b b' ∙ ap (λ b. cond b 1 0) (other_number i j (λ e. ne (sym e)))) ∙ zero_times q F (a j)
            | inr g ↦ ap (times q (A i j)) (c.outside j m (le-ltb j r g)) ∙ times_zero q F (A i j)
          ]

  units_only : (n : ℕ) (A : Matrix) → r ≤ n → ((i j : ℕ) → i < r → j < r → A i j ≡ unit i j) → (a : ℕ → ℕ) →
      AreCoefficients q n (λ j. nat_lt j r) a → ((i : ℕ) → i < r → combination q n A a i ≡ 0) → (j : ℕ) → j < n → a j ≡ 0
  units_only n A le u a c z j l =
      elim (cases_lt j r) [
        | inl b ↦ sym (units_row n A le u a c j b) ∙ z j b
        | inr g ↦ c.outside j l (le-ltb j r g)
      ]

  -- the columns of a standard matrix below r are independent
  pub units_independent : (n : ℕ) (A : Matrix) → r ≤ n → ((i j : ℕ) → i < r → j < r → A i j ≡ unit i j) → IsIndependent q r n A (λ j. nat_lt j r)
  units_independent n A le u = record { only_zero = units_only n A le u }
