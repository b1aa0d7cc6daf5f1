-- Sides of a partition of the columns, as masks.
use Rattle.std.specs.Prelude.{ℕ, ◌<◌, ◌≤◌, ◌^◌, ◌≡◌, ◌==◌, ◌||◌, Bool, true, false, not}
use Rattle.matroid_theory.specs.Rep.{Rep, size}
use Rattle.matroid_theory.specs.Matroid.{members, IsIndependentIn}
use Rattle.matroid_theory.specs.Connection.{IsSeparation}

-- basis is a basis of the columns in the set, in the first factor: an independent part of it that no column of it can be added to
pub record IsSide (M : Rep) (set basis : ℕ) : Type 0 where
  pub set_below : set < 2 ^ size M
  pub basis_below : basis < 2 ^ size M
  pub within : (j : ℕ) → j < size M → members basis j ≡ true → members set j ≡ true
  pub independent : IsIndependentIn M 0 (members basis)
  pub full : (e : ℕ) → e < size M → members set e ≡ true → members basis e ≡ false → ¬ (IsIndependentIn M 0 (λ j. (j == e) || members basis j))

-- each of the first n columns, and no other, is in one of the two sets
pub record AreParts (n : ℕ) (first second : ℕ → Bool) : Type 0 where
  pub other : (j : ℕ) → j < n → second j ≡ not (first j)
  pub first_below : (j : ℕ) → n ≤ j → first j ≡ false
  pub second_below : (j : ℕ) → n ≤ j → second j ≡ false

-- X is a separation of some order from 1 up to the greatest
pub record IsSeparationUpTo (M : Rep) (greatest : ℕ) (X : ℕ → Bool) : Type 0 where
  pub order : ℕ
  pub positive : 0 < order
  pub most : order ≤ greatest
  pub separation : IsSeparation M order X
