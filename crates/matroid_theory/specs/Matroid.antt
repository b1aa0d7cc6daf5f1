-- Independent sets and bases of a representation. A set of columns is a test of column numbers.
use Rattle.std.specs.Prelude.{ℕ, ◌<◌, ◌≡◌, ◌==◌, ◌||◌, Bool}
use Rattle.std.specs.Int.{bit_at}
use Rattle.matroid_theory.specs.Matrix.{IsIndependent, size_below}
use Rattle.matroid_theory.specs.Rep.{Rep, count, size, order, matrix, IsShaped}

-- the set that a mask stands for: bit j stands for column j
abbrev pub members : ℕ → ℕ → Bool
members mask j = bit_at mask j == 1

-- the columns in the set are independent in factor f
abbrev pub IsIndependentIn : Rep → ℕ → (ℕ → Bool) → Type 0
IsIndependentIn M f S = IsIndependent (order M f) M.rank (size M) (matrix M f) S

-- rank many columns that are independent in factor f
pub record IsBasis (M : Rep) (f : ℕ) (S : ℕ → Bool) : Type 0 where
  pub full : size_below (size M) S ≡ M.rank
  pub independent : IsIndependentIn M f S

-- every factor has a basis, and all factors have the same bases
pub record Agrees (M : Rep) : Type 0 where
  pub some : (f : ℕ) → f < count M → (S : ℕ → Bool) × IsBasis M f S
  pub same : (f g : ℕ) → f < count M → g < count M → (S : ℕ → Bool) → IsBasis M f S → IsBasis M g S

-- a representation over a product of fields: there is a factor, the matrices are shaped, and the factors agree
pub record IsRepresentation (M : Rep) : Type 0 where
  pub some : 0 < count M
  pub shaped : IsShaped M
  pub agrees : Agrees M

-- in every factor each set of one or two columns is independent
abbrev pub IsSimple : Rep → Type 0
IsSimple M = (f i j : ℕ) → f < count M → i < size M → j < size M → IsIndependentIn M f (λ k. (k == i) || (k == j))
