-- Equations in a triangle: each has one coefficient more than the next.
use Rattle.std.specs.Prelude.{ℕ, suc, ◌+◌, ◌<◌, ◌≡◌, ◌≢◌, List, length, slice_index}
use Rattle.arrayvec.specs.ArrayVec.{ArrayVec}
use Rattle.matroid_theory.specs.Field.{times}
use Rattle.matroid_theory.specs.Matrix.{sum_below}
use Rattle.elimination.specs.Columns.{column, IsColumn}

-- the sum of the first n coefficients times the first n values
abbrev pub sum_of_products : ℕ → ℕ → List ℕ → (ℕ → ℕ) → ℕ
sum_of_products q n coefficients values = sum_below q n (λ j. times q (slice_index coefficients j) (values j))

-- n + 1 coefficients, the last of which isn't 0
pub record IsEquation (q n : ℕ) (coefficients : List ℕ) : Type 0 where
  pub codes : IsColumn q (suc n) coefficients
  pub last : slice_index coefficients n ≢ 0

-- the first of the equations has r coefficients
abbrev pub AreTriangle : ℕ → ℕ → List (ArrayVec ℕ) → Type 0
AreTriangle q r equations = (l n : ℕ) → l < length equations → l + suc n ≡ r → IsEquation q n (column equations l)

-- the values meet each equation with its right side
abbrev pub Meets : ℕ → ℕ → List (ArrayVec ℕ) → List ℕ → (ℕ → ℕ) → Type 0
Meets q r equations sides values = (l n : ℕ) → l < length equations → l + suc n ≡ r →
    sum_of_products q (suc n) (column equations l) values ≡ slice_index sides l
