-- The columns of a set, picked out in a list.
use Rattle.std.specs.Prelude.{ℕ, ◌<◌, ◌≡◌, Bool, true, List, length}
use Rattle.arrayvec.specs.ArrayVec.{ArrayVec}
use Rattle.matroid_theory.specs.Matrix.{size_below, IsIndependent}
use Rattle.elimination.specs.Columns.{column, height, matrix_of}

-- of the columns that are told by their numbers, w lists those that are in S and below n, in their order: each is preceded by as many as S has before it
pub record ArePicked (source : ℕ → List ℕ) (n : ℕ) (S : ℕ → Bool) (w : List (ArrayVec ℕ)) : Type 0 where
  pub count : length w ≡ size_below n S
  pub columns : (j : ℕ) → j < n → S j ≡ true → column w (size_below j S) ≡ source j

-- the columns in S are independent
abbrev pub IsIndependentSet : ℕ → List (ArrayVec ℕ) → (ℕ → Bool) → Type 0
IsIndependentSet q columns S = IsIndependent q (height columns) (length columns) (matrix_of columns) S

-- S is a basis of columns of rank k: an independent set of k of them
pub record IsBasisOfColumns (q k : ℕ) (columns : List (ArrayVec ℕ)) (S : ℕ → Bool) : Type 0 where
  pub full : size_below (length columns) S ≡ k
  pub independent : IsIndependentSet q columns S
