-- One factor of a representation, by its columns.
use Rattle.std.specs.Prelude.{ℕ, ◌<◌, ◌≡◌, List, length}
use Rattle.arrayvec.specs.ArrayVec.{ArrayVec}
use Rattle.matroid_theory.specs.Rep.{Rep, size, count, order, column_of}
use Rattle.elimination.specs.Columns.{column}

-- q and columns are the order and the columns of factor f of M
pub record IsFactorOf (M : Rep) (f q : ℕ) (columns : List (ArrayVec ℕ)) : Type 0 where
  pub below : f < count M
  pub order : q ≡ order M f
  pub count : length columns ≡ size M
  pub same : (j : ℕ) → j < size M → column columns j ≡ column_of M f j
