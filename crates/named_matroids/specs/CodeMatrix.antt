-- A matrix as a line writes it.
use Rattle.std.specs.Prelude.{ℕ, List}

-- the order of the field, and the columns from the top row, as lists of codes
pub record CodeMatrix : Type 0 where
  pub order : ℕ
  pub columns : List (List ℕ)
