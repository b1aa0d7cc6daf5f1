-- Representations over a product of fields: one matrix of the same rank and size for each factor.
use Rattle.std.specs.Prelude.{ℕ, ◌+◌, ◌*◌, ◌<◌, ◌≤◌, ◌≡◌, List, [], length, map, slice_index, slice_index_or}
use Rattle.std.specs.List.{range_with_len}
use Rattle.matroid_theory.specs.Field.{IsOrder, IsFactors}
use Rattle.matroid_theory.specs.Matrix.{Matrix, unit}

-- a column has rank * count codes, row by row, and factor by factor within a row
pub record Rep : Type 0 where
  pub factors : List ℕ
  pub rank : ℕ
  pub columns : List (List ℕ)

-- the number of factors, the number of columns, and the order of factor f
abbrev pub count : Rep → ℕ
count M = length M.factors

abbrev pub size : Rep → ℕ
size M = length M.columns

abbrev pub order : Rep → ℕ → ℕ
order M f = slice_index M.factors f

-- the matrix of factor f: every count-th code of column j, from place f on
abbrev pub matrix : Rep → ℕ → Matrix
matrix M f i j = slice_index (slice_index_or M.columns j []) (i * count M + f)

-- column j of factor f, from the top row
abbrev pub column_of : Rep → ℕ → ℕ → List ℕ
column_of M f j = map (λ i. matrix M f i j) (range_with_len 0 M.rank)

-- the factors are orders of fields, the columns have the right length, and the codes are below the orders
pub record IsShaped (M : Rep) : Type 0 where
  pub orders : (f : ℕ) → f < count M → IsOrder (order M f)
  pub lengths : (j : ℕ) → j < size M → length (slice_index_or M.columns j []) ≡ M.rank * count M
  pub codes : (f i j : ℕ) → f < count M → i < M.rank → j < size M → matrix M f i j < order M f

-- what equivalent representations have in common: factors, rank and size
pub record Shape : Type 0 where
  pub factors : List ℕ
  pub rank : ℕ
  pub size : ℕ

abbrev pub shape : Rep → Shape
shape M = record { factors = M.factors; rank = M.rank; size = length M.columns }

-- the first rank columns are the unit columns, in every factor
pub record IsStandard (M : Rep) : Type 0 where
  pub room : M.rank ≤ size M
  pub units : (f i j : ℕ) → f < count M → i < M.rank → j < M.rank → matrix M f i j ≡ unit i j

-- a column of all factors: rank * count codes, each below its order
pub record IsProductColumn (factors : List ℕ) (rank : ℕ) (v : List ℕ) : Type 0 where
  pub rows : length v ≡ rank * length factors
  pub codes : (i f : ℕ) → i < rank → f < length factors → slice_index v (i * length factors + f) < slice_index factors f

-- what the type keeps: one to three fields, rank 1 to 6, size at most 16, and codes of the right number and range
pub record KeepsLimits (M : Rep) : Type 0 where
  pub fields : IsFactors M.factors
  pub rank_positive : 0 < M.rank
  pub rank_most : M.rank ≤ 6
  pub size_most : size M ≤ 16
  pub shaped : IsShaped M
