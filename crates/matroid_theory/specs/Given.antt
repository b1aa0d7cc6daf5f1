-- Matroids that are given by all sets of so many elements, by the columns of a matrix, or as the dual of such a matroid.
--     Oxley, chapter 1 (uniform and vector matroids) and chapter 2 (duals).
use Rattle.std.specs.Prelude.{ℕ, ◌<◌, ◌^◌, ◌≡◌, ◌↔◌, List, [], length, Bool, true, not, slice_index, slice_index_or}
use Rattle.std.specs.List.{Contains}
use Rattle.std.specs.List.Sorted.{IsStrictlyIncreasing}
use Rattle.matroid_theory.specs.Matrix.{Matrix, size_below, IsIndependent, IsRankOf}
use Rattle.matroid_theory.specs.Matroid.{members}
use Rattle.matroid_theory.specs.Minor.{Matroid}

pub data Given : Type 0 where
  -- all sets of so many of so many elements are bases
  AllSets : ℕ → ℕ → Given
  -- the columns of a matrix over the field of an order
  ColumnsOver : ℕ → List (List ℕ) → Given
  -- the dual of the matroid of the columns
  DualOfColumns : ℕ → List (List ℕ) → Given

-- the elements, numbered from 0 in the order of the columns
abbrev pub elements : Given → ℕ
elements (AllSets rank size) = size
elements (ColumnsOver q columns) = length columns
elements (DualOfColumns q columns) = length columns

-- the number of rows, which is the length of the first column
abbrev pub column_length : List (List ℕ) → ℕ
column_length columns = length (slice_index_or columns 0 [])

abbrev pub matrix_of_lists : List (List ℕ) → Matrix
matrix_of_lists columns i j = slice_index (slice_index_or columns j []) i

-- a basis of the columns: an independent set of greatest size
pub record IsColumnBasis (q : ℕ) (columns : List (List ℕ)) (S : ℕ → Bool) : Type 0 where
  pub independent : IsIndependent q (column_length columns) (length columns) (matrix_of_lists columns) S
  pub greatest : IsRankOf q (column_length columns) (length columns) (matrix_of_lists columns) (λ _. true) (size_below (length columns) S)

-- the set is a basis of the matroid that is given so
abbrev pub IsGivenBasis : Given → (ℕ → Bool) → Type 0
IsGivenBasis (AllSets rank size) S = size_below size S ≡ rank
IsGivenBasis (ColumnsOver q columns) S = IsColumnBasis q columns S
IsGivenBasis (DualOfColumns q columns) S = IsColumnBasis q columns (λ j. not (S j))

-- N is the matroid that is given so
pub record IsGivenBy (given : Given) (N : Matroid) : Type 0 where
  pub sizes : N.size ≡ elements given
  pub rising : IsStrictlyIncreasing N.bases
  pub exact : (X : ℕ) → Contains N.bases X ↔ ((X < 2 ^ N.size) × IsGivenBasis given (members X))
  pub some : (X : ℕ) × Contains N.bases X
  pub ranks : (X : ℕ) → Contains N.bases X → size_below N.size (members X) ≡ N.rank
