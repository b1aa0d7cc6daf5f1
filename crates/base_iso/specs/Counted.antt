-- How many bases hold given elements.
use Rattle.std.specs.Prelude.{ℕ, ◌<◌, ◌≡◌, ◌-◌, ◌==◌, ◌&&◌, List, [], length, slice_index, slice_index_or, count_by}
use Rattle.std.specs.List.Sorted.{IsNonDecreasing}
use Rattle.arrayvec.specs.ArrayVec.{ArrayVec}
use Rattle.matroid_theory.specs.Matrix.{size_below}
use Rattle.matroid_theory.specs.Matroid.{members}
use Rattle.matroid_theory.specs.Minor.{Matroid}

-- how many of the sets have both i and j
abbrev pub pair_count : List ℕ → ℕ → ℕ → ℕ
pair_count bases i j = count_by (λ X. members X i && members X j) bases

-- for each element of M, in how many bases it lies, in rising order
pub record AreDegrees (M : Matroid) (degrees : List ℕ) : Type 0 where
  pub rising : IsNonDecreasing degrees
  pub counted : (d : ℕ) → count_by (λ x. x == d) degrees ≡ size_below M.size (λ i. pair_count M.bases i i == d)

-- for each element of M, in how many bases it lies together with i
pub record ArePairCountsOf (M : Matroid) (i : ℕ) (counts : List ℕ) : Type 0 where
  pub elements : length counts ≡ M.size
  pub counted : (j : ℕ) → j < M.size → slice_index counts j ≡ pair_count M.bases i j

-- row i of a table
abbrev pub row : List (ArrayVec ℕ) → ℕ → List ℕ
row rows i = (slice_index_or rows i (record { items = [] })).items

-- the pair counts of the bases of M
pub record ArePairCounts (M : Matroid) (rows : List (ArrayVec ℕ)) : Type 0 where
  pub elements : length rows ≡ M.size
  pub counts : (i : ℕ) → i < M.size → ArePairCountsOf M i (row rows i)

-- the pair counts and the degrees of the bases of M
pub record AreCounts (M : Matroid) (rows : List (ArrayVec ℕ)) (numbers : List ℕ) : Type 0 where
  pub pairs : ArePairCounts M rows
  pub degrees : AreDegrees M numbers

-- n rows of n numbers
pub record IsSquare (n : ℕ) (rows : List (ArrayVec ℕ)) : Type 0 where
  pub elements : length rows ≡ n
  pub widths : (i : ℕ) → i < n → length (row rows i) ≡ n

-- the last element that has a label is counted with each as its label is counted with theirs
abbrev pub KeepsLastCounts : List (ArrayVec ℕ) → List (ArrayVec ℕ) → List ℕ → Type 0
KeepsLastCounts of_a of_b labels =
    (i : ℕ) → i < length labels →
    slice_index (row of_a (length labels - 1)) i ≡ slice_index (row of_b (slice_index labels (length labels - 1))) (slice_index labels i)

-- M and N have the same rank, the same size and equally many bases
pub record AreAlike (M N : Matroid) : Type 0 where
  pub ranks : N.rank ≡ M.rank
  pub sizes : N.size ≡ M.size
  pub bases : length N.bases ≡ length M.bases
