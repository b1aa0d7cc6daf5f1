-- Which word of a representation stands at which place.
use Rattle.std.specs.Prelude.{ℕ, suc, ◌+◌, ◌-◌, ◌*◌, ◌<◌, ◌≤◌, ◌≡◌, ◌≢◌, List, [], length, codes, decimal, slice_index, slice_index_or}
use Rattle.matroid_theory.specs.Rep.{Rep, count, size, matrix}
use Rattle.formats.specs.Statement.{entry_letter}

-- the word at a place; none counts as the empty word
abbrev pub word_at : List (List ℕ) → ℕ → List ℕ
word_at words k = slice_index_or words k []

-- so many orders stand at the even places: `x` is between them, and behind the last, unless it is the third, something else
pub record IsOrderCount (words : List (List ℕ)) (count : ℕ) : Type 0 where
  pub some : 0 < count
  pub few : count ≤ 3
  pub between : (f : ℕ) → f + 1 < count → word_at words (f * 2 + 1) ≡ codes "x"
  pub behind : count < 3 → word_at words (count * 2 - 1) ≢ codes "x"

pub record AreReadAsFactors (words : List (List ℕ)) (orders : List ℕ) : Type 0 where
  pub count : IsOrderCount words (length orders)
  pub spelled : (f : ℕ) → f < length orders → word_at words (f * 2) ≡ decimal (slice_index orders f)

-- where column j of factor f stands, for so many factors and columns
abbrev pub column_place : ℕ → ℕ → ℕ → ℕ → ℕ
column_place factors columns f j = factors * 2 - 1 + (f * suc columns + j)

-- Behind the orders come as many columns for each factor, with `|` between two factors.
pub record AreReadAsColumns (words : List (List ℕ)) (factors columns rank : ℕ) : Type 0 where
  pub total : length words + 2 ≡ factors * 2 + factors * suc columns
  pub between : (f : ℕ) → f + 1 < factors → word_at words (column_place factors columns f columns) ≡ codes "|"
  pub rows : length (word_at words (column_place factors columns 0 0)) ≡ rank

-- Row i of column j of factor f has this code: the column has a letter for each row, and that of row i is the code's.
pub record IsReadAsEntry (words : List (List ℕ)) (factors columns rank f i j code : ℕ) : Type 0 where
  pub rows : length (word_at words (column_place factors columns f j)) ≡ rank
  pub letter : slice_index (word_at words (column_place factors columns f j)) i ≡ entry_letter code

pub record IsReadAs (words : List (List ℕ)) (M : Rep) : Type 0 where
  pub orders : AreReadAsFactors words M.factors
  pub layout : AreReadAsColumns words (count M) (size M) M.rank
  pub entries : (f i j : ℕ) → f < count M → i < M.rank → j < size M → IsReadAsEntry words (count M) (size M) M.rank f i j (matrix M f i j)
