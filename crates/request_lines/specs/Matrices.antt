-- How the columns of a matrix are spelled, and how they are read.
use Rattle.std.specs.Prelude.{◌≡◌, ℕ, ◌<◌, ◌≤◌, List, ◌∷◌, map, length, decimal}
use Rattle.std.specs.List.{AllByRecursion}
use Rattle.small_lists.specs.Lists.{lists}
use Rattle.formats.specs.Statement.{column_word}
use Rattle.request_lines.specs.declared.matrix_line.Columns.{Columns}
use Rattle.request_lines.specs.declared.matrix_line.Columns.TheVariants.{Few, Many}

-- 1 to 6 entries below the order
pub record AreCodes (order : ℕ) (column : List ℕ) : Type 0 where
  pub some : 1 ≤ length column
  pub few : length column ≤ 6
  pub below : AllByRecursion (λ code. code < order) column

-- at least one column, all of one length from 1 to 6, with entries below the order
pub record AreColumns (order : ℕ) (columns : List (List ℕ)) : Type 0 where
  pub some : 0 < length columns
  pub height : (rows : ℕ) × (1 ≤ rows) × (rows ≤ 6) × AllByRecursion (λ column. length column ≡ rows) columns
  pub entries : AllByRecursion (λ column. AllByRecursion (λ code. code < order) column) columns

abbrev pub column_words : List (List ℕ) → List (List ℕ)
column_words columns = map column_word columns

-- the words of a matrix behind the word `matrix`
abbrev pub matrix_words : ℕ → List (List ℕ) → List (List ℕ)
matrix_words order columns = decimal order ∷ column_words columns

-- the columns as they were read: themselves, or that they are more than ten
abbrev pub IsRead : Columns → List (List ℕ) → Type 0
IsRead (Few kept) columns = lists kept.items ≡ columns
IsRead Many columns = 10 < length columns
