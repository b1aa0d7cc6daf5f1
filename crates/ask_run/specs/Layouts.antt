-- The layout of the words of a representation, and its entries.
use Rattle.std.specs.Prelude.{ℕ, ◌+◌, ◌*◌, ◌<◌, ◌≤◌, ◌≡◌, List, length, codes, slice_index}
use Rattle.matroid_theory.specs.Rep.{Rep, shape, matrix}
use Rattle.ask_formats.specs.Places.{word_at, column_place, AreReadAsColumns, IsReadAsEntry}
use Rattle.ask_run.specs.declared.layout.Layout.{Layout}

-- `|` stands between any two factors
abbrev pub AreParted : List (List ℕ) → ℕ → ℕ → Type 0
AreParted words factors columns = (f : ℕ) → f + 1 < factors → word_at words (column_place factors columns f columns) ≡ codes "|"

-- the words are those of so many factors, columns and rows, within the limits
pub record IsLayout (words : List (List ℕ)) (layout : Layout) : Type 0 where
  pub some : 0 < layout.factors
  pub few : layout.factors ≤ 3
  pub columns_some : 0 < layout.columns
  pub columns_few : layout.columns ≤ 16
  pub rows_some : 0 < layout.rows
  pub rows_few : layout.rows ≤ 6
  pub read : AreReadAsColumns words layout.factors layout.columns layout.rows

-- row i of column j of factor f has this code
abbrev pub HasEntry : List (List ℕ) → Layout → ℕ → ℕ → ℕ → ℕ → Type 0
HasEntry words layout f i j code = IsReadAsEntry words layout.factors layout.columns layout.rows f i j code

-- no code of that field stands there
abbrev pub HasNoEntry : List (List ℕ) → List ℕ → Layout → ℕ → ℕ → ℕ → Type 0
HasNoEntry words orders layout f i j = (code : ℕ) → code < slice_index orders f → HasEntry words layout f i j code → ⊥

-- in column j some row of some factor has none
pub record LacksEntry (words : List (List ℕ)) (orders : List ℕ) (layout : Layout) (j : ℕ) : Type 0 where
  pub factor : ℕ
  pub row : ℕ
  pub factor_below : factor < layout.factors
  pub row_below : row < layout.rows
  pub none : HasNoEntry words orders layout factor row j

-- a column of all factors has the codes that stand there
pub record IsColumnOf (words : List (List ℕ)) (orders : List ℕ) (layout : Layout) (j : ℕ) (column : List ℕ) : Type 0 where
  pub rows : length column ≡ layout.rows * layout.factors
  pub codes : (i f : ℕ) → i < layout.rows → f < layout.factors → slice_index column (i * layout.factors + f) < slice_index orders f
  pub entries : (i f : ℕ) → i < layout.rows → f < layout.factors → HasEntry words layout f i j (slice_index column (i * layout.factors + f))

-- the matrices have all the codes
pub record AreMatricesOf (words : List (List ℕ)) (orders : List ℕ) (layout : Layout) (M : Rep) : Type 0 where
  pub shape_is : shape M ≡ record { factors = orders; rank = layout.rows; size = layout.columns }
  pub entries : (f i j : ℕ) → f < layout.factors → i < layout.rows → j < layout.columns → HasEntry words layout f i j (matrix M f i j)
