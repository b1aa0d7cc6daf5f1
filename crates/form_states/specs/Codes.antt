-- Codes of rows and columns as the program keeps them.
use Rattle.std.specs.Prelude.{ℕ, [], ◌<◌, ◌≡◌, ◌≢◌, ◌==◌, if◌then◌else◌, List, slice_index, slice_index_or}
use Rattle.matroid_theory.specs.Field.{plus, times}

-- three codes, each of its field
abbrev pub AreCodes : List ℕ → List ℕ → Type 0
AreCodes fields a = (f : ℕ) → f < 3 → slice_index a f < slice_index fields f

-- the code of a column in a factor and a row
abbrev pub code : List (List ℕ) → ℕ → ℕ → ℕ
code column f i = slice_index (slice_index_or column i []) f

-- six rows of codes
abbrev pub AreColumnCodes : List ℕ → List (List ℕ) → Type 0
AreColumnCodes fields column = (i : ℕ) → i < 6 → AreCodes fields (slice_index_or column i [])

-- the code of row i after the chosen column is cleared at row p
abbrev pub cleared_code : List ℕ → ℕ → (ℕ → ℕ → ℕ) → (ℕ → ℕ → ℕ) → ℕ → ℕ → ℕ
cleared_code fields p minus e f i = if i == p then e f p else plus (slice_index fields f) (e f i) (times (slice_index fields f) (e f p) (minus f i))

-- v is a multiple of c in the first rows, whose first row that isn't 0 in the first factor is 1 wherever it isn't 0
pub record IsNormalisedFrom (fields : List ℕ) (factors rows : ℕ) (c v : ℕ → ℕ → ℕ) : Type 0 where
  pub multiple : ℕ → ℕ
  pub multiple_code : (f : ℕ) → f < 3 → multiple f < slice_index fields f
  pub multiple_nonzero : (f : ℕ) → f < 3 → multiple f ≢ 0
  pub multiples : (f i : ℕ) → f < factors → i < rows → v f i ≡ times (slice_index fields f) (multiple f) (c f i)
  pub leads : (p : ℕ) → p < rows → ((i : ℕ) → i < p → c 0 i ≡ 0) → c 0 p ≢ 0 → (f : ℕ) → f < factors → c f p ≢ 0 → v f p ≡ 1
