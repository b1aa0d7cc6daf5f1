-- What one step of elimination makes of a column.
use Rattle.std.specs.Prelude.{ℕ, ◌<◌, ◌≡◌, List, length, slice_index}
use Rattle.arrayvec.specs.ArrayVec.{ArrayVec}
use Rattle.matroid_theory.specs.Field.{plus, times, negative, inverse}
use Rattle.elimination.specs.Columns.{column, IsColumn}

-- the multiple of the column last that clears the column old at a row
unfoldable pub multiple : ℕ → ℕ → List ℕ → List ℕ → ℕ
multiple q row last old = negative q (times q (slice_index old row) (inverse q (slice_index last row)))

-- new is old with that multiple of last added
pub record IsClearedBy (q row : ℕ) (last old new : List ℕ) : Type 0 where
  pub column : IsColumn q (length last) new
  pub sums : (i : ℕ) → i < length last → slice_index new i ≡ plus q (slice_index old i) (times q (multiple q row last old) (slice_index last i))

-- the same for each column of a list
abbrev pub AreClearedBy : ℕ → ℕ → List ℕ → List (ArrayVec ℕ) → List (ArrayVec ℕ) → Type 0
AreClearedBy q row last old new = (j : ℕ) → j < length old → IsClearedBy q row last (column old j) (column new j)
