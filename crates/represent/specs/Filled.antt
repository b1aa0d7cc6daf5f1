-- Matrices of which the first entries are filled in.
use Rattle.std.specs.Prelude.{ℕ, ◌+◌, ◌-◌, ◌*◌, ◌/◌, ◌%◌, ◌<◌, ◌≤◌, List, [], ◌∷◌, map, length, if◌then◌else◌, slice_index}
use Rattle.std.specs.Bool.{nat_lt}
use Rattle.std.specs.List.{range_with_len}
use Rattle.matroid_theory.specs.Matrix.{unit}
use Rattle.matroid_theory.specs.Rep.{Rep}
use Rattle.matroid_theory.specs.Minor.{Matroid}
use Rattle.represent.specs.Sought.{cells}

-- the row and the column of the entry at place p, column by column after r unit columns of r rows
abbrev pub row_at : ℕ → ℕ → ℕ
row_at r p = p % r

abbrev pub column_at : ℕ → ℕ → ℕ
column_at r p = r + p / r

-- the entry at row l of column k, 0 where it isn't filled in
abbrev pub entry : ℕ → List ℕ → ℕ → ℕ → ℕ
entry r codes l k = if nat_lt k r then unit l k else slice_index codes ((k - r) * r + l)

-- the standard matrix with these entries
abbrev pub filled : ℕ → Matroid → List ℕ → Rep
filled q N codes = record {
  factors = q ∷ [];
  rank = N.rank;
  columns = map (λ k. map (λ l. entry N.rank codes l k) (range_with_len 0 N.rank)) (range_with_len 0 N.size);
}

-- codes of the field, no more than there are entries
pub record AreCodes (q : ℕ) (N : Matroid) (codes : List ℕ) : Type 0 where
  pub few : length codes ≤ cells N
  pub below : (p : ℕ) → p < length codes → slice_index codes p < q
