-- Which sets are told at an entry, and whether they are bases where they should be.
use Rattle.std.specs.Prelude.{ℕ, ◌+◌, ◌-◌, ◌^◌, ◌<◌, ◌≤◌, ◌≡◌, ◌↔◌, true, false, List, length}
use Rattle.std.specs.List.{Contains}
use Rattle.matroid_theory.specs.Matrix.{size_below}
use Rattle.matroid_theory.specs.Matroid.{members}
use Rattle.matroid_theory.specs.Minor.{Matroid}
use Rattle.column_sets.specs.Picked.{IsIndependentSet}
use Rattle.bases.specs.declared.factor.FactorColumns.{FactorColumns}
use Rattle.dual_theory.specs.Represented.{KeepsBasesAt}
use Rattle.represent.specs.declared.told.Place.{Place}
use Rattle.represent.specs.Filled.{row_at, column_at, filled}

-- at the entry at place p the bases are kept
abbrev pub KeepsAt : ℕ → Matroid → List ℕ → ℕ → Type 0
KeepsAt q N codes p = KeepsBasesAt N (filled q N codes) (row_at N.rank p) (column_at N.rank p)

-- at each entry that is filled in, and at the last of them
abbrev pub KeepsBefore : ℕ → Matroid → List ℕ → Type 0
KeepsBefore q N codes = (p : ℕ) → p < length codes → KeepsAt q N codes p

abbrev pub KeepsLast : ℕ → Matroid → List ℕ → Type 0
KeepsLast q N codes = KeepsAt q N codes (length codes - 1)

-- the place is in a column after the unit columns
pub record IsWithin (N : Matroid) (place : Place) : Type 0 where
  pub rank_most : N.rank ≤ 6
  pub size_most : N.size ≤ 16
  pub row : place.row < N.rank
  pub past : N.rank ≤ place.column
  pub column : place.column < N.size

-- X has these unit columns before the row of the place, all those after it, these of the later columns, and the column of the place, its last
pub record IsToldWith (r : ℕ) (place : Place) (units later X : ℕ) : Type 0 where
  pub below : X < 2 ^ (place.column + 1)
  pub before : (k : ℕ) → k < place.row → members X k ≡ members units k
  pub lacks : members X place.row ≡ false
  pub after : (k : ℕ) → place.row < k → k < r → members X k ≡ true
  pub others : (k : ℕ) → r ≤ k → k < place.column → members X k ≡ members later (k - r)
  pub last : members X place.column ≡ true

-- X, where it has as many elements as the rank, is a base of N exactly where the columns in it are independent
abbrev pub KeepsSet : Matroid → FactorColumns → ℕ → Type 0
KeepsSet N matrix X = size_below N.size (members X) ≡ N.rank → Contains N.bases X ↔ IsIndependentSet matrix.field matrix.columns.items (members X)

-- so are the sets that have these of the later columns
abbrev pub KeepsWith : Matroid → FactorColumns → Place → ℕ → Type 0
KeepsWith N matrix place later = (units X : ℕ) → units < 2 ^ place.row → IsToldWith N.rank place units later X → KeepsSet N matrix X
