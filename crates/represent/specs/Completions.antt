-- The completions of the entries that are filled in.
use Rattle.std.specs.Prelude.{ℕ, ◌+◌, ◌-◌, ◌*◌, ◌<◌, ◌≤◌, ◌≡◌, ◌⊎◌, List, length, slice_index}
use Rattle.matroid_theory.specs.Rep.{Rep}
use Rattle.matroid_theory.specs.Minor.{Matroid}
use Rattle.dual_theory.specs.Represented.{Completes, IsLeastCompletion}
use Rattle.represent.specs.Filled.{row_at, column_at, filled}

-- the matrix L has the bases of N and begins with these codes
abbrev pub CompletesCodes : ℕ → Matroid → List ℕ → Rep → Type 0
CompletesCodes q N codes L = Completes q N (filled q N codes) (row_at N.rank (length codes)) (column_at N.rank (length codes)) L

-- these entries are all of the least matrix that begins with the first ones
abbrev pub IsLeastWith : ℕ → Matroid → List ℕ → List ℕ → Type 0
IsLeastWith q N codes whole =
    IsLeastCompletion q N (filled q N codes) (row_at N.rank (length codes)) (column_at N.rank (length codes)) (filled q N whole)

-- and there is none
abbrev pub NoneWith : ℕ → Matroid → List ℕ → Type 0
NoneWith q N codes = (L : Rep) → ¬ (CompletesCodes q N codes L)

-- the entries above the next one in its column are 0, or those before it in its row after the unit columns
abbrev pub IsFree : ℕ → List ℕ → Type 0
IsFree r codes =
    ((l : ℕ) → l < row_at r (length codes) → slice_index codes ((column_at r (length codes) - r) * r + l) ≡ 0)
    ⊎ ((k : ℕ) → r ≤ k → k < column_at r (length codes) → slice_index codes ((k - r) * r + row_at r (length codes)) ≡ 0)
