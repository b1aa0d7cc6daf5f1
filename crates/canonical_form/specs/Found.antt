-- What the search has found: the least list of later columns so far, if there is one.
use Rattle.std.specs.Prelude.{ℕ, ◌≢◌, ◌<◌, ◌≤◌, ◌%◌, ◌*◌, List, length, slice_index, Option}
use Rattle.std.specs.Option.{MatchOption}
use Rattle.std.specs.declared.cmp.Ordering.TheVariants.{Greater}
use Rattle.matroid_theory.specs.Rep.{Rep, count, order}
use Rattle.matroid_theory.specs.Move.{Move}
use Rattle.canonical_form.specs.Search.{Reaches, PicksFirst, HasScalars, IsNotAbove, columns_cmp}

-- something was found, and it is not above these columns
abbrev pub IsAtMost : Option (List (List ℕ)) → List (List ℕ) → Type 0
IsAtMost found columns = MatchOption found ⊥ (λ least. columns_cmp least columns ≢ Greater)

-- what was found is not above anything that a move reaches whose first columns come from these
abbrev pub CoversBases : Rep → List ℕ → Option (List (List ℕ)) → Type 0
CoversBases M columns found = (m : Move) (N : Rep) → Reaches M m N → PicksFirst columns m → IsNotAbove found N

-- the same of the moves whose first row scalars are these
abbrev pub CoversScalars : Rep → List ℕ → List ℕ → Option (List (List ℕ)) → Type 0
CoversScalars M basis scalars found = (m : Move) (N : Rep) → Reaches M m N → PicksFirst basis m → HasScalars M scalars m → IsNotAbove found N

-- the first scalars of the rows, row by row, and factor by factor within a row, none of them 0
pub record AreFirstScalars (M : Rep) (scalars : List ℕ) : Type 0 where
  pub room : length scalars ≤ M.rank * count M
  pub codes : (e : ℕ) → e < length scalars → slice_index scalars e < order M (e % count M)
  pub nonzero : (e : ℕ) → e < length scalars → slice_index scalars e ≢ 0
