-- The start of the search, and what covers all forms.
use Rattle.std.specs.Prelude.{ℕ, ◌<◌, ◌≡◌, ◌≢◌, Bool, true, false, not, ◌&&◌, List, length, slice_index_or, Option}
use Rattle.std.specs.Bool.{nat_le}
use Rattle.matroid_theory.specs.Rep.{Rep, count, size, matrix}
use Rattle.matroid_theory.specs.Move.{Move}
use Rattle.form_trails.specs.Trail.{ReachesForm, Trail}
use Rattle.form_search.specs.Search.{Entries, IsPlacing, IsAtMost, Covers, numbers_of}

-- the zero columns from element i on, and the others
abbrev pub zero_layer : Rep → (ℕ → Bool) → ℕ → Entries
zero_layer M none i = record { total = size M; there = λ e. nat_le i e && none e; element = λ e. e; codes = λ e f i. matrix M f i e }

abbrev pub others_of : Rep → (ℕ → Bool) → Entries
others_of M none = record { total = size M; there = λ e. not (none e); element = λ e. e; codes = λ e f i. matrix M f i e }

-- the test passes exactly for the zero columns
pub record IsZeroTest (M : Rep) (none : ℕ → Bool) : Type 0 where
  pub zeros : (e : ℕ) → e < size M → none e ≡ true → (f i : ℕ) → f < count M → i < M.rank → matrix M f i e ≡ 0
  pub some : (e : ℕ) → e < size M → none e ≡ false → (f : ℕ) × (i : ℕ) × (f < count M) × (i < M.rank) × (matrix M f i e ≢ 0)

-- the test that a list of marks of the other columns gives
abbrev pub zero_test : List Bool → ℕ → Bool
zero_test marks e = not (slice_index_or marks e false)

-- what was found is not above any form that is reached
abbrev pub CoversAll : Rep → Option (List ℕ) → Type 0
CoversAll M found = (m : Move) (N : Rep) → ReachesForm M m N → IsAtMost found (numbers_of M N)

-- the zero columns before element i are settled, and what covers the forms that the trail determines covers all
pub record IsStarted (M : Rep) (groups : ℕ → ℕ) (none : ℕ → Bool) (i : ℕ) (settled : List ℕ) : Type 0 where
  pub trail : Trail
  pub state : IsPlacing M M.rank groups settled (zero_layer M none i) (others_of M none) trail
  pub covers : (found : Option (List ℕ)) → Covers M trail M.rank (length settled) found → CoversAll M found
