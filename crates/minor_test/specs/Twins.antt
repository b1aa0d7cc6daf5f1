-- Elements of a small matroid that may change places.
use Rattle.std.specs.Prelude.{ℕ, ◌<◌, ◌≡◌, ◌^◌, ◌==◌, if◌then◌else◌, List, Option, Some, None, IsSome, slice_index_or}
use Rattle.std.specs.List.{Contains}
use Rattle.matroid_theory.specs.Matroid.{members}
use Rattle.matroid_theory.specs.Minor.{Matroid}

-- the elements i and j in each other's place
abbrev pub swapped : ℕ → ℕ → ℕ → ℕ
swapped i j x = if x == i then j else (if x == j then i else x)

-- the set Y is X with i and j in each other's place
abbrev pub IsSwapped : ℕ → ℕ → ℕ → ℕ → ℕ → Type 0
IsSwapped n i j X Y = (x : ℕ) → x < n → members Y x ≡ members X (swapped i j x)

-- i comes before j, and with i and j in each other's place the bases are the same
pub record AreTwins (N : Matroid) (i j : ℕ) : Type 0 where
  pub before : i < j
  pub below : j < N.size
  pub bases : (X Y : ℕ) → X < 2 ^ N.size → Y < 2 ^ N.size → IsSwapped N.size i j X Y → Contains N.bases X → Contains N.bases Y

-- at the place of an element a twin before it, if there is one
abbrev pub AreTwinsOf : Matroid → List (Option ℕ) → Type 0
AreTwinsOf N twins = (i j : ℕ) → slice_index_or twins j None ≡ Some i → AreTwins N i j

-- each element before n that has a twin before it has one in the list
abbrev pub AreAllFound : Matroid → List (Option ℕ) → ℕ → Type 0
AreAllFound N twins n = (i j : ℕ) → j < n → AreTwins N i j → IsSome (slice_index_or twins j None)

-- of these twins the earlier one has the lower image
abbrev pub KeepsOrder : List (Option ℕ) → (ℕ → ℕ) → Type 0
KeepsOrder twins f = (i j : ℕ) → slice_index_or twins j None ≡ Some i → f i < f j
