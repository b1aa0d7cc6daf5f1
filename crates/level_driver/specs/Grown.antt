-- The levels of what a request grows.
use Rattle.std.specs.Prelude.{◌≡◌, ℕ, ◌+◌, ◌<◌, ◌≤◌, ◌↔◌, List, [], ◌∷◌, Bool, IsTrue, Some, slice_get}
use Rattle.matroid_theory.specs.Rep.{Rep}
use Rattle.matroid_theory.specs.Level.{Family, Filters, IsLevel, Passes}
use Rattle.formats.specs.Request.{Request}
use Rattle.formats.specs.Levels.{Grows, Keeps, HasTries}
use Rattle.level_driver.specs.declared.level.Level.{Level}

-- the list is the level of size n of what the request grows
abbrev pub IsLevelOf : Request → ℕ → List Rep → Type 0
IsLevelOf q n forms = (family : Family) → Grows q family → IsLevel family n forms

-- the number of the tries of size n
abbrev pub AreTriesOf : Request → ℕ → ℕ → Type 0
AreTriesOf q n tried = (family : Family) → Grows q family → HasTries family n tried

-- the level of size n of what the request grows, with its number of tries
pub record IsGrown (q : Request) (n : ℕ) (level : Level) : Type 0 where
  pub forms : IsLevelOf q n level.forms
  pub tried : AreTriesOf q n level.tried

-- the levels of the sizes from n up
abbrev pub AreGrown : Request → ℕ → List Level → Type 0
AreGrown q n [] = Unit {0}
AreGrown q n (level ∷ levels) = IsGrown q n level × AreGrown q (n + 1) levels

-- the list is the level of size n, after which the request has a level of size n + 1
pub record IsParentLevel (q : Request) (n : ℕ) (parents : List Rep) : Type 0 where
  pub at_least : q.rank ≤ n
  pub before : n < q.size
  pub level : IsLevelOf q n parents

-- whether form i of the level passes every filter of the request
abbrev pub TellsPassing : Request → List Rep → ℕ → Bool → Type 0
TellsPassing q forms i listed =
    (n : ℕ) (family : Family) (filters : Filters) (M : Rep) →
    Grows q family → Keeps q filters → IsLevel family n forms → slice_get forms i ≡ Some M →
    IsTrue listed ↔ Passes family n filters M
