-- Which of the representations that a parent and one more column make are kept.
use Rattle.std.specs.Prelude.{◌≡◌, ◌⊎◌, ℕ, List, [], ◌∷◌, ◌++◌}
use Rattle.matroid_theory.specs.declared.Mode.{Mode}
use Rattle.matroid_theory.specs.Rep.{Rep}
use Rattle.matroid_theory.specs.Order.{IsForm}
use Rattle.matroid_theory.specs.Minor.{Matroid}
use Rattle.matroid_theory.specs.Level.{Family, IsLevelForm, IsRisingList, followed_by}
use Rattle.formats.specs.Request.{Request}
use Rattle.formats.specs.Levels.{Grows}
use Rattle.level_driver.specs.Children.{IsCandidate}

-- M is a form of the level of size n of what the request grows
abbrev pub IsLevelFormOf : Request → ℕ → Rep → Type 0
IsLevelFormOf q n M = (family : Family) → Grows q family → IsLevelForm family n M

-- N is P followed by a column that makes none of the matroids a minor, and a form of the mode
pub record IsKeptChild (mode : Mode) (Ns : List Matroid) (P N : Rep) : Type 0 where
  pub column : List ℕ
  pub candidate : IsCandidate Ns P column
  pub is : N ≡ followed_by P column
  pub form : IsForm mode N

-- the new list is the old one and, after it, these forms in rising order
pub record AddsKept (mode : Mode) (Ns : List Matroid) (P : Rep) (old new : List Rep) : Type 0 where
  pub added : List Rep
  pub at_end : new ≡ old ++ added
  pub are : IsRisingList (IsKeptChild mode Ns P) added

-- the new list is the old one and, after it, this representation where it is a form of the mode
abbrev pub KeepsOwnForm : Mode → Rep → List Rep → List Rep → Type 0
KeepsOwnForm mode M old new = (IsForm mode M × (new ≡ old ++ M ∷ [])) ⊎ ((¬ (IsForm mode M)) × (new ≡ old))
