-- The versions of a text, and what may stand in a text of each.
use Rattle.std.specs.Prelude.{ℕ, ◌≤◌, List}
use Rattle.std.specs.List.{AllByRecursion}
use Rattle.matroid_theory.specs.Field.{IsOrder, IsFactors}
use Rattle.formats.specs.Statement.{most_order}
use Rattle.request_lines.specs.declared.version.Version.{Version}
use Rattle.request_lines.specs.declared.version.Version.TheVariants.{One, Two}

abbrev pub version_number : Version → ℕ
version_number One = 1
version_number Two = 2

-- an order that may stand in a text of the version
abbrev pub IsOrderIn : ℕ → ℕ → Type 0
IsOrderIn version q = IsOrder q × (q ≤ most_order version)

-- factors that may stand in a text of the version
abbrev pub AreFactorsIn : ℕ → List ℕ → Type 0
AreFactorsIn version orders = IsFactors orders × AllByRecursion (λ order. order ≤ most_order version) orders
