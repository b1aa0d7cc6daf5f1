-- How what is left of a text stands to a piece.
use Rattle.std.specs.Prelude.{◌≡◌, ℕ, List, ◌++◌, length}
use Rattle.formats.specs.Levels.{IsProperFront}
use Rattle.resume_formats.specs.Fronts.{PartHere}
use Rattle.level_file.specs.declared.compare.Unmet.{Unmet}
use Rattle.level_file.specs.declared.compare.Unmet.TheVariants.{Ends, Parts}

-- They part where the first has so many bytes left.
pub record PartsWith (left : ℕ) (text other : List ℕ) : Type 0 where
  pub common : List ℕ
  pub mine : List ℕ
  pub others : List ℕ
  pub text_is : text ≡ common ++ mine
  pub other_is : other ≡ common ++ others
  pub parts : PartHere mine others
  pub left_is : left ≡ length mine

-- It doesn't begin with the piece: it ends within it, or they part, whatever follows the piece.
abbrev pub IsUnmet : List ℕ → List ℕ → Unmet → Type 0
IsUnmet rest piece Ends = IsProperFront rest piece
IsUnmet rest piece (Parts left) = (more : List ℕ) → PartsWith left rest (piece ++ more)
