-- What a text gives to start from.
use Rattle.std.specs.Prelude.{◌≡◌, ◌↔◌, ℕ, ◌+◌, ◌<◌, ◌≤◌, List, length}
use Rattle.formats.specs.Request.{Request}
use Rattle.formats.specs.Levels.{IsListing}
use Rattle.level_driver.specs.declared.level.Level.{Level}
use Rattle.resume_formats.specs.Fronts.{BeginsWith, IsCommonFront}
use Rattle.resume_formats.specs.Cut.{IsCutListing, IsWhole, most_listing}
use Rattle.resume_formats.specs.Fault.{HasFault}
use Rattle.level_file.specs.declared.levels.Broken.{Broken}
use Rattle.level_file.specs.declared.levels.Broken.TheVariants as broken
use Rattle.level_file.specs.declared.read.StartFault.{StartFault}
use Rattle.level_file.specs.declared.read.StartFault.TheVariants.{Bad, NoMemory}
use Rattle.level_driver.specs.Grown.{AreGrown}

-- The text is a cut listing, and these are the levels of exactly the sizes that are whole in it, from the rank up.
pub record AreWholeLevels (q : Request) (text : List ℕ) (levels : List Level) : Type 0 where
  pub cut : IsCutListing q text
  pub grown : AreGrown q q.rank levels
  pub whole : (n : ℕ) → IsWhole q n text ↔ ((q.rank ≤ n) × (n < q.rank + length levels))

-- The text parts with the listing where it has so many bytes left.
pub record PartsFromListing (q : Request) (text : List ℕ) (left : ℕ) : Type 0 where
  pub listing : List ℕ
  pub is_listing : IsListing q listing
  pub parts : ¬ (BeginsWith listing text)
  pub common : List ℕ
  pub is_common : IsCommonFront text listing common
  pub left_is : length common + left ≡ length text

abbrev pub IsBroken : Request → List ℕ → Broken → Type 0
IsBroken q text (broken.Parts left) = PartsFromListing q text left
IsBroken q text broken.NoMemory = Unit {0}

-- Growth can start from the text with this request and these levels.
pub record IsStart (text : List ℕ) (q : Request) (levels : List Level) : Type 0 where
  pub short : length text ≤ most_listing
  pub some : 0 < length levels
  pub are : AreWholeLevels q text levels

-- It can't, for this reason; want of memory is free.
abbrev pub IsStartFault : List ℕ → StartFault → Type 0
IsStartFault text (Bad why) = HasFault text why
IsStartFault text NoMemory = Unit {0}
