-- What is wrong with a text from which growth can't start, the first fault in the order of the variants.
use Rattle.std.specs.Prelude.{◌≡◌, ℕ, ◌+◌, ◌<◌, ◌≤◌, List, length}
use Rattle.formats.specs.Request.{Request}
use Rattle.formats.specs.Levels.{IsListing}
use Rattle.resume_formats.specs.declared.fault.LevelFault.{LevelFault}
use Rattle.resume_formats.specs.declared.fault.LevelFault.TheVariants.{TooLong, Head, Differs, NoLevel, Less}
use Rattle.resume_formats.specs.Fronts.{BeginsWith, IsCommonFront, line_ends}
use Rattle.resume_formats.specs.Cut.{BeginsWithHead, IsCutListing, IsWhole, CanStart, most_listing}

-- The text begins with a whole head, and the listing of its request doesn't begin with the text: they part in this line.
pub record PartsInLine (text : List ℕ) (line : ℕ) : Type 0 where
  pub request : Request
  pub head : BeginsWithHead request text
  pub listing : List ℕ
  pub is_listing : IsListing request listing
  pub parts : ¬ (BeginsWith listing text)
  pub common : List ℕ
  pub is_common : IsCommonFront text listing common
  pub line_is : line ≡ line_ends common + 1

-- The text is a cut listing in which no size is whole.
pub record HasNoWholeSize (text : List ℕ) : Type 0 where
  pub request : Request
  pub cut : IsCutListing request text
  pub none : (n : ℕ) → ¬ (IsWhole request n text)

-- The text can't be read as a listing, for this reason.
abbrev pub HasFault : List ℕ → LevelFault → Type 0
HasFault text TooLong = most_listing < length text
HasFault text Head = (length text ≤ most_listing) × ((q : Request) → ¬ (BeginsWithHead q text))
HasFault text (Differs line) = (length text ≤ most_listing) × PartsInLine text line
HasFault text NoLevel = (length text ≤ most_listing) × HasNoWholeSize text
HasFault text (Less n) = ⊥

-- Growth to the wanted size can't start from the text, for this reason.
abbrev pub HasFaultFor : ℕ → List ℕ → LevelFault → Type 0
HasFaultFor wanted text (Less n) = (q : Request) × CanStart text q n × (wanted < n)
HasFaultFor wanted text fault = HasFault text fault
