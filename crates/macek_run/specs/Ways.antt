-- What two runs write that are asked for one text.
use Rattle.std.specs.Prelude.{ℕ, List, Option}
use Rattle.std.specs.Io.KnownBytes.{Appends}
use Rattle.formats.specs.Words.{Piece, AsksForKnownText}
use Rattle.formats.specs.Levels.{IsListing}
use Rattle.macek_run.specs.Run.{Lists}

-- Both sinks gained the same bytes.
pub record GainTheSame (before after other_before other_after : Option (List ℕ)) : Type 0 where
  pub written : List ℕ
  pub gained : Appends before after written
  pub other_gained : Appends other_before other_after written

-- Words of pieces that may stand ask for a text that is known, and so do others, perhaps of another program. Where both runs wrote
-- the listing of what they were asked for, they wrote the same bytes.
abbrev pub WriteOneListing : (Piece → Type 0) → (Piece → Type 0) → Type 0
WriteOneListing MayStand OtherMayStand =
    (words others : List (List ℕ)) (left other_left before after other_before other_after : Option (List ℕ)) (text : List ℕ)
    → AsksForKnownText MayStand words left text → AsksForKnownText OtherMayStand others other_left text
    → Lists MayStand words left before after IsListing → Lists OtherMayStand others other_left other_before other_after IsListing
    → GainTheSame before after other_before other_after
