-- The text that is asked for, from the numbers that were read: what a caller of both programs needs.
use Rattle.std.proofs.Common.{◌≡◌, ◌∙◌, ℕ, Bool, List, Option, sym, ap, subst}
use Rattle.std.specs.Prelude.{filter_map, option_to_list}
use Rattle.formats.specs.Words.{Piece, IsCommand, StandsAtMacek, StandsAtAlone, sample_in, IsTextOf, IsKnownTextOf, AsksForText, AsksForKnownText}
use Rattle.command_words.specs.Asking.{IsAsked}
use Rattle.command_words.proofs.Readings.{one_reading, one_reading_alone}

module _ {MayStand : Piece → Type 0} (words : List (List ℕ)) (workers sample : Option ℕ) (orderly : Bool)
    (is : IsAsked MayStand words workers sample orderly) (left : Option (List ℕ)) (text : List ℕ) where
  -- the words ask for the text of the sample that was read, or else for the source's
  pub asks_text : IsTextOf (option_to_list sample) left text → AsksForText MayStand words left text
  asks_text is_text = record {
    pieces = is.pieces;
    command = is.command;
    is_text = subst (λ samples. IsTextOf samples left text) (sym is.sample_is) is_text;
  }

  known_by : ((pieces others : List Piece) → IsCommand MayStand words pieces → IsCommand MayStand words others → pieces ≡ others)
      → AsksForKnownText MayStand words left text → IsKnownTextOf (option_to_list sample) left text
  known_by one asks =
      subst (λ samples. IsKnownTextOf samples left text)
      (ap (filter_map sample_in) (one asks.pieces is.pieces asks.command is.command) ∙ is.sample_is) asks.is_text

-- a text that is asked for and known is that of the sample that was read, or else the source's
pub known_text : (words : List (List ℕ)) (workers sample : Option ℕ) (orderly : Bool) → IsAsked StandsAtMacek words workers sample orderly
    → (left : Option (List ℕ)) (text : List ℕ) → AsksForKnownText StandsAtMacek words left text → IsKnownTextOf (option_to_list sample) left text
known_text words workers sample orderly is left text = known_by words workers sample orderly is left text (one_reading words)

pub known_text_alone : (words : List (List ℕ)) (workers sample : Option ℕ) (orderly : Bool) → IsAsked StandsAtAlone words workers sample orderly
    → (left : Option (List ℕ)) (text : List ℕ) → AsksForKnownText StandsAtAlone words left text → IsKnownTextOf (option_to_list sample) left text
known_text_alone words workers sample orderly is left text = known_by words workers sample orderly is left text (one_reading_alone words)

-- all pieces of the words name the sample that was read
pub one_sample_named : (words : List (List ℕ)) (workers sample : Option ℕ) (orderly : Bool) → IsAsked StandsAtAlone words workers sample orderly
    → (pieces : List Piece) → IsCommand StandsAtAlone words pieces → filter_map sample_in pieces ≡ option_to_list sample
one_sample_named words workers sample orderly is pieces command =
    ap (filter_map sample_in) (one_reading_alone words pieces is.pieces command is.command) ∙ is.sample_is
