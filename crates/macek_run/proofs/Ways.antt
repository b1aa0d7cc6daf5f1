-- Runs that are asked for one text and end well write one listing.
use Rattle.std.proofs.Common.{◌≡◌, ◌∙◌, ℕ, List, [], ◌∷◌, Option, None, Some, sym, ap, subst}
use Rattle.std.specs.Prelude.{filter_map}
use Rattle.std.specs.Io.KnownBytes.{Appends}
use Rattle.formats.specs.Request.{Request, StandsFor}
use Rattle.formats.specs.Words.{Piece, IsCommand, StandsAtAlone, sample_in, IsTextOf, IsKnownTextOf, AsksForKnownText}
use Rattle.formats.specs.Levels.{IsListing}
use Rattle.formats.specs.Run.{Asks}
use Rattle.formats.proofs.OneListing.{listing_same}
use Rattle.formats.proofs.Unique.{request_same}
use Rattle.command_words.proofs.Readings.{one_reading_alone}
use Rattle.macek_run.specs.Ways.{WriteOneListing}

-- the words are read in one way
abbrev pub AreReadOnce : (Piece → Type 0) → Type 0
AreReadOnce MayStand = (words : List (List ℕ)) (pieces others : List Piece) → IsCommand MayStand words pieces → IsCommand MayStand words others → pieces ≡ others

known_is : (samples : List ℕ) (left : Option (List ℕ)) (text known : List ℕ) → IsTextOf samples left text → IsKnownTextOf samples left known → text ≡ known
known_is [] None text known is is_known = absurd is_known
known_is [] (Some xs) text known is is_known = is ∙ sym is_known
known_is (k ∷ ks) left text known is is_known = is ∙ sym is_known

-- so what they ask for is what the text that is known stands for
asked_stands : (MayStand : Piece → Type 0) → AreReadOnce MayStand → (words : List (List ℕ)) (left : Option (List ℕ)) (text : List ℕ) (q : Request)
    → AsksForKnownText MayStand words left text → Asks MayStand words left q → StandsFor text q
asked_stands MayStand once words left text q known asks =
    let same : asks.asked.pieces ≡ known.pieces = once words asks.asked.pieces known.pieces asks.asked.command known.command in
    let is_text = subst (λ (pieces : List Piece). IsTextOf (filter_map sample_in pieces) left asks.text) same asks.asked.is_text in
    subst (λ (t : List ℕ). StandsFor t q) (known_is (filter_map sample_in known.pieces) left asks.text text is_text known.is_text) asks.stands

pub one_listing : (MayStand OtherMayStand : Piece → Type 0) → AreReadOnce MayStand → AreReadOnce OtherMayStand → WriteOneListing MayStand OtherMayStand
one_listing MayStand OtherMayStand once other_once words others left other_left before after other_before other_after text known other_known lists other =
    let stands = asked_stands MayStand once words left text lists.request known lists.asks in
    let other_stands = asked_stands OtherMayStand other_once others other_left text other.request other_known other.asks in
    let same : other.request ≡ lists.request = request_same text other.request lists.request other_stands stands in
    let bytes : other.gains.written ≡ lists.gains.written =
    listing_same lists.request other.gains.written lists.gains.written
    (subst (λ (q : Request). IsListing q other.gains.written) same other.gains.part) lists.gains.part in
    record {
      written = lists.gains.written;
      gained = lists.gains.gained;
      other_gained = subst (λ (bs : List ℕ). Appends other_before other_after bs) bytes other.gains.gained;
    }

-- words that name the same sample, or both none, ask for the same text
pub same_text : (words others : List (List ℕ)) (pieces more : List Piece) (left : Option (List ℕ)) (text : List ℕ)
    → IsCommand StandsAtAlone words pieces → IsCommand StandsAtAlone others more → filter_map sample_in pieces ≡ filter_map sample_in more
    → AsksForKnownText StandsAtAlone words left text → AsksForKnownText StandsAtAlone others left text
same_text words others pieces more left text command other same known = record {
  pieces = more;
  command = other;
  is_text = subst (λ (samples : List ℕ). IsKnownTextOf samples left text)
      (ap (filter_map sample_in) (one_reading_alone words known.pieces pieces known.command command) ∙ same) known.is_text;
}
