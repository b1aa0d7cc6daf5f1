-- Cut listings, and which sizes are whole in them.
use Rattle.std.specs.Prelude.{◌≡◌, ℕ, ◌+◌, ◌≤◌, List, ◌++◌, map, length, false, None}
use Rattle.formats.specs.declared.refusal.PrintMode.TheVariants.{Forms}
use Rattle.formats.specs.Request.{Request, StandsFor}
use Rattle.formats.specs.Listing.{LevelEntry, head_text, level_pieces, text_of_blocks}
use Rattle.formats.specs.Levels.{AreFirstLevels, IsListing}
use Rattle.resume_formats.specs.Fronts.{BeginsWith}

-- The request has no filter, and prints forms.
pub record ListsAllForms (q : Request) : Type 0 where
  pub connected : q.connected ≡ false
  pub three_connected : q.three_connected ≡ false
  pub cosimple : q.cosimple ≡ false
  pub distinct : q.distinct ≡ false
  pub has : q.has ≡ None
  pub print : q.print ≡ Forms

-- The text begins with the whole head of a request without filter that prints forms, for which some text stands.
pub record BeginsWithHead (q : Request) (text : List ℕ) : Type 0 where
  pub asking : List ℕ
  pub stands : StandsFor asking q
  pub all_forms : ListsAllForms q
  pub head : BeginsWith text (head_text q)

-- The text begins with such a head, and the listing of the request begins with the text.
pub record IsCutListing (q : Request) (text : List ℕ) : Type 0 where
  pub head : BeginsWithHead q text
  pub listing : List ℕ
  pub is_listing : IsListing q listing
  pub front : BeginsWith listing text

-- the head and the pieces of some levels
abbrev pub text_of_levels : Request → List LevelEntry → List ℕ
text_of_levels q levels = head_text q ++ text_of_blocks (map (level_pieces q.print) levels)

-- The size n is whole in the text: it begins with the head and the pieces of the levels from the rank to n.
pub record IsWhole (q : Request) (n : ℕ) (text : List ℕ) : Type 0 where
  pub levels : List LevelEntry
  pub are : AreFirstLevels q levels
  pub at_least : q.rank ≤ n
  pub last : n + 1 ≡ q.rank + length levels
  pub begins : BeginsWith text (text_of_levels q levels)

-- The size n is the greatest that is whole.
pub record IsLastWhole (q : Request) (n : ℕ) (text : List ℕ) : Type 0 where
  pub whole : IsWhole q n text
  pub greatest : (m : ℕ) → IsWhole q m text → m ≤ n

-- the most bytes that a listing may have to be resumed from
abbrev pub most_listing : ℕ
most_listing = 16777216

-- Growth can start from the text: it is a cut listing of the request in which the size n is the greatest that is whole.
pub record CanStart (text : List ℕ) (q : Request) (n : ℕ) : Type 0 where
  pub short : length text ≤ most_listing
  pub cut : IsCutListing q text
  pub last : IsLastWhole q n text
