-- What there is for a text and for a request.
use Rattle.std.specs.Prelude.{◌≡◌, ℕ, List, option_to_list}
use Rattle.std.specs.List.{AllByRecursion}
use Rattle.matroid_theory.specs.Level.{Family, Filters}
use Rattle.formats.specs.declared.refusal.Refusal.{Refusal}
use Rattle.formats.specs.Statement.{IsMinorName}
use Rattle.formats.specs.Request.{Request, StandsFor}
use Rattle.formats.specs.Refusal.{HasRefusal}
use Rattle.formats.specs.Listing.{LevelEntry}
use Rattle.formats.specs.Levels.{Grows, Keeps, IsLevelEntry, IsListing, IsProperFront}

-- the text stands for some request
abbrev pub StandsForSome : List ℕ → Type 0
StandsForSome text = (q : Request) × StandsFor text q

-- the text has some refusal
abbrev pub HasSomeRefusal : List ℕ → Type 0
HasSomeRefusal text = (why : Refusal) × HasRefusal text why

-- the minors of the request are such that a line can name them
pub record NamesMinors (q : Request) : Type 0 where
  pub forbid : AllByRecursion IsMinorName q.forbid
  pub has : AllByRecursion IsMinorName (option_to_list q.has)

-- what the request grows, and which of the forms it lists
abbrev pub HasFamily : Request → Type 0
HasFamily q = (family : Family) × Grows q family

abbrev pub HasFilters : Request → Type 0
HasFilters q = (filters : Filters) × Keeps q filters

-- what the listing of the request tells of a size
abbrev pub HasLevelEntry : Request → ℕ → Type 0
HasLevelEntry q n = (entry : LevelEntry) × (entry.size ≡ n) × IsLevelEntry q entry

-- the listing of the request
abbrev pub HasListing : Request → Type 0
HasListing q = (text : List ℕ) × IsListing q text

-- the text is a front of the listing of the request, and not all of it
abbrev pub IsFrontOfListing : Request → List ℕ → Type 0
IsFrontOfListing q written = (text : List ℕ) × IsListing q text × IsProperFront written text
