-- What a request grows and lists, in the words of the mathematics, and which text is its listing.
use Rattle.std.specs.Prelude.{◌≡◌, ℕ, ◌<◌, ◌≤◌, List, [], ◌∷◌, ◌++◌, map, length, option_to_list}
use Rattle.std.specs.List.{AllByRecursion, range_with_len}
use Rattle.matroid_theory.specs.Rep.{Rep, count, size, column_of}
use Rattle.matroid_theory.specs.Minor.{Matroid}
use Rattle.matroid_theory.specs.Given.{Given, IsGivenBy}
use Rattle.matroid_theory.specs.Level.{Family, Filters, IsLevel, IsListed, IsTry, IsCount}
use Rattle.formats.specs.Request.{Request}
use Rattle.formats.specs.Minors.{given_as}
use Rattle.formats.specs.Listing.{Form, LevelEntry, level_count, listing_blocks, text_of_blocks, IsCutOff}

-- the columns of one factor, and of each
abbrev pub columns_of_factor : Rep → ℕ → List (List ℕ)
columns_of_factor M f = map (column_of M f) (range_with_len 0 (size M))

abbrev pub columns_of : Rep → Form
columns_of M = map (columns_of_factor M) (range_with_len 0 (count M))

-- the matroids are those that are given so, one after another
abbrev pub AreGivenBy : List Given → List Matroid → Type 0
AreGivenBy [] [] = Unit {0}
AreGivenBy [] (N ∷ Ns) = ⊥
AreGivenBy (given ∷ more) [] = ⊥
AreGivenBy (given ∷ more) (N ∷ Ns) = IsGivenBy given N × AreGivenBy more Ns

-- what the request grows
pub record Grows (q : Request) (family : Family) : Type 0 where
  pub factors_are : family.factors ≡ q.factors
  pub rank_is : family.rank ≡ q.rank
  pub mode_is : family.mode ≡ q.mode
  pub forbids : AreGivenBy (map given_as q.forbid) family.forbidden

-- which of the forms it lists
pub record Keeps (q : Request) (filters : Filters) : Type 0 where
  pub connected : filters.connected ≡ q.connected
  pub three : filters.three ≡ q.three_connected
  pub cosimple : filters.cosimple ≡ q.cosimple
  pub distinct : filters.distinct ≡ q.distinct
  pub has : AreGivenBy (map given_as (option_to_list q.has)) (option_to_list filters.has)

-- how many tries the size n has: none where it equals the rank
pub record HasTries (family : Family) (n tried : ℕ) : Type 0 where
  pub first : n ≡ family.rank → tried ≡ 0
  pub later : family.rank < n → IsCount (IsTry family n) tried

-- what the listing of the request tells of the level of a size
pub record IsLevelEntry (q : Request) (entry : LevelEntry) : Type 0 where
  pub family : Family
  pub grows : Grows q family
  pub filters : Filters
  pub keeps : Keeps q filters
  pub forms : List Rep
  pub are_level : IsLevel family entry.size forms
  pub classes_are : entry.classes ≡ length forms
  pub shown : List Rep
  pub are_listed : IsListed family entry.size filters shown
  pub listed_are : entry.listed ≡ map columns_of shown
  pub tries : HasTries family entry.size entry.tried

-- These are the first levels of a request: one for each size from its rank on, and none above its size.
pub record AreFirstLevels (q : Request) (levels : List LevelEntry) : Type 0 where
  pub sizes : map (λ l. l.size) levels ≡ range_with_len q.rank (length levels)
  pub at_most : length levels ≤ level_count q
  pub each : AllByRecursion (IsLevelEntry q) levels

-- These are all of its levels.
pub record AreLevels (q : Request) (levels : List LevelEntry) : Type 0 where
  pub are_first : AreFirstLevels q levels
  pub are_all : length levels ≡ level_count q

-- The text is the listing of the request.
pub record IsListing (q : Request) (text : List ℕ) : Type 0 where
  pub levels : List LevelEntry
  pub are : AreLevels q levels
  pub is : text ≡ text_of_blocks (listing_blocks q levels)

-- The text is the listing up to so many levels, each of them whole, where that isn't all.
pub record IsListingUpTo (q : Request) (whole : ℕ) (text : List ℕ) : Type 0 where
  pub levels : List LevelEntry
  pub are : AreFirstLevels q levels
  pub count : whole ≡ length levels
  pub not_all : whole < level_count q
  pub is : text ≡ text_of_blocks (listing_blocks q levels)

-- The text is the listing cut off in a level or in the end line, after so many whole levels. The levels behind the cut needn't be known.
pub record IsListingCutOff (q : Request) (whole : ℕ) (text : List ℕ) : Type 0 where
  pub levels : List LevelEntry
  pub are : AreFirstLevels q levels
  pub cut : IsCutOff (listing_blocks q levels) whole text

-- The text is a front of the other, and not all of it.
pub record IsProperFront (text whole : List ℕ) : Type 0 where
  pub rest : List ℕ
  pub split : whole ≡ text ++ rest
  pub proper : 0 < length rest
