-- What the steps of a run leave.
use Rattle.std.specs.Prelude.{◌≡◌, ℕ, List, ◌++◌}
use Rattle.std.specs.List.{concat}
use Rattle.formats.specs.Request.{Request}
use Rattle.formats.specs.Listing.{LevelEntry, level_pieces}
use Rattle.formats.specs.Levels.{IsLevelEntry, IsListingUpTo, IsListingCutOff}
use Rattle.macek_run.specs.declared.write.Stop.{Stop}
use Rattle.macek_run.specs.declared.write.Stop.TheVariants.{Failed, NoMemory}

-- `Part` holds of the bytes that tell of the level of a size, behind a front.
pub record TellsLevel (q : Request) (n : ℕ) (front : List ℕ) (Part : List ℕ → Type 0) : Type 0 where
  pub entry : LevelEntry
  pub is_entry : IsLevelEntry q entry
  pub at : entry.size ≡ n
  pub part : Part (front ++ concat (level_pieces q.print entry))

-- The text is less than the listing, with so many whole levels.
abbrev pub IsLess : Stop → Request → ℕ → List ℕ → Type 0
IsLess Failed q whole text = IsListingCutOff q whole text
IsLess NoMemory q whole text = IsListingUpTo q whole text
