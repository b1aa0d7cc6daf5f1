-- What accepted words ask for.
use Rattle.std.specs.Prelude.{◌≡◌, ◌↔◌, ◌⊎◌, ℕ, Bool, IsTrue, List, Option, Some, None, Contains, filter_map, option_to_list}
use Rattle.formats.specs.Words.{Piece, Workers, Orderly, IsCommand, StandsAtMacek, StandsAtAlone, sample_in}

-- the number of workers that a piece names
abbrev pub workers_in : Piece → Option ℕ
workers_in (Workers n) = Some n
workers_in _ = None

-- one of the programs takes the piece
abbrev pub StandsAtEither : Piece → Type 0
StandsAtEither piece = StandsAtMacek piece ⊎ StandsAtAlone piece

-- The words are accepted. These are the numbers of workers and of the sample that they name, where they do, and whether
-- they ask for the orderly way.
pub record IsAsked (MayStand : Piece → Type 0) (words : List (List ℕ)) (workers sample : Option ℕ) (orderly : Bool) : Type 0 where
  pub pieces : List Piece
  pub command : IsCommand MayStand words pieces
  pub workers_are : filter_map workers_in pieces ≡ option_to_list workers
  pub sample_is : filter_map sample_in pieces ≡ option_to_list sample
  pub orderly_is : IsTrue orderly ↔ Contains pieces Orderly
