-- What the store of a run holds when the run has ended.
use Rattle.std.specs.Prelude.{◌≡◌, ◌⊎◌, ℕ, ◌+◌, ◌-◌, ◌<◌, ◌≤◌, List, Option, filter_map, min, option_to_list, unwrap_or}
use Rattle.formats.specs.Request.{Request}
use Rattle.formats.specs.Words.{Piece, IsCommand, StandsAtMacek}
use Rattle.command_words.specs.Asking.{workers_in}
use Rattle.class_store.specs.Closed.{StoreSide}
use Rattle.class_store.specs.Seen.{AreOfCallersBelow}
use Rattle.workers.specs.Store.{HoldsTriesOf}
use Rattle.macek_run.specs.declared.write.Stop.{Stop}
use Rattle.macek_run.specs.declared.write.Stop.TheVariants.{Failed, NoMemory}

-- The level of this size was the last one grown through the store. The level of the size that equals the rank isn't grown, and leaves it as it was.
pub record HasClosed (q : Request) (size : ℕ) (old new : StoreSide) : Type 0 where
  pub first : size ≤ q.rank → new ≡ old
  pub later : q.rank < size → HoldsTriesOf q size new.last

-- So many levels were written whole when a write failed: the level behind them was grown, or they are all.
abbrev pub HasClosedAtCut : Request → ℕ → StoreSide → StoreSide → Type 0
HasClosedAtCut q whole old new = HasClosed q (min (q.rank + whole) q.size) old new

-- So many levels were written whole when memory was wanting: the level behind them was grown, or it wasn't.
abbrev pub HasClosedSome : Request → ℕ → StoreSide → StoreSide → Type 0
HasClosedSome q whole old new = HasClosed q (q.rank + whole) old new ⊎ HasClosed q (q.rank + whole - 1) old new

-- the store where the listing ends early for this reason
abbrev pub LeavesStore : Stop → Request → ℕ → StoreSide → StoreSide → Type 0
LeavesStore Failed q whole old new = HasClosedAtCut q whole old new
LeavesStore NoMemory q whole old new = HasClosedSome q whole old new

-- The level that was closed last is the old one, or each call in its histories is of a worker with a number below.
abbrev pub HasCallsBelow : ℕ → StoreSide → StoreSide → Type 0
HasCallsBelow workers old new = (new.last ≡ old.last) ⊎ AreOfCallersBelow workers new.last

-- The words are accepted, and they ask for so many workers: the number that they name, or else 4.
pub record AskForWorkers (words : List (List ℕ)) (workers : ℕ) : Type 0 where
  pub pieces : List Piece
  pub command : IsCommand StandsAtMacek words pieces
  pub named : Option ℕ
  pub workers_are : filter_map workers_in pieces ≡ option_to_list named
  pub count : workers ≡ unwrap_or named 4
