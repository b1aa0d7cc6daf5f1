-- What a closed level keeps.
use Rattle.std.specs.Prelude.{ℕ, ◌<◌, ◌≤◌, ◌-◌, ◌^◌, min, ◌≡◌, List, length, map, slice_get, Some}
use Rattle.std.specs.List.{AllByRecursion}
use Rattle.histories.specs.declared.entry.Entry.{Entry}
use Rattle.histories.specs.SetObject.{keys_after}
use Rattle.histories.specs.History.{IsLegal}
use Rattle.stripe_book.specs.Seen.{OfCallersBelow, OwnCalls, SawBeginnings}
use Rattle.class_store.specs.declared.closed.ClosedStripe.{ClosedStripe}
use Rattle.class_store.specs.Seen.{Names}

-- a stripe that is closed: its set and its number of entries are those of its history, which is legal
pub record IsReplayed (c : ClosedStripe) : Type 0 where
  pub keys : c.set.keys ≡ keys_after c.ended.history
  pub count : c.entries ≡ min (length c.ended.history) (2 ^ 64 - 1)
  pub legal : IsLegal c.ended.history

-- and each call in it is of a caller below, those of the callers that have left are their own, and what these had seen is a beginning of it
pub record IsSettled (callers : ℕ) (c : ClosedStripe) : Type 0 where
  pub replayed : IsReplayed c
  pub own : OwnCalls c.ended.history c.ended.left
  pub saw : SawBeginnings c.ended.history c.ended.left
  pub below : OfCallersBelow callers c.ended.history

pub record IsClosed (stripes : List ClosedStripe) : Type 0 where
  pub replayed : AllByRecursion IsReplayed stripes
  pub names : (s : ℕ) (c : ClosedStripe) → slice_get stripes s ≡ Some c → Names (length stripes) s c.ended.history

abbrev pub histories_of : List ClosedStripe → List (List Entry)
histories_of stripes = map (λ (c : ClosedStripe). c.ended.history) stripes

-- a store: its number of stripes, and the histories of the level that was closed last
pub record StoreSide : Type 0 where
  pub stripes : ℕ
  pub last : List (List Entry)

pub record IsStore (count : ℕ) (histories : List (List Entry)) : Type 0 where
  pub some_stripe : 0 < count
  pub few_stripes : count ≤ 64
  pub width : length histories ≡ count
