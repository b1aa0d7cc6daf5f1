-- What contracts see of an open level, of its passes and of a closed level.
use Rattle.std.specs.Prelude.{ℕ, zero, suc, ◌==◌, replicate, ◌<◌, ◌≤◌, ◌≡◌, List, [], ◌∷◌, ◌++◌, map, length, slice_get, slice_set, Some}
use Rattle.std.specs.List.{AllByRecursion, Contains, count_by, sum_by}
use mathlib.Core.List.{IsPrefix}
use Rattle.atomic_table.specs.Seated.{TableId}
use Rattle.histories.specs.declared.entry.Entry.{Entry}
use Rattle.histories.specs.declared.entry.Reply.{Reply}
use Rattle.histories.specs.SetObject.{keys_after, reply_to}
use Rattle.histories.specs.History.{IsLegal, calls_by, entry}
use Rattle.histories.specs.Counts.{entries_with, new_keys}
use Rattle.link_set.specs.Hash.{stripe_of}
use Rattle.stripe_book.specs.declared.view.Phase.TheVariants.{Idle}
use Rattle.stripe_book.specs.Seen.{CallerSide, TableSide, OfCallersBelow}
use Rattle.stripe_turn.specs.Seen.{TurnSide, TurnsSide}

-- which level it is: its turns, and the tables of its stripes in order
pub record LevelId : Type 0 where
  pub turns : TableId
  pub tables : List TableId

-- an open level, and how many passes it has
pub record LevelSide : Type 0 where
  pub level : LevelId
  pub passes : ℕ

-- what a pass has seen of one stripe's history, and what it has done there
pub record Track : Type 0 where
  pub seen : List Entry
  pub mine : List Entry

-- a pass: its level, its number, and a track for each stripe in order
pub record PassSide : Type 0 where
  pub level : LevelId
  pub number : ℕ
  pub tracks : List Track

abbrev pub track_of : CallerSide → Track
track_of c = record { seen = c.seen; mine = c.mine }

abbrev pub pass_side : ℕ → List CallerSide → TurnSide → PassSide
pass_side number callers turn = record { level = record { turns = turn.turns; tables = turn.tables }; number = number; tracks = map track_of callers }

abbrev pub blank : Track
blank = record { seen = []; mine = [] }

-- each key names this stripe
abbrev pub Names : ℕ → ℕ → List Entry → Type 0
Names stripes s history = AllByRecursion (λ (e : Entry). stripe_of stripes e.key ≡ s) history

-- the caller that a pass with this number has at the stripe s, between calls
pub record IsReady (number : ℕ) (tables : List TableId) (s : ℕ) (c : CallerSide) : Type 0 where
  pub here : slice_get tables s ≡ Some c.table
  pub named : c.number ≡ number
  pub idle : c.phase ≡ Idle
  pub calls : calls_by number c.seen ≡ c.mine
  pub names : Names (length tables) s c.mine

pub record IsPass (number : ℕ) (callers : List CallerSide) (turn : TurnSide) : Type 0 where
  pub width : length callers ≡ length turn.tables
  pub free : turn.held ≡ []
  pub ready : (s : ℕ) (c : CallerSide) → slice_get callers s ≡ Some c → IsReady number turn.tables s c

pub record IsOpen (tables : List TableSide) (turns : TurnsSide) (passes : ℕ) : Type 0 where
  pub same : map (λ (t : TableSide). t.table) tables ≡ turns.tables
  pub some_stripe : 0 < length tables
  pub few_stripes : length tables ≤ 64
  pub some_pass : 0 < passes
  pub callers : AllByRecursion (λ (t : TableSide). t.callers ≡ passes) tables

-- One offer as a pass knows it: the history before it, of which what was seen is a beginning, and its own entry
pub record IsOffer (number : ℕ) (key : List ℕ) (reply : Reply) (old new : Track) : Type 0 where
  pub before : List Entry
  pub begun : IsPrefix old.seen before
  pub answer : reply ≡ reply_to (keys_after before) key
  pub seen : new.seen ≡ before ++ entry number (length old.mine) key reply ∷ []
  pub mine : new.mine ≡ old.mine ++ entry number (length old.mine) key reply ∷ []

-- the pass offered the key to this stripe, and no other stripe of it changed
abbrev pub OffersKey : PassSide → PassSide → ℕ → List ℕ → Reply → Type 0
OffersKey earlier later stripe key reply = (old new : Track) × (slice_get earlier.tracks stripe ≡ Some old)
    × (later.tracks ≡ slice_set earlier.tracks stripe new)
    × IsOffer earlier.number key reply old new

-- ---- opening a level
-- the callers of a pass with this number, and those of each number below n
abbrev pub fresh_caller : ℕ → TableId → CallerSide
fresh_caller number t = record { table = t; number = number; phase = Idle; seen = []; mine = [] }

abbrev pub fresh_row : List TableId → ℕ → List CallerSide
fresh_row tables number = map (fresh_caller number) tables

abbrev pub fresh_rows : List TableId → ℕ → List (List CallerSide)
fresh_rows tables zero = []
fresh_rows tables (suc n) = fresh_rows tables n ++ fresh_row tables n ∷ []

-- the passes of a level with numbers below n, which have seen and done nothing
abbrev pub fresh_passes : LevelId → ℕ → List PassSide
fresh_passes level zero = []
fresh_passes level (suc n) = fresh_passes level n ++ record { level = level; number = n; tracks = replicate (length level.tables) blank } ∷ []

-- ---- closing a level
-- these are all passes of the level, each once
pub record AreItsPasses (level : LevelSide) (passes : List PassSide) : Type 0 where
  pub each : AllByRecursion (λ (p : PassSide). p.level ≡ level.level) passes
  pub once : (c : ℕ) → c < level.passes → count_by (λ (p : PassSide). c == p.number) passes ≡ 1

-- the key was told New in one of these histories
abbrev pub IsNewIn : List (List Entry) → List ℕ → Type 0
IsNewIn histories key = (s : ℕ) × (history : List Entry) × (slice_get histories s ≡ Some history) × Contains (new_keys history) key

-- how many calls of the pass have the key
abbrev pub calls_with : List ℕ → PassSide → ℕ
calls_with key p = sum_by (λ (t : Track). entries_with key t.mine) p.tracks

-- the pass did just its calls of the history, and what it had seen is a beginning of it
abbrev pub IsDoneBy : ℕ → List Entry → PassSide → Type 0
IsDoneBy s history p = (t : Track) × (slice_get p.tracks s ≡ Some t) × (calls_by p.number history ≡ t.mine) × IsPrefix t.seen history

-- the history of the stripe s of a level that these passes closed
pub record IsClosedBy (level : LevelSide) (passes : List PassSide) (s : ℕ) (history : List Entry) : Type 0 where
  pub legal : IsLegal history
  pub calls : AllByRecursion (IsDoneBy s history) passes
  pub others : OfCallersBelow level.passes history
  pub names : Names (length level.level.tables) s history

-- the history of the stripe s of so many: a legal history of a set, all whose keys name that stripe
pub record IsStripeHistory (stripes s : ℕ) (history : List Entry) : Type 0 where
  pub legal : IsLegal history
  pub names : Names stripes s history

-- these are the histories of the stripes of a level, in order
abbrev pub AreStripeHistories : List (List Entry) → Type 0
AreStripeHistories histories = (s : ℕ) (history : List Entry) → slice_get histories s ≡ Some history → IsStripeHistory (length histories) s history

-- each call in these histories is of a caller with a number below
abbrev pub AreOfCallersBelow : ℕ → List (List Entry) → Type 0
AreOfCallersBelow callers histories = (s : ℕ) (history : List Entry) → slice_get histories s ≡ Some history → OfCallersBelow callers history
