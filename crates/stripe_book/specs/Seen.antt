-- What contracts see of a stripe's table and of its seats.
use Rattle.std.specs.Prelude.{ℕ, zero, suc, ◌+◌, ◌<◌, ◌≤◌, ◌≡◌, ◌⊎◌, List, [], ◌∷◌, ◌++◌}
use Rattle.std.specs.List.{AllByRecursion}
use mathlib.Core.List.{IsPrefix}
use Rattle.atomic_table.specs.Table.{Me}
use Rattle.atomic_table.specs.Seated.{TableId}
use Rattle.histories.specs.declared.entry.Entry.{Entry}
use Rattle.stripe_book.specs.declared.offer.Offer.{Offer}
use Rattle.stripe_book.specs.declared.view.Phase.{Phase}
use Rattle.stripe_book.specs.declared.view.Phase.TheVariants.{Idle, Begun, Entered}
use Rattle.stripe_book.specs.declared.view.Trace.{Trace}
use Rattle.stripe_book.specs.declared.view.Note.{Note}
use Rattle.stripe_book.specs.declared.view.Note.TheVariants.{OfBook}
use Rattle.stripe_book.specs.declared.view.Ledger.{Ledger}
use Rattle.stripe_book.specs.declared.view.Hand.{Hand}
use Rattle.stripe_book.specs.declared.view.View.{View}
use Rattle.stripe_book.specs.declared.view.View.TheVariants.{Keeps, Calls, Tells, Spent}
use Rattle.histories.specs.History.{calls_by}
use Rattle.stripe_book.specs.Rule.{HasLeft, hand, ledger}

-- a table: which one it is, and its number of callers
pub record TableSide : Type 0 where
  pub table : TableId
  pub callers : ℕ

-- a caller: its table and number, its phase, what it has seen of the history, and its own calls
pub record CallerSide : Type 0 where
  pub table : TableId
  pub number : ℕ
  pub phase : Phase
  pub seen : List Entry
  pub mine : List Entry

-- the book: its table, the history, how many callers were made, and those that have left
pub record BookSide : Type 0 where
  pub table : TableId
  pub history : List Entry
  pub made : ℕ
  pub left : List Trace

-- what a seat knows, where it is a caller's, and where it is the book's
abbrev pub hand_of : View → Hand
hand_of (Keeps b) = hand 0 Idle [] [] []
hand_of (Calls h) = h
hand_of (Tells n) = hand 0 Idle [] [] []
hand_of Spent = hand 0 Idle [] [] []

abbrev pub ledger_of : View → Ledger
ledger_of (Keeps b) = b
ledger_of (Calls h) = ledger [] 0 [] []
ledger_of (Tells n) = ledger [] 0 [] []
ledger_of Spent = ledger [] 0 [] []

abbrev pub caller_side : TableId → Hand → CallerSide
caller_side t h = record { table = t; number = h.trace.number; phase = h.phase; seen = h.trace.seen; mine = h.trace.mine }

abbrev pub book_side : TableId → Ledger → BookSide
book_side t b = record { table = t; history = b.history; made = b.made; left = b.left }

-- Which notes a caller has between calls of its methods: none, or after its entry one in which all its calls stand, of which it has seen all but the
-- last. An entered caller with none has seen them all
abbrev pub Settled : Phase → ℕ → List Entry → List Entry → List Note → Type 0
Settled Idle c seen mine notes = notes ≡ []
Settled Begun c seen mine notes = notes ≡ []
Settled Entered c seen mine notes = ((notes ≡ []) × (calls_by c seen ≡ mine)) ⊎
    ((history : List Entry) × (own : Entry) × (notes ≡ OfBook history ∷ []) × (calls_by c history ≡ mine) × (calls_by c seen ++ own ∷ [] ≡ mine))

-- the seat is the caller's of that number, between calls of its methods
pub record IsCaller (number words : ℕ) (me : Me Offer View) : Type 0 where
  pub view : me.0 ≡ Calls (hand_of me.0)
  pub slots : me.1 ≡ []
  pub named : (hand_of me.0).trace.number ≡ number
  pub room : number + 1 < words
  pub small : number < 64
  pub settled : Settled (hand_of me.0).phase number (hand_of me.0).trace.seen (hand_of me.0).trace.mine (hand_of me.0).notes

pub record IsBook (me : Me Offer View) : Type 0 where
  pub view : me.0 ≡ Keeps (ledger_of me.0)
  pub slots : me.1 ≡ []

-- each number below that of the callers has left
abbrev pub EachLeft : ℕ → List Trace → Type 0
EachLeft callers left = (c : ℕ) → c < callers → HasLeft c left

-- the calls of each caller that has left are those that the history has of it
abbrev pub OwnCalls : List Entry → List Trace → Type 0
OwnCalls history [] = Unit {0}
OwnCalls history (t ∷ ts) = (calls_by t.number history ≡ t.mine) × OwnCalls history ts

-- what each caller that has left had seen is a beginning of the history
abbrev pub SawBeginnings : List Entry → List Trace → Type 0
SawBeginnings history left = AllByRecursion (λ (t : Trace). IsPrefix t.seen history) left

-- the history has calls of these callers alone
abbrev pub OfCallersBelow : ℕ → List Entry → Type 0
OfCallersBelow callers history = (c : ℕ) → callers ≤ c → calls_by c history ≡ []

-- the callers of a table with numbers below n, which have seen and done nothing
abbrev pub fresh_callers : TableId → ℕ → List CallerSide
fresh_callers t zero = []
fresh_callers t (suc n) = fresh_callers t n ++ record { table = t; number = n; phase = Idle; seen = []; mine = [] } ∷ []
