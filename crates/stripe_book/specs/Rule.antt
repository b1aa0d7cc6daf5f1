-- The rule of a stripe's table: there is an account of the whole stripe that its words and all its views fit.
use Rattle.std.specs.Prelude.{ℕ, ◌+◌, ◌<◌, ◌≤◌, ◌≡◌, ◌≢◌, ◌⊎◌, List, [], ◌∷◌, ◌++◌, length, slice_index}
use Rattle.std.specs.List.{Contains}
use mathlib.Core.List.{IsPrefix}
use mathlib.Core.Option.{some}
use lib.ListN.{get_elem?}
use Rattle.atomic_table.specs.Table.{State}
use Rattle.histories.specs.declared.entry.Entry.{Entry}
use Rattle.stripe_book.specs.declared.offer.Offer.{Offer}
use Rattle.stripe_book.specs.declared.view.Phase.{Phase}
use Rattle.stripe_book.specs.declared.view.Phase.TheVariants.{Idle, Begun, Entered}
use Rattle.stripe_book.specs.declared.view.Trace.{Trace}
use Rattle.stripe_book.specs.declared.view.Note.{Note}
use Rattle.stripe_book.specs.declared.view.Note.TheVariants.{OfBook, OfCaller}
use Rattle.stripe_book.specs.declared.view.Ledger.{Ledger}
use Rattle.stripe_book.specs.declared.view.Hand.{Hand}
use Rattle.stripe_book.specs.declared.view.View.{View}
use Rattle.stripe_book.specs.declared.view.View.TheVariants.{Keeps, Calls, Tells, Spent}
use Rattle.histories.specs.History.{calls_by, RepliesFrom, IsNumbered}

abbrev pub trace : ℕ → List Entry → List Entry → Trace
trace c seen mine = record { number = c; seen = seen; mine = mine }

abbrev pub hand : ℕ → Phase → List Entry → List Entry → List Note → Hand
hand c p seen mine notes = record { trace = trace c seen mine; phase = p; notes = notes }

abbrev pub ledger : List Entry → ℕ → List Note → List Trace → Ledger
ledger history made notes left = record { history = history; made = made; notes = notes; left = left }

-- the book at the start
abbrev pub opened : View
opened = Keeps (ledger [] 0 [] [])

-- what a caller's word says
abbrev pub word_of : Phase → ℕ
word_of Idle = 0
word_of Begun = 1
word_of Entered = 2

-- where a caller is: it was not made yet, it has a seat, or it has left
pub data Place : Type 0 where
  unmade : Place
  seated : ℕ → Place
  gone : Place

-- What is so of the whole stripe at one moment: the book's seat and history, how many callers were made, and of each number its place, its calls and its phase
pub record Account : Type 0 where
  pub book : ℕ
  pub history : List Entry
  pub made : ℕ
  pub place : ℕ → Place
  pub mine : ℕ → List Entry
  pub phase : ℕ → Phase

-- of an entered caller the last call may be missing
abbrev pub Lags : Phase → List Entry → List Entry → Type 0
Lags Idle some_calls mine = some_calls ≡ mine
Lags Begun some_calls mine = some_calls ≡ mine
Lags Entered some_calls mine = (some_calls ≡ mine) ⊎ ((e : Entry) × (some_calls ++ e ∷ [] ≡ mine))

module _ (a : Account) where
  -- a note has a beginning of the history, and a beginning of a caller's calls
  abbrev pub NoteFits : Note → Type 0
  NoteFits (OfBook history) = IsPrefix history a.history
  NoteFits (OfCaller t) = IsPrefix t.seen a.history × IsPrefix t.mine (a.mine t.number)

  abbrev pub NotesFit : List Note → Type 0
  NotesFit [] = Unit {0}
  NotesFit (n ∷ ns) = NoteFits n × NotesFit ns

  -- a caller that has left had seen all its calls, and no other call of it stands anywhere
  abbrev pub GoneFits : Trace → Type 0
  GoneFits t = (a.place t.number ≡ gone) × (t.mine ≡ a.mine t.number) × IsPrefix t.seen a.history × (calls_by t.number t.seen ≡ t.mine)

  abbrev pub LeftFit : List Trace → Type 0
  LeftFit [] = Unit {0}
  LeftFit (t ∷ ts) = GoneFits t × LeftFit ts

  pub record BookFits (seat : ℕ) (b : Ledger) : Type 0 where
    pub here : seat ≡ a.book
    pub history : b.history ≡ a.history
    pub made : b.made ≡ a.made
    pub notes : NotesFit b.notes
    pub left : LeftFit b.left

  pub record HandFits (seat : ℕ) (h : Hand) : Type 0 where
    pub here : a.place h.trace.number ≡ seated seat
    pub phase : h.phase ≡ a.phase h.trace.number
    pub mine : h.trace.mine ≡ a.mine h.trace.number
    pub seen : IsPrefix h.trace.seen a.history
    pub known : Lags h.phase (calls_by h.trace.number h.trace.seen) h.trace.mine
    pub notes : NotesFit h.notes

  abbrev pub Fits : ℕ → View → Type 0
  Fits seat (Keeps b) = BookFits seat b
  Fits seat (Calls h) = HandFits seat h
  Fits seat (Tells n) = NoteFits n
  Fits seat Spent = Unit {0}

-- the view of the caller c is at the seat
abbrev pub SitsAt : List View → ℕ → ℕ → Type 0
SitsAt views c seat = (h : Hand) × (get_elem? views seat ≡ some (Calls h)) × (h.trace.number ≡ c)

-- the caller c is one of those that have left
abbrev pub HasLeft : ℕ → List Trace → Type 0
HasLeft c left = (t : Trace) × Contains left t × (t.number ≡ c)

pub record IsKept (callers : ℕ) (words : List ℕ) (views : List View) (a : Account) : Type 0 where
  -- there is a book, and its history is legal
  pub keeper : (b : Ledger) × (get_elem? views a.book ≡ some (Keeps b))
  pub replies : RepliesFrom [] a.history
  -- a number that was made has a seat, with its view, or has left, and the book has its calls
  pub made : (c : ℕ) → c < a.made → a.place c ≢ unmade
  pub sits : (c seat : ℕ) → a.place c ≡ seated seat → SitsAt views c seat
  pub left : (c : ℕ) (b : Ledger) → get_elem? views a.book ≡ some (Keeps b) → a.place c ≡ gone → HasLeft c b.left
  -- a number that was not made has no call and no place
  pub room : a.made ≤ callers
  pub unmade : (c : ℕ) → a.made ≤ c → (a.place c ≡ unmade) × (a.mine c ≡ [])
  -- the words
  pub width : length words ≡ callers + 1
  pub word : (c : ℕ) → c < callers → slice_index words (c + 1) ≡ word_of (a.phase c)
  pub idle : (c : ℕ) → ((seat : ℕ) → a.place c ≢ seated seat) → a.phase c ≡ Idle
  -- the calls
  pub numbers : (c : ℕ) → IsNumbered c 0 (a.mine c)
  pub known : (c : ℕ) → Lags (a.phase c) (calls_by c a.history) (a.mine c)
  -- the views
  pub fits : (seat : ℕ) (v : View) → get_elem? views seat ≡ some v → Fits a seat v

abbrev pub Holds : ℕ → State Offer View → Type 0
Holds callers s = (a : Account) × IsKept callers s.words s.views a
