-- What the steps on a stripe's table tell.
use Rattle.std.specs.Prelude.{ℕ, ◌+◌, ◌≡◌, List, [], ◌∷◌, ◌++◌, length, cond, ltb}
use mathlib.Core.Option.{some}
use mathlib.Core.List.{IsPrefix}
use Rattle.atomic_table.specs.Table.{Me, Step}
use Rattle.histories.specs.declared.entry.Entry.{Entry}
use Rattle.stripe_book.specs.declared.offer.Offer.{Offer}
use Rattle.stripe_book.specs.declared.view.Phase.{Phase}
use Rattle.stripe_book.specs.declared.view.Phase.TheVariants.{Idle, Begun, Entered}
use Rattle.stripe_book.specs.declared.view.Hand.{Hand}
use Rattle.stripe_book.specs.declared.view.Trace.{Trace}
use Rattle.stripe_book.specs.declared.view.Ledger.{Ledger}
use Rattle.stripe_book.specs.declared.view.Note.{Note}
use Rattle.stripe_book.specs.declared.view.Note.TheVariants.{OfBook, OfCaller}
use Rattle.stripe_book.specs.declared.view.View.{View}
use Rattle.stripe_book.specs.declared.view.View.TheVariants.{Keeps, Calls, Tells, Spent}
use Rattle.histories.specs.History.{entry, calls_by}
use Rattle.stripe_book.specs.Rule.{hand, ledger, Lags}
use Rattle.stripe_book.specs.Seen.{hand_of, ledger_of}

abbrev pub Seated : Type 0
Seated = Me Offer View

-- the same caller in another phase
abbrev pub in_phase : Phase → Hand → Hand
in_phase p h = hand h.trace.number p h.trace.seen h.trace.mine h.notes

abbrev pub phases : Phase → Step Offer → Seated → ℕ → Seated → Type 0
phases p st me found w = w ≡ (Calls (in_phase p (hand_of me.0)), me.1)

-- the call that a caller signs, and the caller after it
abbrev pub signing : Hand → Offer → Entry
signing h o = entry h.trace.number (length h.trace.mine) o.key.value o.reply

abbrev pub signed : Hand → Offer → Hand
signed h o = hand h.trace.number Entered h.trace.seen (h.trace.mine ++ signing h o ∷ []) h.notes

abbrev pub signs : Step Offer → Seated → ℕ → Seated → Type 0
signs st me found w = (o : Offer) → st.said ≡ some o → w ≡ (Calls (signed (hand_of me.0) o), me.1)

-- what a seat says of itself in a note, and a seat that was told one
abbrev pub note_of : View → Note
note_of (Keeps b) = OfBook b.history
note_of (Calls h) = OfCaller h.trace
note_of (Tells n) = n
note_of Spent = OfBook []

abbrev pub add_note : View → Note → View
add_note (Keeps b) n = Keeps (ledger b.history b.made (n ∷ b.notes) b.left)
add_note (Calls h) n = Calls (hand h.trace.number h.phase h.trace.seen h.trace.mine (n ∷ h.notes))
add_note (Tells m) n = Tells m
add_note Spent n = Spent

abbrev pub told : View → View → View
told v (Keeps b) = v
told v (Calls h) = v
told v (Tells n) = add_note v n
told v Spent = v

abbrev pub longer : List Entry → List Entry → List Entry
longer xs ys = cond (ltb (length xs) (length ys)) ys xs

abbrev pub list_in : Note → List Entry
list_in (OfBook history) = history
list_in (OfCaller t) = t.seen

-- the longest of these beginnings of the history
abbrev pub longest : List Entry → List Note → List Entry
longest seen [] = seen
longest seen (n ∷ ns) = longer (longest seen ns) (list_in n)

abbrev pub seen_in : Phase → List Entry → List Note → List Entry
seen_in Idle seen notes = seen
seen_in Begun seen notes = seen
seen_in Entered seen notes = longest seen notes

-- the notes are dropped, and an entered caller sees what stands in them
abbrev pub met : Hand → Hand
met h = hand h.trace.number h.phase (seen_in h.phase h.trace.seen h.notes) h.trace.mine []

abbrev pub noticed : Ledger → Ledger
noticed b = ledger b.history b.made [] b.left

abbrev pub OfTheBook : (List Entry → Type 0) → List Note → Type 0
OfTheBook P [] = Unit {0}
OfTheBook P (OfBook history ∷ ns) = P history × OfTheBook P ns
OfTheBook P (OfCaller t ∷ ns) = OfTheBook P ns

abbrev pub OfCallers : (Trace → Type 0) → List Note → Type 0
OfCallers P [] = Unit {0}
OfCallers P (OfBook history ∷ ns) = OfCallers P ns
OfCallers P (OfCaller t ∷ ns) = P t × OfCallers P ns

-- what a caller learns as it drops its notes
abbrev pub Learns : Hand → Type 0
Learns h = Lags h.phase (calls_by h.trace.number h.trace.seen) h.trace.mine
    × IsPrefix h.trace.seen (longest h.trace.seen h.notes)
    × OfTheBook (λ history. IsPrefix (calls_by h.trace.number history) h.trace.mine × IsPrefix history (longest h.trace.seen h.notes)) h.notes

abbrev pub meets : Step Offer → Seated → ℕ → Seated → Type 0
meets st me found w = (w ≡ (Calls (met (hand_of me.0)), me.1)) × Learns (hand_of me.0)

abbrev pub notices : Step Offer → Seated → ℕ → Seated → Type 0
notices st me found w = (w ≡ (Keeps (noticed (ledger_of me.0)), me.1)) × OfCallers (λ t. IsPrefix t.seen (ledger_of me.0).history) (ledger_of me.0).notes

-- the last call in the first note of a caller
abbrev pub last_of : List Entry → List Entry
last_of [] = []
last_of (x ∷ []) = x ∷ []
last_of (x ∷ y ∷ ys) = last_of (y ∷ ys)

abbrev pub newest : List Note → List Entry
newest [] = []
newest (OfBook history ∷ ns) = []
newest (OfCaller t ∷ ns) = last_of t.mine

abbrev pub recorded : Ledger → Ledger
recorded b = ledger (b.history ++ newest b.notes) b.made b.notes b.left

abbrev pub records : Step Offer → Seated → ℕ → Seated → Type 0
records st me found w = w ≡ (Keeps (recorded (ledger_of me.0)), me.1)

-- an exchange of notes with a book of this history: the caller before it, and what it shows
abbrev pub traded : Hand → List Entry → Hand
traded h history = met (hand h.trace.number h.phase h.trace.seen h.trace.mine (OfBook history ∷ []))

abbrev pub Trades : Hand → List Entry → Type 0
Trades h history = IsPrefix h.trace.seen history × Lags h.phase (calls_by h.trace.number h.trace.seen) h.trace.mine
    × IsPrefix (calls_by h.trace.number history) h.trace.mine

-- the book makes one more caller
abbrev pub next_book : View → View
next_book (Keeps b) = Keeps (ledger b.history (b.made + 1) b.notes b.left)
next_book (Calls h) = Calls h
next_book (Tells n) = Tells n
next_book Spent = Spent

abbrev pub next_caller : View → View
next_caller (Keeps b) = Calls (hand b.made Idle [] [] [])
next_caller (Calls h) = Spent
next_caller (Tells n) = Spent
next_caller Spent = Spent

-- a caller leaves: the book keeps its lists
abbrev pub with_left : View → Trace → View
with_left (Keeps b) t = Keeps (ledger b.history b.made b.notes (t ∷ b.left))
with_left (Calls h) t = Calls h
with_left (Tells n) t = Tells n
with_left Spent t = Spent

abbrev pub leaves : View → View → View
leaves v (Keeps b) = v
leaves v (Calls h) = with_left v h.trace
leaves v (Tells n) = v
leaves v Spent = v
