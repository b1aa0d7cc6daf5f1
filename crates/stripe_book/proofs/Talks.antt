-- The steps as the calls of the table ask for them, and what an exchange of notes shows.
use Rattle.std.proofs.Common.{◌≡◌, ℕ, ◌+◌, eqb, List, [], ◌∷◌, ◌++◌, sym, subst}
use mathlib.Core.List.{IsPrefix}
use mathlib.Core.Option.{some, none}
use prog.Atomic.{either}
use Rattle.atomic_table.specs.Table.{step, Allows, Joins}
use Rattle.histories.specs.declared.entry.Entry.{Entry}
use Rattle.stripe_book.specs.declared.offer.Offer.{Offer}
use Rattle.stripe_book.specs.declared.view.Phase.{Phase}
use Rattle.stripe_book.specs.declared.view.Phase.TheVariants.{Idle, Begun}
use Rattle.stripe_book.specs.declared.view.Trace.{Trace}
use Rattle.stripe_book.specs.declared.view.Note.{Note}
use Rattle.stripe_book.specs.declared.view.Note.TheVariants.{OfCaller}
use Rattle.stripe_book.specs.declared.view.Ledger.{Ledger}
use Rattle.stripe_book.specs.declared.view.Hand.{Hand}
use Rattle.stripe_book.specs.declared.view.View.{View}
use Rattle.stripe_book.specs.declared.view.View.TheVariants.{Keeps, Calls, Tells, Spent}
use Rattle.histories.specs.SetObject.{keys_after, reply_to}
use Rattle.histories.specs.History.{calls_by}
use Rattle.stripe_book.specs.Rule.{Lags, Holds}
use Rattle.stripe_book.specs.Steps.{Seated, told, meets, notices, records, signs, Trades}
use Rattle.histories.proofs.Beginnings.{prefix_both, calls_prefix}
use Rattle.stripe_book.proofs.Alone.{signs_well}
use Rattle.stripe_book.proofs.Notes.{joins_note, meets_well}
use Rattle.stripe_book.proofs.Recording.{notices_well, records_well}

pub joins_at : (callers id other : ℕ) (v w : View) (n : Note) → w ≡ Tells n → Joins (Holds callers) id v other w (told v w) Spent
joins_at callers id other v w n e = subst (λ u. Joins (Holds callers) id v other u (told v u) Spent) (sym e) (joins_note callers id other v n)

module _ (callers slots id : ℕ) (me : Seated) where
  pub meets_at : (h : Hand) → me.0 ≡ Calls h → Allows (Holds callers) slots id me 0 (λ n. n) (meets (step slots 0 0 0 none) me)
  meets_at h e = subst (λ v. Allows (Holds callers) slots id (v, me.1) 0 (λ n. n) (meets (step slots 0 0 0 none) (v, me.1))) (sym e)
      (meets_well callers slots id h me.1)

  pub notices_at : (b : Ledger) → me.0 ≡ Keeps b → Allows (Holds callers) slots id me 0 (λ n. n) (notices (step slots 0 0 0 none) me)
  notices_at b e = subst (λ v. Allows (Holds callers) slots id (v, me.1) 0 (λ n. n) (notices (step slots 0 0 0 none) (v, me.1))) (sym e)
      (notices_well callers slots id b me.1)

  pub signs_at : (h : Hand) (number : ℕ) (o : Offer) → me.0 ≡ Calls h → h.trace.number ≡ number → h.phase ≡ Begun
      → Allows (Holds callers) slots id me (number + 1) (λ n. either (eqb n 1) 2 n) (signs (step slots (number + 1) 1 2 (some o)) me)
  signs_at h number o e named begun = subst
      (λ v. Allows (Holds callers) slots id (v, me.1) (number + 1) (λ n. either (eqb n 1) 2 n)
      (signs (step slots (number + 1) 1 2 (some o)) (v, me.1))) (sym e)
      (subst (λ m. Allows (Holds callers) slots id (Calls h, me.1) (m + 1) (λ n. either (eqb n 1) 2 n)
      (signs (step slots (m + 1) 1 2 (some o)) (Calls h, me.1))) named (signs_well callers slots id h me.1 o begun))

  pub records_at : (word : ℕ) (b : Ledger) (t : Trace) (m : List Entry) (e : Entry) → me.0 ≡ Keeps b → b.notes ≡ OfCaller t ∷ []
      → t.mine ≡ m ++ e ∷ [] → calls_by t.number b.history ≡ m
      → e.reply ≡ reply_to (keys_after b.history) e.key → Allows (Holds callers) slots id me word (λ n. n) (records (step slots word 0 0 none) me)
  records_at word b t m e is notes last before reply = subst
      (λ v. Allows (Holds callers) slots id (v, me.1) word (λ n. n) (records (step slots word 0 0 none) (v, me.1))) (sym is)
      (records_well callers slots id word b me.1 t m e notes last before reply)

-- what the exchange shows of a caller that misses no call
pub all_in : (p : Phase) (c : ℕ) (seen mine history : List Entry) → calls_by c seen ≡ mine → IsPrefix seen history
    → IsPrefix (calls_by c history) mine → calls_by c history ≡ mine
all_in p c seen mine history e pre hi = prefix_both (calls_by c history) mine hi
    (subst (λ l. IsPrefix l (calls_by c history)) e (calls_prefix c seen history pre))

pub idle_trade : (h : Hand) (history : List Entry) → h.phase ≡ Idle → Trades h history → calls_by h.trace.number history ≡ h.trace.mine
idle_trade h history e t = all_in h.phase h.trace.number h.trace.seen h.trace.mine history
    (subst (λ p. Lags p (calls_by h.trace.number h.trace.seen) h.trace.mine) e t.1) t.0 t.2

pub begun_trade : (h : Hand) (history : List Entry) → h.phase ≡ Begun → Trades h history → calls_by h.trace.number history ≡ h.trace.mine
begun_trade h history e t = all_in h.phase h.trace.number h.trace.seen h.trace.mine history
    (subst (λ p. Lags p (calls_by h.trace.number h.trace.seen) h.trace.mine) e t.1) t.0 t.2
