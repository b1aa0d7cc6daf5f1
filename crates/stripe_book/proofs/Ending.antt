-- What the last state of a table says, and the calls for a caller's making and leaving.
use Rattle.std.proofs.Common.{◌≡◌, ℕ, zero, suc, ◌+◌, length, take, replicate, slice_index, ◌≤◌, ◌<◌, List, [], ◌∷◌, ◌++◌, refl, ap, sym, ◌∙◌, subst, arith}
use mathlib.Core.Option.{some, some-injective, some-ne-none}
use lib.ListN.{get_elem?}
use Rattle.atomic_table.specs.Table.{Splits, Joins}
use Rattle.histories.specs.declared.entry.Entry.{Entry}
use Rattle.stripe_book.specs.declared.view.Phase.TheVariants.{Idle}
use Rattle.stripe_book.specs.declared.view.Trace.{Trace}
use Rattle.stripe_book.specs.declared.view.Ledger.{Ledger}
use Rattle.stripe_book.specs.declared.view.Hand.{Hand}
use Rattle.stripe_book.specs.declared.view.View.{View}
use Rattle.stripe_book.specs.declared.view.View.TheVariants.{Keeps, Calls, Spent}
use Rattle.histories.specs.History.{calls_by, IsNumbered, IsLegal, RepliesFrom}
use Rattle.stripe_book.specs.Rule.{unmade, seated, Account, Lags, LeftFit, IsKept, Holds, Fits, opened, ledger}
use Rattle.stripe_book.specs.Seen.{OwnCalls, OfCallersBelow, SawBeginnings}
use Rattle.stripe_book.specs.Steps.{next_book, next_caller, leaves}
use Rattle.stripe_book.proofs.Kept.{not_gone, not_unmade}
use Rattle.stripe_book.proofs.Notes.{calls_begin}
use Rattle.stripe_book.proofs.Callers.{makes, leaves_well}

pub makes_at : (callers id : ℕ) (v : View) (b : Ledger) → v ≡ Keeps b → b.made < callers → Splits (Holds callers) id v (next_book v) (next_caller v)
makes_at callers id v b e more = subst (λ u. Splits (Holds callers) id u (next_book u) (next_caller u)) (sym e) (makes callers id b more)

pub leaves_at : (callers id other : ℕ) (v w : View) (b : Ledger) (h : Hand) → v ≡ Keeps b → w ≡ Calls h → h.phase ≡ Idle
    → Joins (Holds callers) id v other w (leaves v w) Spent
leaves_at callers id other v w b h e f idle = subst (λ u. Joins (Holds callers) id u other w (leaves u w) Spent) (sym e)
    (subst (λ u. Joins (Holds callers) id (Keeps b) other u (leaves (Keeps b) u) Spent) (sym f) (leaves_well callers id other b h idle))

numbered_front : (c n : ℕ) (xs ys : List Entry) → IsNumbered c n (xs ++ ys) → IsNumbered c n xs
numbered_front c n [] ys is = tt
numbered_front c n (x ∷ xs) ys is = (is.0, is.1, numbered_front c (suc n) xs ys is.2)

module _ (callers : ℕ) (words : List ℕ) (views : List View) (a : Account) (k : IsKept callers words views a) (id : ℕ) (b : Ledger)
    (at : get_elem? views id ≡ some (Keeps b)) where
  pub ends_legal : IsLegal b.history
  ends_legal = let own = k.fits id (Keeps b) at in record {
    replies = subst (RepliesFrom []) (sym own.history) k.replies;
    numbers = λ c. let p = calls_begin (a.phase c) (calls_by c a.history) (a.mine c) (k.known c) in
        subst (λ l. IsNumbered c 0 (calls_by c l)) (sym own.history)
        (numbered_front c 0 (calls_by c a.history) p.0 (subst (IsNumbered c 0) (sym p.1) (k.numbers c)));
  }

  still : (c : ℕ) → ((seat : ℕ) → a.place c ≡ seated seat → ⊥) → calls_by c a.history ≡ a.mine c
  still c none = subst (λ p. Lags p (calls_by c a.history) (a.mine c)) (k.idle c none) (k.known c)

  ends_left : (ts : List Trace) → LeftFit a ts → OwnCalls a.history ts
  ends_left [] f = tt
  ends_left (t ∷ ts) f = (still t.number (λ seat e. not_gone (a.place t.number) seat e f.0.0) ∙ sym f.0.1, ends_left ts f.1)

  pub ends_calls : OwnCalls b.history b.left
  ends_calls = let own = k.fits id (Keeps b) at in subst (λ l. OwnCalls l b.left) (sym own.history) (ends_left b.left own.left)

  saw_left : (ts : List Trace) → LeftFit a ts → SawBeginnings a.history ts
  saw_left [] f = tt
  saw_left (t ∷ ts) f = (f.0.2, saw_left ts f.1)

  pub ends_seen : SawBeginnings b.history b.left
  ends_seen = let own = k.fits id (Keeps b) at in subst (λ l. SawBeginnings l b.left) (sym own.history) (saw_left b.left own.left)

  pub ends_below : OfCallersBelow callers b.history
  ends_below c le = let own = k.fits id (Keeps b) at in let r = k.unmade c (let m = k.room in omega arith) in
      subst (λ l. calls_by c l ≡ []) (sym own.history) (still c (λ seat e. not_unmade (a.place c) seat e r.0) ∙ r.1)

pub zeros : (n m i : ℕ) → slice_index (take n (replicate m 0)) i ≡ 0
zeros zero m i = refl
zeros (suc n) zero i = refl
zeros (suc n) (suc m) zero = refl
zeros (suc n) (suc m) (suc i) = zeros n m i

pub zeros_length : (n m : ℕ) → n ≤ m → length {A = ℕ} (take n (replicate m 0)) ≡ n
zeros_length zero m le = refl
zeros_length (suc n) zero le = absurd (omega arith)
zeros_length (suc n) (suc m) le = ap suc (zeros_length n m (omega arith))

abbrev start : Account
start = record { book = 0; history = []; made = 0; place = λ _. unmade; mine = λ _. []; phase = λ _. Idle }

opening_fits : (seat : ℕ) (v : View) → get_elem? (opened ∷ []) seat ≡ some v → Fits start seat v
opening_fits zero v e = subst (Fits start 0) (some-injective opened v e) record { here = refl; history = refl; made = refl; notes = tt; left = tt }
opening_fits (suc n) v e = absurd (some-ne-none v (sym e))

-- the rule at the start
pub opens : (callers : ℕ) (words : List ℕ) → length words ≡ callers + 1 → ((i : ℕ) → slice_index words i ≡ 0)
    → Holds callers record { words = words; homes = []; views = opened ∷ [] }
opens callers words width zero_words = (
  start,
  record {
    keeper = (ledger [] 0 [] [], refl);
    replies = tt;
    made = λ c lt. absurd (omega arith);
    sits = λ c seat e. absurd (cc e);
    left = λ c b at e. absurd (cc e);
    room = omega arith;
    unmade = λ c le. (refl, refl);
    width = width;
    word = λ c lt. zero_words (c + 1);
    idle = λ c none. refl;
    numbers = λ c. tt;
    known = λ c. refl;
    fits = opening_fits;
  },
)
