-- Notes: a split, a join, and the load at which a caller learns from them.
use Rattle.std.proofs.Common.{◌≡◌, ◌⊎◌, ℕ, ◌+◌, ◌≤◌, ◌<◌, Bool, true, false, List, [], ◌∷◌, ◌++◌, length, cond, ltb, refl, ap, sym, ◌∙◌, subst, inl, inr, ⊎_elim, arith, set, length-append, ltb-true, ltb-false}
use mathlib.Core.List.{IsPrefix}
use mathlib.Core.Option.{none}
use native.Mathlib.Decide.{dec_le}
use lib.Seq.{set-get_or}
use Rattle.atomic_table.specs.Table.{step, keeps, Allows, Splits, Joins}
use Rattle.atomic_table.proofs.Lists.{set_again}
use Rattle.histories.specs.declared.entry.Entry.{Entry}
use Rattle.stripe_book.specs.declared.offer.Offer.{Offer}
use Rattle.stripe_book.specs.declared.view.Phase.{Phase}
use Rattle.stripe_book.specs.declared.view.Phase.TheVariants.{Idle, Begun, Entered}
use Rattle.stripe_book.specs.declared.view.Note.{Note}
use Rattle.stripe_book.specs.declared.view.Note.TheVariants.{OfBook, OfCaller}
use Rattle.stripe_book.specs.declared.view.Hand.{Hand}
use Rattle.stripe_book.specs.declared.view.View.{View}
use Rattle.stripe_book.specs.declared.view.View.TheVariants.{Calls, Tells, Spent}
use Rattle.histories.specs.History.{calls_by}
use Rattle.stripe_book.specs.Rule.{word_of, Account, Lags, NoteFits, NotesFit, IsKept, Holds}
use Rattle.stripe_book.specs.Steps.{note_of, told, list_in, longest, seen_in, met, OfTheBook, meets}
use Rattle.histories.proofs.Beginnings.{prefix_self, prefix_trans, prefix_shorter, prefix_length, prefix_whole, calls_prefix}
use Rattle.stripe_book.proofs.Kept.{called, caller_moves, loose_more, says, joins}
use Rattle.stripe_book.proofs.Alone.{own_hand, own_known, own_numbers, below}

-- a seat gives a note of itself
pub splits : (callers id : ℕ) (v : View) → Splits (Holds callers) id v v (Tells (note_of v))
splits callers id v s hs at = (
  hs.0,
  subst (λ vs. IsKept callers s.words (vs ++ Tells (note_of v) ∷ []) hs.0) (sym (set_again s.views id v at))
      (loose_more callers s.words s.views hs.0 hs.1 (Tells (note_of v)) (says callers s.words s.views hs.0 hs.1 id v at)),
)

-- a seat takes a note in
pub joins_note : (callers id other : ℕ) (v : View) (n : Note) → Joins (Holds callers) id v other (Tells n) (told v (Tells n)) Spent
joins_note callers id other v n s hs at apart there = (hs.0, joins callers s.words s.views hs.0 hs.1 id other v n at apart there)

prefix_longer : (xs ys zs : List Entry) → IsPrefix xs zs → IsPrefix ys zs → (b : Bool) → ltb (length xs) (length ys) ≡ b
    → IsPrefix (cond b ys xs) zs × IsPrefix xs (cond b ys xs) × IsPrefix ys (cond b ys xs)
prefix_longer xs ys zs p q true e = let lt : length xs < length ys = ltb-true _ _ e in (q, prefix_shorter xs ys zs p q (omega arith), prefix_self ys)
prefix_longer xs ys zs p q false e = (p, prefix_self xs, prefix_shorter ys xs zs q p (ltb-false _ _ e))

list_fits : (a : Account) (n : Note) → NoteFits a n → IsPrefix (list_in n) a.history
list_fits a (OfBook history) f = f
list_fits a (OfCaller t) f = f.0

-- the longest is a beginning of the history, and begins with what was seen
longest_fits : (a : Account) (seen : List Entry) (ns : List Note) → IsPrefix seen a.history → NotesFit a ns
    → IsPrefix (longest seen ns) a.history × IsPrefix seen (longest seen ns)
longest_fits a seen [] p f = (p, prefix_self seen)
longest_fits a seen (n ∷ ns) p f = let r = longest_fits a seen ns p f.1 in
    let l = prefix_longer (longest seen ns) (list_in n) a.history r.0 (list_fits a n f.0) _ refl in
    (l.0, prefix_trans seen (longest seen ns) (longest seen (n ∷ ns)) r.1 l.1)

-- what a caller may say of its calls: they begin with those of each beginning of the history
pub calls_begin : (p : Phase) (xs mine : List Entry) → Lags p xs mine → IsPrefix xs mine
calls_begin Idle xs mine e = subst (IsPrefix xs) e (prefix_self xs)
calls_begin Begun xs mine e = subst (IsPrefix xs) e (prefix_self xs)
calls_begin Entered xs mine l = ⊎_elim (λ e. subst (IsPrefix xs) e (prefix_self xs)) (λ t. (t.0 ∷ [], t.1)) l

of_longest : (a : Account) (c : ℕ) (mine seen : List Entry) (top : List Entry) (ns : List Note) → IsPrefix seen a.history
    → IsPrefix (calls_by c a.history) mine → NotesFit a ns → IsPrefix (longest seen ns) top
    → OfTheBook (λ history. IsPrefix (calls_by c history) mine × IsPrefix history top) ns
of_longest a c mine seen top [] p m f t = tt
of_longest a c mine seen top (OfBook h ∷ ns) p m f t = let r = longest_fits a seen ns p f.1 in
    let l = prefix_longer (longest seen ns) h a.history r.0 f.0 _ refl in (
      (prefix_trans (calls_by c h) (calls_by c a.history) mine (calls_prefix c h a.history f.0) m, prefix_trans h (longest seen (OfBook h ∷ ns)) top l.2 t),
      of_longest a c mine seen top ns p m f.1 (prefix_trans (longest seen ns) (longest seen (OfBook h ∷ ns)) top l.1 t),
    )
of_longest a c mine seen top (OfCaller u ∷ ns) p m f t = let r = longest_fits a seen ns p f.1 in
    let l = prefix_longer (longest seen ns) u.seen a.history r.0 f.0.0 _ refl in
    of_longest a c mine seen top ns p m f.1 (prefix_trans (longest seen ns) (longest seen (OfCaller u ∷ ns)) top l.1 t)

-- between a list and the list with one more there is nothing else
tail_at : (xs ys mine : List Entry) (e : Entry) → xs ++ e ∷ [] ≡ mine → IsPrefix xs ys → IsPrefix ys mine → Dec (length mine ≤ length ys)
    → (ys ≡ mine) ⊎ ((u : Entry) × (ys ++ u ∷ [] ≡ mine))
tail_at xs ys mine e is lo hi (yes le) = inl (prefix_whole ys mine hi le)
tail_at xs ys mine e is lo hi (no nle) =
    let n : length xs + 1 ≡ length mine = sym (length-append xs (e ∷ [])) ∙ ap length is in
    let same : xs ≡ ys = prefix_whole xs ys lo (omega arith) in inr (e, ap (λ w. w ++ e ∷ []) (sym same) ∙ is)

one_more : (xs ys mine : List Entry) (e : Entry) → xs ++ e ∷ [] ≡ mine → IsPrefix xs ys → IsPrefix ys mine → (ys ≡ mine) ⊎ ((u : Entry) × (ys ++ u ∷ [] ≡ mine))
one_more xs ys mine e is lo hi = tail_at xs ys mine e is lo hi (dec_le (length mine) (length ys))

-- a seen that grows within the history may still miss only the last call
lags_within : (p : Phase) (c : ℕ) (xs ys zs mine : List Entry) → Lags p (calls_by c xs) mine → Lags p (calls_by c zs) mine → IsPrefix xs ys
    → IsPrefix ys zs → Lags p (calls_by c ys) mine
lags_within Idle c xs ys zs mine l m p q = prefix_whole (calls_by c ys) mine (subst (IsPrefix (calls_by c ys)) m (calls_prefix c ys zs q))
    (prefix_length mine (calls_by c ys) (subst (λ w. IsPrefix w (calls_by c ys)) l (calls_prefix c xs ys p)))
lags_within Begun c xs ys zs mine l m p q = prefix_whole (calls_by c ys) mine (subst (IsPrefix (calls_by c ys)) m (calls_prefix c ys zs q))
    (prefix_length mine (calls_by c ys) (subst (λ w. IsPrefix w (calls_by c ys)) l (calls_prefix c xs ys p)))
lags_within Entered c xs ys zs mine l m p q =
    let lo = calls_prefix c xs ys p in let hi = prefix_trans (calls_by c ys) (calls_by c zs) mine (calls_prefix c ys zs q)
    (calls_begin Entered (calls_by c zs) mine m) in
    ⊎_elim
    (λ e. inl (prefix_whole (calls_by c ys) mine hi (prefix_length mine (calls_by c ys) (subst (λ w. IsPrefix w (calls_by c ys)) e lo))))
    (λ t. one_more (calls_by c xs) (calls_by c ys) mine t.0 t.1 lo hi) l

seen_keeps : (p : Phase) (c : ℕ) (a : Account) (seen mine : List Entry) (ns : List Note) → Lags p (calls_by c seen) mine
    → Lags p (calls_by c a.history) mine → IsPrefix seen a.history → NotesFit a ns
    → IsPrefix (seen_in p seen ns) a.history × Lags p (calls_by c (seen_in p seen ns)) mine
seen_keeps Idle c a seen mine ns l m p f = (p, l)
seen_keeps Begun c a seen mine ns l m p f = (p, l)
seen_keeps Entered c a seen mine ns l m p f = let r = longest_fits a seen ns p f in
    (r.0, lags_within Entered c seen (longest seen ns) a.history mine l m r.1 r.0)

pub meets_well : (callers slots id : ℕ) (h : Hand) (c : List (ℕ × Offer))
    → Allows (Holds callers) slots id (Calls h, c) 0 (λ n. n) (meets (step slots 0 0 0 none) (Calls h, c))
meets_well callers slots id h c s hs homes at small = let k = hs.1 in let a = hs.0 in
    let own = own_hand callers s.words s.views a k id h at in
    let all = own_known callers s.words s.views a k id h at in
    let seen = seen_keeps h.phase h.trace.number a h.trace.seen h.trace.mine h.notes own.known all own.seen own.notes in
    let top = longest_fits a h.trace.seen h.notes own.seen own.notes in (
      Calls (met h),
      keeps,
      tt,
      subst (λ ws. Holds callers record { words = ws; homes = s.homes; views = set s.views id (Calls (met h)) }) (sym (set-get_or s.words 0 0)) (
        called a h.trace.number h.phase h.trace.mine,
        caller_moves callers s.words s.words s.views a k id h (met h) at record {
          same = refl;
          grows = prefix_self h.trace.mine;
          numbers = own_numbers callers s.words s.views a k id h at;
          lags = all;
          seen = seen.0;
          known = seen.1;
          notes = tt;
          width = refl;
          word = k.word h.trace.number (below callers s.words s.views a k id h at) ∙ ap word_of (sym own.phase);
          others = λ c2 lt ne. refl;
        },
      ),
      (
        refl,
        (
          own.known,
          top.1,
          of_longest a h.trace.number h.trace.mine h.trace.seen (longest h.trace.seen h.notes) h.notes own.seen
              (calls_begin h.phase (calls_by h.trace.number a.history) h.trace.mine all) own.notes (prefix_self (longest h.trace.seen h.notes)),
        ),
      ),
    )
