-- The book makes a caller, and takes one back.
use Rattle.std.proofs.Common.{◌≡◌, ◌≢◌, ◌⊎◌, ℕ, zero, suc, ◌+◌, ◌<◌, List, [], ◌∷◌, ◌++◌, length, refl, ap, sym, ◌∙◌, subst, inl, inr, ⊎_elim, arith, set, length-set}
use mathlib.Core.Logic.{dite}
use mathlib.Core.Option.{some, some-injective, some-ne-none}
use native.Mathlib.Decide.{ℕ_discrete}
use lib.ListN.{get_elem?}
use Rattle.atomic_table.specs.Table.{Splits, Joins}
use Rattle.atomic_table.proofs.Lists.{at_set, set_else, at_longer, at_last}
use Rattle.stripe_book.specs.declared.view.Phase.TheVariants.{Idle}
use Rattle.stripe_book.specs.declared.view.Trace.{Trace}
use Rattle.stripe_book.specs.declared.view.Ledger.{Ledger}
use Rattle.stripe_book.specs.declared.view.Hand.{Hand}
use Rattle.stripe_book.specs.declared.view.View.{View}
use Rattle.stripe_book.specs.declared.view.View.TheVariants.{Keeps, Calls, Tells, Spent}
use Rattle.histories.specs.History.{calls_by}
use Rattle.stripe_book.specs.Rule.{Place, unmade, seated, gone, Account, Lags, BookFits, Fits, SitsAt, HasLeft, Holds, hand, ledger}
use Rattle.stripe_book.specs.Steps.{next_book, next_caller, leaves}
use Rattle.histories.proofs.Beginnings.{prefix_self}
use Rattle.stripe_book.proofs.Kept.{with_at, at_same, at_other, one_seat, not_gone, not_unmade, gone_made, one_hand, one_book, not_both, Later, note_later, notes_later, left_later, set_at}

abbrev placed : Account → ℕ → Place → ℕ → Account
placed a c p made = record { book = a.book; history = a.history; made = made; place = with_at a.place c p; mine = a.mine; phase = a.phase }

same_later : (a : Account) (c : ℕ) (p : Place) (made : ℕ) → Later a (placed a c p made)
same_later a c p made = record { history = prefix_self a.history; mine = λ k. prefix_self (a.mine k) }

-- a new view at the end: where it stands
at_end : (l : List View) (w u : View) (seat : ℕ) → get_elem? (l ++ w ∷ []) seat ≡ some u → (get_elem? l seat ≡ some u) ⊎ ((w ≡ u) × (seat ≡ length l))
at_end [] w u zero e = inr (some-injective w u e, refl)
at_end [] w u (suc j) e = absurd (some-ne-none u (sym e))
at_end (x ∷ xs) w u zero e = inl e
at_end (x ∷ xs) w u (suc j) e = ⊎_elim (λ o. inl o) (λ t. inr (t.0, ap suc t.1)) (at_end xs w u j e)

more_left : (c : ℕ) (t : Trace) (ts : List Trace) → HasLeft c ts → HasLeft c (t ∷ ts)
more_left c t ts (u, (at, lt, there), named) = (u, (suc at, omega arith, there), named)

-- a view of another number, or of none, fits where one number gets another place
moved_fits : (a : Account) (c : ℕ) (p : Place) (made : ℕ) (seat : ℕ) (u : View) → ((b : Ledger) → BookFits a seat b → ⊥)
    → ((n : ℕ) → a.place n ≡ seated seat → n ≢ c) → Fits a seat u → Fits (placed a c p made) seat u
moved_fits a c p made seat (Keeps b) never far f = absurd (never b f)
moved_fits a c p made seat (Calls h) never far f = record {
  here = at_other a.place c p h.trace.number (far h.trace.number f.here) ∙ f.here;
  phase = f.phase;
  mine = f.mine;
  seen = f.seen;
  known = f.known;
  notes = notes_later a (placed a c p made) (same_later a c p made) h.notes f.notes;
}
moved_fits a c p made seat (Tells n) never far f = note_later a (placed a c p made) (same_later a c p made) n f
moved_fits a c p made seat Spent never far f = tt

pub makes : (callers id : ℕ) (b : Ledger) → b.made < callers → Splits (Holds callers) id (Keeps b) (next_book (Keeps b)) (next_caller (Keeps b))
makes callers id b more s hs at =
    let a = hs.0 in let k = hs.1 in let own = k.fits id (Keeps b) at in
    let n : ℕ = length s.views in
    let b' : Ledger = ledger b.history (b.made + 1) b.notes b.left in
    let a' : Account = placed a b.made (seated (length s.views)) (b.made + 1) in
    let free = k.unmade b.made (let e = own.made in omega arith) in
    let idle : a.phase b.made ≡ Idle = k.idle b.made (λ seat e. not_unmade (a.place b.made) seat e free.0) in
    let later = same_later a b.made (seated (length s.views)) (b.made + 1) in
    let case : (P : ℕ → Type 0) → P b.made → ((c : ℕ) → c ≢ b.made → P c) → (c : ℕ)
    → P c = λ P here other c. dite (ℕ_discrete c b.made) (λ e. subst P (sym e) here) (λ ne. other c ne) in
    let apart : (seat c : ℕ) → a.place c ≡ seated seat → c ≢ b.made = λ seat c e same. not_unmade (a.place c) seat e (ap a.place same ∙ free.0) in
    let fresh : Hand = hand b.made Idle [] [] [] in
    let views' : List View = set s.views id (Keeps b') ++ Calls fresh ∷ [] in
    let new_at : get_elem? views' a.book ≡ some (Keeps b') =
    at_longer (set s.views id (Keeps b')) (Calls fresh ∷ []) a.book (Keeps b') (ap (get_elem? (set s.views id (Keeps b'))) (sym own.here)
    ∙ set_at s.views id (Keeps b) (Keeps b') at) in
    let fresh_at : get_elem? views' (length s.views) ≡ some (Calls fresh) = at_last (set s.views id (Keeps b')) (Calls fresh) (length s.views)
    (length-set s.views id (Keeps b')) in (
      a',
      record {
        keeper = (b', new_at);
        replies = k.replies;
        made = case (λ c. c < b.made + 1 → with_at a.place b.made (seated (length s.views)) c ≢ unmade)
            (λ lt e. not_unmade (with_at a.place b.made (seated (length s.views)) b.made) (length s.views) (at_same a.place b.made (seated (length s.views))) e)
            (λ c ne lt e. k.made c (let m = own.made in omega arith) (sym (at_other a.place b.made (seated (length s.views)) c ne) ∙ e));
        sits = case (λ c. (seat : ℕ) → with_at a.place b.made (seated (length s.views)) c ≡ seated seat → SitsAt views' c seat)
            (λ seat e. (
              fresh,
              ap (get_elem? views') (sym
                  (one_seat (length s.views) seat (sym (at_same a.place b.made (seated (length s.views))) ∙ e))) ∙ fresh_at,
              refl,
            ))
            (λ c ne seat e. let t = k.sits c seat (sym (at_other a.place b.made (seated (length s.views)) c ne) ∙ e) in (
              t.0,
              at_longer (set s.views id (Keeps b')) (Calls fresh ∷ []) seat (Calls t.0)
                  (set_else s.views id seat (Keeps b') (λ same. not_both s.views id t.0 b (ap (get_elem? s.views) (sym same) ∙ t.1) at) ∙ t.1),
              t.2,
            ));
        left = case (λ c. (b2 : Ledger) → get_elem? views' a.book ≡ some (Keeps b2) → with_at a.place b.made (seated (length s.views)) c ≡ gone
            → HasLeft c b2.left)
            (λ b2 at2 e. absurd (not_gone (with_at a.place b.made (seated (length s.views)) b.made) (length s.views)
            (at_same a.place b.made (seated (length s.views))) e))
            (λ c ne b2 at2 e. subst (λ (x : Ledger). HasLeft c x.left) (one_book views' a.book b' b2 new_at at2)
            (k.left c b (ap (get_elem? s.views) (sym own.here) ∙ at) (sym (at_other a.place b.made (seated (length s.views)) c ne) ∙ e)));
        room = let e = own.made in omega arith;
        unmade = λ c le. let r = k.unmade c (let e = own.made in omega arith) in
            (at_other a.place b.made (seated (length s.views)) c (λ e. omega arith) ∙ r.0, r.1);
        width = k.width;
        word = k.word;
        idle = case (λ c. ((seat : ℕ) → with_at a.place b.made (seated (length s.views)) c ≢ seated seat) → a.phase c ≡ Idle) (λ none. idle)
            (λ c ne none. k.idle c (λ seat e. none seat (at_other a.place b.made (seated (length s.views)) c ne ∙ e)));
        numbers = k.numbers;
        known = k.known;
        fits = λ seat u e. ⊎_elim
            (λ old. ⊎_elim
            (λ t. subst (λ x. Fits a' x u) (sym t.0) (subst (Fits a' id) t.1 record {
              here = own.here;
              history = own.history;
              made = refl;
              notes = notes_later a a' later b.notes own.notes;
              left = left_later a a' later b.left (λ c g. (
                at_other a.place b.made (seated (length s.views)) c (λ same. gone_made (a.place c) g (ap a.place same ∙ free.0)) ∙ g,
                refl,
              )) own.left;
            }))
            (λ t. moved_fits a b.made (seated (length s.views)) (b.made + 1) seat u (λ b2 bf. t.0 (bf.here ∙ sym own.here)) (apart seat) (k.fits seat u t.1))
            (at_set s.views id seat (Keeps b') u old))
            (λ new. subst (Fits a' seat) new.0 record {
              here = at_same a.place b.made (seated (length s.views)) ∙ ap seated (sym (new.1 ∙ length-set s.views id (Keeps b')));
              phase = sym idle;
              mine = sym free.1;
              seen = (a.history, refl);
              known = refl;
              notes = tt;
            })
            (at_end (set s.views id (Keeps b')) (Calls (hand b.made Idle [] [] [])) u seat e);
      },
    )

pub leaves_well : (callers id other : ℕ) (b : Ledger) (h : Hand) → h.phase ≡ Idle
    → Joins (Holds callers) id (Keeps b) other (Calls h) (leaves (Keeps b) (Calls h)) Spent
leaves_well callers id other b h idle s hs at apart there =
    let a = hs.0 in let k = hs.1 in let own = k.fits id (Keeps b) at in
    let b' : Ledger = ledger b.history b.made b.notes (h.trace ∷ b.left) in
    let was : get_elem? s.views other ≡ some (Calls h) = sym (set_else s.views id other (Keeps b') apart) ∙ there in
    let hf = k.fits other (Calls h) was in
    let a' : Account = placed a h.trace.number gone a.made in
    let later = same_later a h.trace.number gone a.made in
    let case : (P : ℕ → Type 0) → P h.trace.number → ((c : ℕ) → c ≢ h.trace.number → P c) → (c : ℕ)
    → P c = λ P here other2 c. dite (ℕ_discrete c h.trace.number) (λ e. subst P (sym e) here) (λ ne. other2 c ne) in
    let views' : List View = set (set s.views id (Keeps b')) other Spent in
    let new_at : get_elem? views' a.book ≡ some (Keeps b') =
    set_else (set s.views id (Keeps b')) other a.book Spent (λ e. apart (sym e ∙ sym own.here))
    ∙ (ap (get_elem? (set s.views id (Keeps b'))) (sym own.here) ∙ set_at s.views id (Keeps b) (Keeps b') at) in
    let place' : ℕ → Place = with_at a.place h.trace.number gone in (
      a',
      record {
        keeper = (b', new_at);
        replies = k.replies;
        made = case (λ c. c < a.made → place' c ≢ unmade)
            (λ lt e. gone_made (place' h.trace.number) (at_same a.place h.trace.number gone) e)
            (λ c ne lt e. k.made c lt (sym (at_other a.place h.trace.number gone c ne) ∙ e));
        sits = case (λ c. (seat : ℕ) → place' c ≡ seated seat → SitsAt views' c seat)
            (λ seat e. absurd (not_gone (place' h.trace.number) seat e (at_same a.place h.trace.number gone)))
            (λ c ne seat e. let t = k.sits c seat (sym (at_other a.place h.trace.number gone c ne) ∙ e) in (
              t.0,
              set_else (set s.views id (Keeps b')) other seat Spent
                  (λ same. ne (sym t.2 ∙ ap (λ (x : Hand). x.trace.number) (one_hand s.views other t.0 h (ap (get_elem? s.views) (sym same) ∙ t.1) was)))
                  ∙ (set_else s.views id seat (Keeps b') (λ same. not_both s.views id t.0 b (ap (get_elem? s.views) (sym same) ∙ t.1) at) ∙ t.1),
              t.2,
            ));
        left = case (λ c. (b2 : Ledger) → get_elem? views' a.book ≡ some (Keeps b2) → place' c ≡ gone → HasLeft c b2.left)
            (λ b2 at2 e. subst (λ (x : Ledger). HasLeft h.trace.number x.left) (one_book views' a.book b' b2 new_at at2)
            (h.trace, (0, omega arith, refl), refl))
            (λ c ne b2 at2 e. subst (λ (x : Ledger). HasLeft c x.left) (one_book views' a.book b' b2 new_at at2)
            (more_left c h.trace b.left (k.left c b (ap (get_elem? s.views) (sym own.here) ∙ at) (sym (at_other a.place h.trace.number gone c ne) ∙ e))));
        room = k.room;
        unmade = λ c le. let r = k.unmade c le in
            (at_other a.place h.trace.number gone c (λ e. not_unmade (a.place c) other (ap a.place e ∙ hf.here) r.0) ∙ r.0, r.1);
        width = k.width;
        word = k.word;
        idle = case (λ c. ((seat : ℕ) → with_at a.place h.trace.number gone c ≢ seated seat) → a.phase c ≡ Idle) (λ none. sym hf.phase ∙ idle)
            (λ c ne none. k.idle c (λ seat e. none seat (at_other a.place h.trace.number gone c ne ∙ e)));
        numbers = k.numbers;
        known = k.known;
        fits = λ seat u e. ⊎_elim
            (λ t. subst (Fits a' seat) t.1 tt)
            (λ t. ⊎_elim
            (λ o. subst (λ x. Fits a' x u) (sym o.0) (subst (Fits a' id) o.1 record {
              here = own.here;
              history = own.history;
              made = own.made;
              notes = notes_later a a' later b.notes own.notes;
              left = (
                (at_same a.place h.trace.number gone, hf.mine, hf.seen, subst (λ p. Lags p (calls_by h.trace.number h.trace.seen) h.trace.mine) idle hf.known),
                left_later a a' later b.left (λ c g. (
                  at_other a.place h.trace.number gone c
                      (λ same. not_gone (a.place c) other (ap a.place same ∙ hf.here) g) ∙ g,
                  refl,
                )) own.left,
              );
            }))
            (λ o. moved_fits a h.trace.number gone a.made seat u (λ b2 bf. o.0 (bf.here ∙ sym own.here))
            (λ n pl same. t.0 (one_seat seat other (sym pl ∙ (ap a.place same ∙ hf.here)))) (k.fits seat u o.1))
            (at_set s.views id seat (Keeps b') u t.1))
            (at_set (set s.views id (Keeps b')) other seat Spent u e);
      },
    )
