-- The steps of a caller on its own word: begin, sign and seal.
use Rattle.std.proofs.Common.{◌≡◌, ℕ, suc, eqb, ◌+◌, ◌<◌, List, [], ◌∷◌, ◌++◌, length, refl, ap, sym, ◌∙◌, subst, inl, inr, ⊎_elim, arith, slice_index, set, length-set, get_or-set_same, get_or-set_other, length-append}
use mathlib.Core.Logic.{dite}
use mathlib.Core.List.{IsPrefix}
use mathlib.Core.Option.{some, none, some-injective}
use native.Mathlib.Decide.{dec_le}
use prog.Atomic.{either}
use lib.ListN.{get_elem?}
use Rattle.atomic_table.specs.Table.{step, keeps, stepped, Allows}
use Rattle.histories.specs.declared.entry.Entry.{Entry}
use Rattle.histories.specs.declared.entry.Reply.{Reply}
use Rattle.stripe_book.specs.declared.offer.Offer.{Offer}
use Rattle.stripe_book.specs.declared.view.Phase.{Phase}
use Rattle.stripe_book.specs.declared.view.Phase.TheVariants.{Idle, Begun, Entered}
use Rattle.stripe_book.specs.declared.view.Note.{Note}
use Rattle.stripe_book.specs.declared.view.Hand.{Hand}
use Rattle.stripe_book.specs.declared.view.View.{View}
use Rattle.stripe_book.specs.declared.view.View.TheVariants.{Calls}
use Rattle.histories.specs.History.{calls_by, IsNumbered, entry}
use Rattle.stripe_book.specs.Rule.{word_of, Account, Lags, NotesFit, HandFits, IsKept, Holds}
use Rattle.stripe_book.specs.Seen.{hand_of, Settled, IsCaller}
use Rattle.stripe_book.specs.Steps.{Seated, in_phase, phases, signing, signed, signs}
use Rattle.histories.proofs.Beginnings.{prefix_self, prefix_more, prefix_length, calls_prefix}
use Rattle.stripe_book.proofs.Kept.{called, caller_moves, not_unmade}

-- what a caller is missing is nothing where its calls begin what is there
pub nothing_missing : (p : Phase) (xs mine : List Entry) → Lags p xs mine → IsPrefix mine xs → xs ≡ mine
nothing_missing Idle xs mine l pre = l
nothing_missing Begun xs mine l pre = l
nothing_missing Entered xs mine l pre = ⊎_elim (λ e. e) (λ m. let short = prefix_length mine xs pre in
    let long : length xs + 1 ≡ length mine = sym (length-append xs (m.0 ∷ [])) ∙ ap length m.1 in absurd (omega arith)) l

pub lags_not : (p : Phase) (xs mine : List Entry) → xs ≡ mine → Lags p xs mine
lags_not Idle xs mine e = e
lags_not Begun xs mine e = e
lags_not Entered xs mine e = inl e

module _ (callers : ℕ) (words : List ℕ) (views : List View) (a : Account) (k : IsKept callers words views a) (id : ℕ) (h : Hand)
    (at : get_elem? views id ≡ some (Calls h)) where
  pub own_hand : HandFits a id h
  own_hand = k.fits id (Calls h) at

  pub below : h.trace.number < callers
  below = dite (dec_le a.made h.trace.number)
      (λ le. absurd (not_unmade (a.place h.trace.number) id own_hand.here (k.unmade h.trace.number le).0))
      (λ nle. let r = k.room in omega arith)

  pub own_known : Lags h.phase (calls_by h.trace.number a.history) h.trace.mine
  own_known = subst (λ p. Lags p (calls_by h.trace.number a.history) h.trace.mine) (sym own_hand.phase)
      (subst (Lags (a.phase h.trace.number) (calls_by h.trace.number a.history)) (sym own_hand.mine) (k.known h.trace.number))

  -- a step of the caller that sets its word to that of its new phase
  pub word_moves : (h' : Hand) → h'.trace.number ≡ h.trace.number → IsPrefix h.trace.mine h'.trace.mine → IsNumbered h.trace.number 0 h'.trace.mine
      → Lags h'.phase (calls_by h.trace.number a.history) h'.trace.mine → h'.trace.seen ≡ h.trace.seen
      → Lags h'.phase (calls_by h.trace.number h.trace.seen) h'.trace.mine → h'.notes ≡ h.notes
      → IsKept callers (set words (h.trace.number + 1) (word_of h'.phase)) (set views id (Calls h')) (called a h.trace.number h'.phase h'.trace.mine)
  word_moves h' same grows numbers lags seen known notes = let inside : h.trace.number + 1 < length words = omega (arith, below, k.width) in
      caller_moves callers words (set words (h.trace.number + 1) (word_of h'.phase)) views a k id h h' at record {
        same = same;
        grows = grows;
        numbers = numbers;
        lags = lags;
        seen = subst (λ l. IsPrefix l a.history) (sym seen) own_hand.seen;
        known = subst (λ l. Lags h'.phase (calls_by h.trace.number l) h'.trace.mine) (sym seen) known;
        notes = subst (NotesFit a) (sym notes) own_hand.notes;
        width = length-set words (h.trace.number + 1) (word_of h'.phase);
        word = get_or-set_same words (h.trace.number + 1) (word_of h'.phase) 0 inside;
        others = λ c lt ne. get_or-set_other words (h.trace.number + 1) (c + 1) (word_of h'.phase) 0 (λ e. ne (omega arith));
      }

  pub own_numbers : IsNumbered h.trace.number 0 h.trace.mine
  own_numbers = subst (IsNumbered h.trace.number 0) (sym own_hand.mine) (k.numbers h.trace.number)

  -- the caller goes to a phase in which no call is missing
  pub phase_moves : (p : Phase) → calls_by h.trace.number a.history ≡ h.trace.mine → calls_by h.trace.number h.trace.seen ≡ h.trace.mine
      → IsKept callers (set words (h.trace.number + 1) (word_of p)) (set views id (Calls (in_phase p h))) (called a h.trace.number p h.trace.mine)
  phase_moves p all known = word_moves (in_phase p h) refl (prefix_self h.trace.mine) own_numbers (lags_not p _ _ all) refl (lags_not p _ _ known) refl

idle_equal : (p : Phase) (xs mine : List Entry) → p ≡ Idle → Lags p xs mine → xs ≡ mine
idle_equal p xs mine e l = subst (λ q. Lags q xs mine) e l

pub begins : (callers slots id : ℕ) (h : Hand) (c : List (ℕ × Offer)) → h.phase ≡ Idle
    → Allows (Holds callers) slots id (Calls h, c) (h.trace.number + 1) (λ _. 1) (λ _. phases Begun (step 0 0 0 0 none) (Calls h, c) 1)
begins callers slots id h c idle s hs homes at small = let k = hs.1 in (
  Calls (in_phase Begun h),
  keeps,
  tt,
  (
    called hs.0 h.trace.number Begun h.trace.mine,
    phase_moves callers s.words s.views hs.0 k id h at Begun
        (idle_equal h.phase _ _ idle (own_known callers s.words s.views hs.0 k id h at))
        (idle_equal h.phase _ _ idle (own_hand callers s.words s.views hs.0 k id h at).known),
  ),
  refl,
)

pub seals : (callers slots id : ℕ) (h : Hand) (c : List (ℕ × Offer)) → calls_by h.trace.number h.trace.seen ≡ h.trace.mine
    → Allows (Holds callers) slots id (Calls h, c) (h.trace.number + 1) (λ _. 0) (λ _. phases Idle (step 0 0 0 0 none) (Calls h, c) 0)
seals callers slots id h c seen s hs homes at small = let k = hs.1 in let own = own_hand callers s.words s.views hs.0 k id h at in (
  Calls (in_phase Idle h),
  keeps,
  tt,
  (
    called hs.0 h.trace.number Idle h.trace.mine,
    phase_moves callers s.words s.views hs.0 k id h at Idle
        (nothing_missing h.phase _ _ (own_known callers s.words s.views hs.0 k id h at)
        (subst (λ l. IsPrefix l (calls_by h.trace.number hs.0.history)) seen (calls_prefix h.trace.number h.trace.seen hs.0.history own.seen)))
        seen,
  ),
  refl,
)

numbered_more : (c n m : ℕ) (xs : List Entry) (key : List ℕ) (r : Reply) → m ≡ n + length xs → IsNumbered c n xs → IsNumbered c n (xs ++ entry c m key r ∷ [])
numbered_more c n m [] key r e is = (refl, omega arith, tt)
numbered_more c n m (x ∷ xs) key r e is = (is.0, is.1, numbered_more c (suc n) m xs key r (omega arith) is.2)

pub signs_well : (callers slots id : ℕ) (h : Hand) (c : List (ℕ × Offer)) (o : Offer) → h.phase ≡ Begun
    → Allows (Holds callers) slots id (Calls h, c) (h.trace.number + 1) (λ n. either (eqb n 1) 2 n)
    (signs (step slots (h.trace.number + 1) 1 2 (some o)) (Calls h, c))
signs_well callers slots id h c o begun s hs homes at small = let k = hs.1 in let own = own_hand callers s.words s.views hs.0 k id h at in
    let i : ℕ = h.trace.number + 1 in
    let all : calls_by h.trace.number hs.0.history ≡ h.trace.mine = subst (λ q. Lags q (calls_by h.trace.number hs.0.history) h.trace.mine) begun
    (own_known callers s.words s.views hs.0 k id h at) in
    let known : calls_by h.trace.number h.trace.seen ≡ h.trace.mine = subst (λ q. Lags q (calls_by h.trace.number h.trace.seen) h.trace.mine) begun own.known in
    let word : slice_index s.words i ≡ 1 = k.word h.trace.number (below callers s.words s.views hs.0 k id h at)
    ∙ (ap word_of (sym own.phase) ∙ ap word_of begun) in
    let w : View = Calls (signed h o) in (
      w,
      keeps,
      tt,
      subst (λ n. Holds callers (stepped s i (either (eqb n 1) 2 n) id c w keeps)) (sym word) (
        called hs.0 h.trace.number Entered (h.trace.mine ++ signing h o ∷ []),
        word_moves callers s.words s.views hs.0 k id h at (signed h o) refl (prefix_more h.trace.mine (signing h o ∷ []))
            (numbered_more h.trace.number 0 (length h.trace.mine) h.trace.mine o.key.value o.reply (omega arith)
            (own_numbers callers s.words s.views hs.0 k id h at))
            (inr (signing h o, ap (λ l. l ++ signing h o ∷ []) all)) refl
            (inr (signing h o, ap (λ l. l ++ signing h o ∷ []) known)) refl,
      ),
      λ o' e. ap (λ x. (Calls (signed h x), c)) (some-injective o o' e),
    )

-- the same, as the calls of the table ask for it
module _ (callers slots id number : ℕ) (me : Seated) (is : me.0 ≡ Calls (hand_of me.0)) (named : (hand_of me.0).trace.number ≡ number) where
  at_me : (P : View → ℕ → Type 0) → P (Calls (hand_of me.0)) (hand_of me.0).trace.number → P me.0 number
  at_me P x = subst (P me.0) named (subst (λ v. P v (hand_of me.0).trace.number) (sym is) x)

  pub begins_as : (hand_of me.0).phase ≡ Idle → Allows (Holds callers) slots id me (number + 1) (λ _. 1) (λ _. phases Begun (step 0 0 0 0 none) me 1)
  begins_as idle = at_me (λ v n. Allows (Holds callers) slots id (v, me.1) (n + 1) (λ _. 1) (λ _. phases Begun (step 0 0 0 0 none) (v, me.1) 1))
      (begins callers slots id (hand_of me.0) me.1 idle)

  pub seals_as : calls_by number (hand_of me.0).trace.seen ≡ (hand_of me.0).trace.mine
      → Allows (Holds callers) slots id me (number + 1) (λ _. 0) (λ _. phases Idle (step 0 0 0 0 none) me 0)
  seals_as seen = at_me (λ v n. Allows (Holds callers) slots id (v, me.1) (n + 1) (λ _. 0) (λ _. phases Idle (step 0 0 0 0 none) (v, me.1) 0))
      (seals callers slots id (hand_of me.0) me.1 (subst (λ n. calls_by n (hand_of me.0).trace.seen ≡ (hand_of me.0).trace.mine) (sym named) seen))

  pub signs_as : (o : Offer) → (hand_of me.0).phase ≡ Begun
      → Allows (Holds callers) slots id me (number + 1) (λ n. either (eqb n 1) 2 n) (signs (step slots (number + 1) 1 2 (some o)) me)
  signs_as o begun = at_me (λ v n. Allows (Holds callers) slots id (v, me.1) (n + 1) (λ n. either (eqb n 1) 2 n)
      (signs (step slots (n + 1) 1 2 (some o)) (v, me.1)))
      (signs_well callers slots id (hand_of me.0) me.1 o begun)

-- a caller that has seen all its calls keeps no note
pub no_note : (p : Phase) (c : ℕ) (seen mine : List Entry) (notes : List Note) → Settled p c seen mine notes → calls_by c seen ≡ mine → notes ≡ []
no_note Idle c seen mine notes s e = s
no_note Begun c seen mine notes s e = s
no_note Entered c seen mine notes s e = ⊎_elim (λ t. t.0)
    (λ t. let long : length (calls_by c seen) + 1 ≡ length mine = sym (length-append (calls_by c seen) (t.1 ∷ [])) ∙ ap length t.4 in
    let same : length (calls_by c seen) ≡ length mine = ap length e in absurd (omega arith)) s

-- a seat after a step is still the caller's
pub caller_to : (number words : ℕ) (me w : Seated) (h : Hand) → IsCaller number words me → w ≡ (Calls h, me.1) → h.trace.number ≡ number
    → Settled h.phase number h.trace.seen h.trace.mine h.notes → IsCaller number words w
caller_to number words me w h is e same settled = subst (IsCaller number words) (sym e) record {
  view = refl;
  slots = is.slots;
  named = same;
  room = is.room;
  small = is.small;
  settled = settled;
}
