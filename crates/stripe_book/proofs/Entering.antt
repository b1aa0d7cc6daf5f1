-- What `enter` leaves: the hand after its signing, and the notes that pass.
use Rattle.std.proofs.Common.{◌≡◌, ℕ, List, [], ◌∷◌, ◌++◌, cond, refl, ap, sym, ◌∙◌, subst, inr, eq-eqb}
use Rattle.histories.specs.declared.entry.Entry.{Entry}
use Rattle.stripe_book.specs.declared.offer.Offer.{Offer}
use Rattle.stripe_book.specs.declared.view.Phase.TheVariants.{Begun, Entered}
use Rattle.stripe_book.specs.declared.view.Note.TheVariants.{OfBook, OfCaller}
use Rattle.stripe_book.specs.declared.view.Ledger.{Ledger}
use Rattle.stripe_book.specs.declared.view.Hand.{Hand}
use Rattle.stripe_book.specs.declared.view.View.{View}
use Rattle.stripe_book.specs.declared.view.View.TheVariants.{Keeps, Calls, Tells}
use Rattle.histories.specs.History.{calls_by}
use Rattle.stripe_book.specs.Rule.{hand, ledger, Lags}
use Rattle.stripe_book.specs.Seen.{hand_of, ledger_of, Settled, IsCaller}
use Rattle.stripe_book.specs.Steps.{Seated, told, note_of, noticed, recorded, traded, seen_in, signing, signed, Trades}
use Rattle.stripe_book.proofs.Recording.{last_more, calls_one}
use Rattle.stripe_book.proofs.Talks.{begun_trade}

pub caller_at : (number words : ℕ) (me w : Seated) (h : Hand) → IsCaller number words me → w.0 ≡ Calls h → w.1 ≡ [] → h.trace.number ≡ number
    → Settled h.phase number h.trace.seen h.trace.mine h.notes → IsCaller number words w
caller_at number words me w h is e no_slot same settled = subst (IsCaller number words) (λ i. (sym e i, sym no_slot i)) record {
  view = refl;
  slots = refl;
  named = same;
  room = is.room;
  small = is.small;
  settled = settled;
}

-- the caller h has begun a call, the book is b, and o is signed
module _ (h : Hand) (b : Ledger) (o : Offer) where
  abbrev pub begun_hand : Hand
  begun_hand = hand h.trace.number Begun h.trace.seen h.trace.mine []

  abbrev pub call : Entry
  call = signing h o

  abbrev pub signed_hand : Hand
  signed_hand = hand h.trace.number Entered h.trace.seen (h.trace.mine ++ signing h o ∷ []) []

  -- the book with the caller's note, before and after it records the call
  abbrev pub held : Ledger
  held = ledger b.history b.made (OfCaller signed_hand.trace ∷ []) b.left

  abbrev pub written : Ledger
  written = ledger (b.history ++ signing h o ∷ []) b.made (OfCaller signed_hand.trace ∷ []) b.left

  abbrev pub noted_hand : Hand
  noted_hand = hand h.trace.number Entered h.trace.seen (h.trace.mine ++ signing h o ∷ []) (OfBook (b.history ++ signing h o ∷ []) ∷ [])

  pub traded_begun : h.phase ≡ Begun → traded h b.history ≡ begun_hand
  traded_begun e = ap (λ p. hand h.trace.number p (seen_in p h.trace.seen (OfBook b.history ∷ [])) h.trace.mine []) e

  pub signs_hand : (v : View) (w : Seated) (c : List (ℕ × Offer)) → h.phase ≡ Begun → v ≡ Calls (traded h b.history)
      → w ≡ (Calls (signed (hand_of v) o), c) → w.0 ≡ Calls signed_hand
  signs_hand v w c e is step = ap (λ m. m.0) step ∙ (ap (λ u. Calls (signed (hand_of u) o)) is ∙ ap (λ k. Calls (signed k o)) (traded_begun e))

  pub holds_note : (book caller after : View) → book ≡ Keeps (noticed b) → caller ≡ Calls signed_hand → after ≡ told book (Tells (note_of caller))
      → after ≡ Keeps held
  holds_note book caller after p q r = r ∙ (ap (λ v. told v (Tells (note_of caller))) p ∙ ap (λ v. told (Keeps (noticed b)) (Tells (note_of v))) q)

  pub writes : (before : View) (w : Seated) (c : List (ℕ × Offer)) → before ≡ Keeps held → w ≡ (Keeps (recorded (ledger_of before)), c) → w.0 ≡ Keeps written
  writes before w c p r = ap (λ m. m.0) r ∙ (ap (λ v. Keeps (recorded (ledger_of v))) p
      ∙ ap (λ l. Keeps (ledger (b.history ++ l) b.made (OfCaller signed_hand.trace ∷ []) b.left)) (last_more h.trace.mine (signing h o)))

  pub takes_note : (caller book after : View) → caller ≡ Calls signed_hand → book ≡ Keeps written → after ≡ told caller (Tells (note_of book))
      → after ≡ Calls noted_hand
  takes_note caller book after p q r = r ∙ (ap (λ v. told v (Tells (note_of book))) p ∙ ap (λ v. told (Calls signed_hand) (Tells (note_of v))) q)

  own_call : calls_by h.trace.number b.history ≡ h.trace.mine → calls_by h.trace.number (b.history ++ signing h o ∷ []) ≡ h.trace.mine ++ signing h o ∷ []
  own_call all = calls_one h.trace.number b.history (signing h o)
      ∙ (ap (λ z. calls_by h.trace.number b.history ++ cond z (signing h o ∷ []) []) (eq-eqb h.trace.number h.trace.number refl)
      ∙ ap (λ l. l ++ signing h o ∷ []) all)

  pub settles : (number : ℕ) → h.trace.number ≡ number → h.phase ≡ Begun → Trades h b.history
      → Settled Entered number h.trace.seen (h.trace.mine ++ signing h o ∷ []) (OfBook (b.history ++ signing h o ∷ []) ∷ [])
  settles number named e t = subst (λ n. Settled Entered n h.trace.seen (h.trace.mine ++ signing h o ∷ []) (OfBook (b.history ++ signing h o ∷ []) ∷ [])) named
      (inr (
        b.history ++ signing h o ∷ [],
        signing h o,
        refl,
        own_call (begun_trade h b.history e t),
        ap (λ l. l ++ signing h o ∷ []) (subst (λ p. Lags p (calls_by h.trace.number h.trace.seen) h.trace.mine) e t.1),
      ))
