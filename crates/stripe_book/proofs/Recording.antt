-- The steps of the book: it drops its notes, and records the call of the first one.
use Rattle.std.proofs.Common.{◌≡◌, ℕ, suc, ◌+◌, List, [], ◌∷◌, ◌++◌, length, cond, eqb, refl, ap, sym, ◌∙◌, subst, ⊎_elim, arith, set, length-append, append-nil, eq-eqb, ne_eqb}
use mathlib.Core.Logic.{dite}
use mathlib.Core.List.{IsPrefix}
use mathlib.Core.Option.{none}
use native.Mathlib.Decide.{ℕ_discrete}
use lib.Seq.{set-get_or}
use Rattle.atomic_table.specs.Table.{step, keeps, Allows}
use Rattle.std.proofs.lemmas.List.Elements.{filter-append}
use Rattle.histories.specs.declared.entry.Entry.{Entry}
use Rattle.stripe_book.specs.declared.offer.Offer.{Offer}
use Rattle.stripe_book.specs.declared.view.Phase.{Phase}
use Rattle.stripe_book.specs.declared.view.Phase.TheVariants.{Idle, Begun, Entered}
use Rattle.stripe_book.specs.declared.view.Trace.{Trace}
use Rattle.stripe_book.specs.declared.view.Note.{Note}
use Rattle.stripe_book.specs.declared.view.Note.TheVariants.{OfBook, OfCaller}
use Rattle.stripe_book.specs.declared.view.Ledger.{Ledger}
use Rattle.stripe_book.specs.declared.view.View.TheVariants.{Keeps}
use Rattle.histories.specs.SetObject.{keys_from, keys_after, after_offer, reply_to}
use Rattle.histories.specs.History.{calls_by, RepliesFrom, IsNumbered}
use Rattle.stripe_book.specs.Rule.{Account, Lags, NotesFit, Holds}
use Rattle.stripe_book.specs.Steps.{noticed, OfCallers, notices, last_of, newest, recorded, records}
use Rattle.histories.proofs.Beginnings.{prefix_self, prefix_more, prefix_length, prefix_whole}
use Rattle.stripe_book.proofs.Kept.{book_moves}
use Rattle.stripe_book.proofs.Alone.{lags_not}

of_callers : (a : Account) (ns : List Note) → NotesFit a ns → OfCallers (λ t. IsPrefix t.seen a.history) ns
of_callers a [] f = tt
of_callers a (OfBook h ∷ ns) f = of_callers a ns f.1
of_callers a (OfCaller t ∷ ns) f = (f.0.0, of_callers a ns f.1)

module _ (callers slots id : ℕ) (b : Ledger) (c : List (ℕ × Offer)) where
  pub notices_well : Allows (Holds callers) slots id (Keeps b, c) 0 (λ n. n) (notices (step slots 0 0 0 none) (Keeps b, c))
  notices_well s hs homes at small = let k = hs.1 in let a = hs.0 in let own = k.fits id (Keeps b) at in (
    Keeps (noticed b),
    keeps,
    tt,
    subst (λ ws. Holds callers record { words = ws; homes = s.homes; views = set s.views id (Keeps (noticed b)) }) (sym (set-get_or s.words 0 0)) (
      record a { history = b.history },
      book_moves callers s.words s.views a k id b (noticed b) at (subst (λ l. IsPrefix l b.history) own.history (prefix_self b.history))
          (subst (RepliesFrom []) (sym own.history) k.replies)
          (λ n. subst (λ l. Lags (a.phase n) (calls_by n l) (a.mine n)) (sym own.history) (k.known n)) refl refl tt,
    ),
    (refl, subst (λ l. OfCallers (λ t. IsPrefix t.seen l) b.notes) (sym own.history) (of_callers a b.notes own.notes)),
  )

pub last_more : (xs : List Entry) (e : Entry) → last_of (xs ++ e ∷ []) ≡ e ∷ []
last_more [] e = refl
last_more (x ∷ []) e = refl
last_more (x ∷ y ∷ ys) e = last_more (y ∷ ys) e

replies_more : (keys : List (List ℕ)) (xs : List Entry) (e : Entry) → RepliesFrom keys xs → e.reply ≡ reply_to (keys_from keys xs) e.key
    → RepliesFrom keys (xs ++ e ∷ [])
replies_more keys [] e r is = (is, tt)
replies_more keys (x ∷ xs) e r is = (r.0, replies_more (after_offer keys x.key) xs e r.1 is)

named_last : (c n : ℕ) (xs : List Entry) (e : Entry) → IsNumbered c n (xs ++ e ∷ []) → e.caller ≡ c
named_last c n [] e is = is.0
named_last c n (x ∷ xs) e is = named_last c (suc n) xs e is.2

too_long : {A : Type 0} (xs mine : List A) (e : A) → xs ≡ mine → IsPrefix (xs ++ e ∷ []) mine → ⊥
too_long xs mine e is p = let le = prefix_length (xs ++ e ∷ []) mine p in let n = length-append xs (e ∷ []) in
    let m : length xs ≡ length mine = ap length is in absurd (omega arith)

-- a call that a caller signed is the one that the history lacks
caught_up : (p : Phase) (xs mine : List Entry) (e : Entry) → Lags p xs mine → IsPrefix (xs ++ e ∷ []) mine → xs ++ e ∷ [] ≡ mine
caught_up Idle xs mine e l q = absurd (too_long xs mine e l q)
caught_up Begun xs mine e l q = absurd (too_long xs mine e l q)
caught_up Entered xs mine e l q = ⊎_elim (λ is. absurd (too_long xs mine e is q))
    (λ t. prefix_whole (xs ++ e ∷ []) mine q (let n = length-append xs (e ∷ []) in
    let m : length xs + 1 ≡ length mine = sym (length-append xs (t.0 ∷ [])) ∙ ap length t.1 in omega arith)) l

pub calls_one : (c : ℕ) (xs : List Entry) (e : Entry) → calls_by c (xs ++ e ∷ []) ≡ calls_by c xs ++ cond (eqb e.caller c) (e ∷ []) []
calls_one c xs e = filter-append (λ (u : Entry). eqb u.caller c) xs (e ∷ [])

module _ (callers slots id word : ℕ) (b : Ledger) (c : List (ℕ × Offer)) (t : Trace) (m : List Entry) (e : Entry) where
  pub records_well : b.notes ≡ OfCaller t ∷ [] → t.mine ≡ m ++ e ∷ [] → calls_by t.number b.history ≡ m → e.reply ≡ reply_to (keys_after b.history) e.key
      → Allows (Holds callers) slots id (Keeps b, c) word (λ n. n) (records (step slots word 0 0 none) (Keeps b, c))
  records_well notes last before reply s hs homes at small = let k = hs.1 in let a = hs.0 in let own = k.fits id (Keeps b) at in
      let new : newest b.notes ≡ e ∷ [] = ap newest notes ∙ (ap last_of last ∙ last_more m e) in
      let said = subst (NotesFit a) notes own.notes in
      let pre : IsPrefix (m ++ e ∷ []) (a.mine t.number) = subst (λ l. IsPrefix l (a.mine t.number)) last said.0.1 in
      let was : calls_by t.number a.history ≡ m = ap (calls_by t.number) (sym own.history) ∙ before in
      let whole : m ++ e ∷ [] ≡ a.mine t.number = caught_up (a.phase t.number) m (a.mine t.number) e
      (subst (λ l. Lags (a.phase t.number) l (a.mine t.number)) was (k.known t.number)) pre in
      let named : e.caller ≡ t.number = named_last t.number 0 m e (subst (IsNumbered t.number 0) (sym whole) (k.numbers t.number)) in
      let known : (n : ℕ) → Lags (a.phase n) (calls_by n (b.history ++ e ∷ [])) (a.mine n) = λ n. subst (λ l. Lags (a.phase n) l (a.mine n))
      (sym (calls_one n b.history e))
      (dite (ℕ_discrete n t.number)
      (λ is. lags_not (a.phase n) (calls_by n b.history ++ cond (eqb e.caller n) (e ∷ []) []) (a.mine n)
      (ap (λ z. calls_by n b.history ++ cond z (e ∷ []) []) (eq-eqb e.caller n (named ∙ sym is))
      ∙ (ap (λ l. l ++ e ∷ []) (ap (λ z. calls_by z b.history) is ∙ before) ∙ (whole ∙ ap a.mine (sym is)))))
      (λ ne. subst (λ l. Lags (a.phase n) l (a.mine n))
      (sym (ap (λ z. calls_by n b.history ++ cond z (e ∷ []) []) (ne_eqb e.caller n (λ is. ne (sym is ∙ named)))
      ∙ append-nil (calls_by n b.history)))
      (subst (λ l. Lags (a.phase n) (calls_by n l) (a.mine n)) (sym own.history) (k.known n)))) in (
        Keeps (recorded b),
        keeps,
        tt,
        subst (λ ws. Holds callers record { words = ws; homes = s.homes; views = set s.views id (Keeps (recorded b)) }) (sym (set-get_or s.words word 0)) (
          record a { history = b.history ++ newest b.notes },
          book_moves callers s.words s.views a k id b (recorded b) at
              (subst (λ l. IsPrefix l (b.history ++ newest b.notes)) own.history (prefix_more b.history (newest b.notes)))
              (subst (λ l. RepliesFrom [] (b.history ++ l)) (sym new) (replies_more [] b.history e (subst (RepliesFrom []) (sym own.history) k.replies) reply))
              (λ n. subst (λ l. Lags (a.phase n) (calls_by n (b.history ++ l)) (a.mine n)) (sym new) (known n)) refl refl own.notes,
        ),
        refl,
      )
