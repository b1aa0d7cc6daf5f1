use Rattle.std.proofs.Common.{rules, ◌≡◌, ap, ap₂, ◌∙◌, sym, refl, subst, [], ◌∷◌, ◌++◌, length}
use Rattle.stripe_book.specs.declared.offer.Offer.{Offer}
use Rattle.stripe_book.specs.declared.view.Phase.TheVariants.{Begun, Entered}
use Rattle.histories.specs.SetObject.{keys_after, reply_to}
use Rattle.histories.specs.History.{entry}
use Rattle.stripe_book.specs.Seen.{BookSide, CallerSide, book_side, caller_side, hand_of, ledger_of, IsCaller}
use Rattle.stripe_book.specs.Steps.{traded, signing}
use Rattle.stripe_book.proofs.Talks.{signs_at, records_at, begun_trade}
use Rattle.stripe_book.proofs.Entering.{caller_at, signed_hand, held, noted_hand, signs_hand, holds_note, writes, takes_note, settles}
use Rattle.stripe_book.proofs.table.StripeTable.enter.Goals as goal

pub compare_exchange_with-requires : goal.compare_exchange_with-requires
compare_exchange_with-requires c =
    let h = hand_of c.caller.inside.seat.me.0 in (
      search rules,
      search rules,
      signs_at _ _ _ _ (traded h (ledger_of c.book.inside.seat.me.0).history) _ _
          (ap (λ m. m.0) c.trade.ensures.caller) c.caller.invariant.named (ap (λ v. v.phase) c.caller.view_is ∙ c.requires.begun),
    )

pub load-requires : goal.load-requires
load-requires c =
    let h = hand_of c.caller.inside.seat.me.0 in let b = ledger_of c.book.inside.seat.me.0 in
    let o : Offer = record { key = c.of.result; reply = c.args.reply } in
    let begun : h.phase ≡ Begun = ap (λ v. v.phase) c.caller.view_is ∙ c.requires.begun in
    let signed = signs_hand h b o c.trade.new.caller.me.0 c.compare_exchange_with.new.seat.me c.trade.new.caller.me.1 begun
    (ap (λ m. m.0) c.trade.ensures.caller) (c.compare_exchange_with.ensures.2 o refl) in
    let holding = holds_note h b o c.trade.new.book.me.0 c.compare_exchange_with.new.seat.me.0 c.pass_note.new.to.me.0
    (ap (λ m. m.0) c.trade.ensures.book) signed (ap (λ m. m.0) c.pass_note.ensures.to) in (
      search rules,
      search rules,
      records_at _ _ _ _ _ (held h b o) (signed_hand h b o).trace h.trace.mine (signing h o) holding refl refl
          (begun_trade h b.history begun c.trade.ensures.shows)
          (c.requires.reply ∙ (ap (λ x. reply_to (keys_after x.history) c.args.key.now) (sym c.book.view_is)
          ∙ ap (reply_to (keys_after b.history)) (sym c.of.ensures))),
    )

pub invariant_of-caller : goal.invariant_of-caller
invariant_of-caller c =
    let h = hand_of c.caller.inside.seat.me.0 in let b = ledger_of c.book.inside.seat.me.0 in
    let o : Offer = record { key = c.of.result; reply = c.args.reply } in
    let begun : h.phase ≡ Begun = ap (λ v. v.phase) c.caller.view_is ∙ c.requires.begun in
    let signed = signs_hand h b o c.trade.new.caller.me.0 c.compare_exchange_with.new.seat.me c.trade.new.caller.me.1 begun
    (ap (λ m. m.0) c.trade.ensures.caller) (c.compare_exchange_with.ensures.2 o refl) in
    let holding = holds_note h b o c.trade.new.book.me.0 c.compare_exchange_with.new.seat.me.0 c.pass_note.new.to.me.0
    (ap (λ m. m.0) c.trade.ensures.book) signed (ap (λ m. m.0) c.pass_note.ensures.to) in
    let wrote = writes h b o c.pass_note.new.to.me.0 c.load.new.seat.me c.pass_note.new.to.me.1 holding c.load.ensures.2 in
    let takes = takes_note h b o c.pass_note.new.from.me.0 c.load.new.seat.me.0 c.pass_note-2.new.to.me.0 (ap (λ m. m.0) c.pass_note.ensures.from
    ∙ signed) wrote (ap (λ m. m.0) c.pass_note-2.ensures.to) in
    let no_slot = ap (λ m. m.1) c.pass_note-2.ensures.to
    ∙ (ap (λ m. m.1) c.pass_note.ensures.from
    ∙ (ap (λ m. m.1) (c.compare_exchange_with.ensures.2 o refl) ∙ ap (λ m. m.1) c.trade.ensures.caller)) in
    let tables = c.pass_note-2.ensures.tables.1 ∙ (c.pass_note.ensures.tables.0 ∙ (c.compare_exchange_with.ensures.0 ∙ c.trade.ensures.tables.1)) in
    subst (λ t. IsCaller c.caller.inside.number t.words c.pass_note-2.new.to.me) (sym tables)
    (caller_at _ _ c.caller.inside.seat.me c.pass_note-2.new.to.me (noted_hand h b o) c.caller.invariant takes no_slot c.caller.invariant.named
    (settles h b o _ c.caller.invariant.named begun c.trade.ensures.shows))

pub returns-clause-book : goal.returns-clause-book
returns-clause-book c =
    let h = hand_of c.caller.inside.seat.me.0 in let b = ledger_of c.book.inside.seat.me.0 in
    let o : Offer = record { key = c.of.result; reply = c.args.reply } in
    let begun : h.phase ≡ Begun = ap (λ v. v.phase) c.caller.view_is ∙ c.requires.begun in
    let signed = signs_hand h b o c.trade.new.caller.me.0 c.compare_exchange_with.new.seat.me c.trade.new.caller.me.1 begun
    (ap (λ m. m.0) c.trade.ensures.caller) (c.compare_exchange_with.ensures.2 o refl) in
    let holding = holds_note h b o c.trade.new.book.me.0 c.compare_exchange_with.new.seat.me.0 c.pass_note.new.to.me.0
    (ap (λ m. m.0) c.trade.ensures.book) signed (ap (λ m. m.0) c.pass_note.ensures.to) in
    let wrote = writes h b o c.pass_note.new.to.me.0 c.load.new.seat.me c.pass_note.new.to.me.1 holding c.load.ensures.2 in
    let tables = c.pass_note-2.ensures.tables.0 ∙ (c.load.ensures.0 ∙ (c.pass_note.ensures.tables.1 ∙ c.trade.ensures.tables.0)) in
    ap₂ (λ t v. book_side t (ledger_of v)) tables (ap (λ m. m.0) c.pass_note-2.ensures.from ∙ wrote)
    ∙ (ap₂ (λ (x : BookSide) (k : CallerSide). record x {
      history = x.history ++ entry k.number
          (length k.mine) c.of.result.value c.args.reply ∷ [];
    }) c.book.view_is c.caller.view_is
    ∙ ap (λ key. record c.args.book.now {
      history = c.args.book.now.history ++ entry c.args.caller.now.number
          (length c.args.caller.now.mine) key c.args.reply ∷ [];
    }) c.of.ensures)

pub returns-clause-caller : goal.returns-clause-caller
returns-clause-caller c =
    let h = hand_of c.caller.inside.seat.me.0 in let b = ledger_of c.book.inside.seat.me.0 in
    let o : Offer = record { key = c.of.result; reply = c.args.reply } in
    let begun : h.phase ≡ Begun = ap (λ v. v.phase) c.caller.view_is ∙ c.requires.begun in
    let signed = signs_hand h b o c.trade.new.caller.me.0 c.compare_exchange_with.new.seat.me c.trade.new.caller.me.1 begun
    (ap (λ m. m.0) c.trade.ensures.caller) (c.compare_exchange_with.ensures.2 o refl) in
    let holding = holds_note h b o c.trade.new.book.me.0 c.compare_exchange_with.new.seat.me.0 c.pass_note.new.to.me.0
    (ap (λ m. m.0) c.trade.ensures.book) signed (ap (λ m. m.0) c.pass_note.ensures.to) in
    let wrote = writes h b o c.pass_note.new.to.me.0 c.load.new.seat.me c.pass_note.new.to.me.1 holding c.load.ensures.2 in
    let takes = takes_note h b o c.pass_note.new.from.me.0 c.load.new.seat.me.0 c.pass_note-2.new.to.me.0 (ap (λ m. m.0) c.pass_note.ensures.from
    ∙ signed) wrote (ap (λ m. m.0) c.pass_note-2.ensures.to) in
    let tables = c.pass_note-2.ensures.tables.1 ∙ (c.pass_note.ensures.tables.0 ∙ (c.compare_exchange_with.ensures.0 ∙ c.trade.ensures.tables.1)) in
    ap₂ (λ t v. caller_side t (hand_of v)) tables takes
    ∙ (ap (λ (k : CallerSide). record k {
      phase = Entered;
      mine = k.mine ++ entry k.number (length k.mine) c.of.result.value c.args.reply ∷ [];
    }) c.caller.view_is
    ∙ ap (λ key. record c.args.caller.now {
      phase = Entered;
      mine = c.args.caller.now.mine ++ entry c.args.caller.now.number (length c.args.caller.now.mine) key c.args.reply ∷ [];
    }) c.of.ensures)
