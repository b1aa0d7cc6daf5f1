use Rattle.std.proofs.Common.{◌≡◌, ap, ap₂, sym, subst, ◌∙◌, ◌∷◌, ◌++◌, [], length}
use Rattle.histories.specs.History.{calls_by, entry}
use Rattle.stripe_book.specs.declared.view.Phase.TheVariants.{Idle}
use Rattle.stripe_book.specs.Seen.{BookSide, CallerSide}
use Rattle.class_store.proofs.offer.enter_call.Goals as goal

pub enter-requires-clause-caller_table : goal.enter-requires-clause-caller_table
enter-requires-clause-caller_table c = ap (λ (k : CallerSide). k.table) c.begin_call.ensures ∙ c.requires.caller_table

pub enter-requires-clause-begun : goal.enter-requires-clause-begun
enter-requires-clause-begun c = ap (λ (k : CallerSide). k.phase) c.begin_call.ensures

pub meet-requires-clause-book_table : goal.meet-requires-clause-book_table
meet-requires-clause-book_table c = ap (λ (b : BookSide). b.table) c.enter.ensures.book ∙ c.requires.book_table

pub meet-requires-clause-caller_table : goal.meet-requires-clause-caller_table
meet-requires-clause-caller_table c = ap (λ (k : CallerSide). k.table) c.enter.ensures.caller
    ∙ (ap (λ (k : CallerSide). k.table) c.begin_call.ensures ∙ c.requires.caller_table)

pub meet-requires-clause-entered : goal.meet-requires-clause-entered
meet-requires-clause-entered c = ap (λ (k : CallerSide). k.phase) c.enter.ensures.caller

pub seal-requires-clause-table : goal.seal-requires-clause-table
seal-requires-clause-table c = ap (λ (k : CallerSide). k.table) c.meet.ensures.caller
    ∙ (ap (λ (k : CallerSide). k.table) c.enter.ensures.caller
    ∙ (ap (λ (k : CallerSide). k.table) c.begin_call.ensures ∙ c.requires.caller_table))

pub seal-requires-clause-entered : goal.seal-requires-clause-entered
seal-requires-clause-entered c = ap (λ (k : CallerSide). k.phase) c.meet.ensures.caller ∙ ap (λ (k : CallerSide). k.phase) c.enter.ensures.caller

pub seal-requires-clause-seen : goal.seal-requires-clause-seen
seal-requires-clause-seen c = subst (λ (k : CallerSide). calls_by k.number k.seen ≡ k.mine) (sym c.meet.ensures.caller) c.meet.ensures.calls

pub returns-clause-book : goal.returns-clause-book
returns-clause-book c = c.meet.ensures.book ∙ (c.enter.ensures.book
    ∙ ap (λ (k : CallerSide). record c.args.book.now {
      history = c.args.book.now.history ++ entry k.number (length k.mine) c.args.key.now c.args.reply ∷ [];
    }) c.begin_call.ensures)

pub returns-clause-caller : goal.returns-clause-caller
returns-clause-caller c = c.seal.ensures
    ∙ (ap (λ (k : CallerSide). record k { phase = Idle }) c.meet.ensures.caller
    ∙ (ap₂ (λ (k : CallerSide) h. record k { phase = Idle; seen = h }) c.enter.ensures.caller (ap (λ (b : BookSide). b.history) c.enter.ensures.book)
    ∙ ap (λ (k : CallerSide). record k {
      phase = Idle;
      seen = c.args.book.now.history ++ entry k.number (length k.mine) c.args.key.now c.args.reply ∷ [];
      mine = k.mine ++ entry k.number (length k.mine) c.args.key.now c.args.reply ∷ [];
    }) c.begin_call.ensures))

pub returns-clause-calls : goal.returns-clause-calls
returns-clause-calls c = subst (λ (k : CallerSide). calls_by k.number k.seen ≡ k.mine)
    (sym (c.seal.ensures ∙ ap (λ (k : CallerSide). record k { phase = Idle }) c.meet.ensures.caller)) c.meet.ensures.calls
