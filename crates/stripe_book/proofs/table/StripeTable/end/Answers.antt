use Rattle.std.proofs.Common.{ap, sym, subst, ◌∙◌}
use mathlib.Core.Option.{some}
use Rattle.histories.specs.History.{IsLegal}
use Rattle.stripe_book.specs.Seen.{ledger_of, OwnCalls, OfCallersBelow, SawBeginnings}
use Rattle.stripe_book.proofs.Ending.{ends_legal, ends_calls, ends_below, ends_seen}
use Rattle.stripe_book.proofs.table.StripeTable.end.Goals as goal

pub returns-clause-legal : goal.returns-clause-legal
returns-clause-legal c =
    let f = c.close_with.ensures.values.2 in let b = ledger_of c.book.inside.seat.me.0 in
    subst (λ m. IsLegal (ledger_of m.me.0).history) (sym c.of-last.ensures)
    (ends_legal c.self.inside.table.shared.key f.0.words f.0.views f.1.0.0 f.1.0.1 c.book.inside.seat.id b (f.1.1 ∙ ap some c.book.invariant.view))

pub returns-clause-calls : goal.returns-clause-calls
returns-clause-calls c =
    let f = c.close_with.ensures.values.2 in let b = ledger_of c.book.inside.seat.me.0 in
    subst (λ m. OwnCalls (ledger_of m.me.0).history (ledger_of m.me.0).left) (sym c.of-last.ensures)
    (ends_calls c.self.inside.table.shared.key f.0.words f.0.views f.1.0.0 f.1.0.1 c.book.inside.seat.id b (f.1.1 ∙ ap some c.book.invariant.view))

pub returns-clause-seen : goal.returns-clause-seen
returns-clause-seen c =
    let f = c.close_with.ensures.values.2 in let b = ledger_of c.book.inside.seat.me.0 in
    subst (λ m. SawBeginnings (ledger_of m.me.0).history (ledger_of m.me.0).left) (sym c.of-last.ensures)
    (ends_seen c.self.inside.table.shared.key f.0.words f.0.views f.1.0.0 f.1.0.1 c.book.inside.seat.id b (f.1.1 ∙ ap some c.book.invariant.view))

pub returns-clause-callers : goal.returns-clause-callers
returns-clause-callers c =
    let f = c.close_with.ensures.values.2 in let b = ledger_of c.book.inside.seat.me.0 in
    subst (λ m. OfCallersBelow c.args.self.callers (ledger_of m.me.0).history) (sym c.of-last.ensures)
    (subst (λ t. OfCallersBelow t.callers b.history) c.self.view_is
    (ends_below c.self.inside.table.shared.key f.0.words f.0.views f.1.0.0 f.1.0.1 c.book.inside.seat.id b (f.1.1 ∙ ap some c.book.invariant.view)))
