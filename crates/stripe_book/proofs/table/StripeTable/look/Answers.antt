use Rattle.std.proofs.Common.{◌≡◌, ap, ◌∙◌, subst}
use Rattle.histories.specs.History.{calls_by}
use Rattle.stripe_book.specs.Seen.{hand_of, ledger_of}
use Rattle.stripe_book.proofs.Talks.{idle_trade}
use Rattle.stripe_book.proofs.table.StripeTable.look.Goals as goal

pub returns-clause-calls : goal.returns-clause-calls
returns-clause-calls c =
    let h = hand_of c.caller.inside.seat.me.0 in
    subst (λ v. calls_by v.number c.args.book.now.history ≡ v.mine) c.caller.view_is
    (subst (λ b. calls_by h.trace.number b.history ≡ h.trace.mine) c.book.view_is
    (idle_trade h (ledger_of c.book.inside.seat.me.0).history (ap (λ v. v.phase) c.caller.view_is ∙ c.requires.idle) c.trade.ensures.shows))
