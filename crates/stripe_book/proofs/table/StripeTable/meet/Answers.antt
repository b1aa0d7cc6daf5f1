use Rattle.std.proofs.Common.{rules, ◌≡◌, ap, ◌∙◌, sym, refl, subst, inl, []}
use mathlib.Core.List.{IsPrefix}
use Rattle.stripe_book.specs.declared.view.Phase.TheVariants.{Entered}
use Rattle.stripe_book.specs.declared.view.View.TheVariants.{Calls}
use Rattle.histories.specs.History.{calls_by}
use Rattle.stripe_book.specs.Rule.{hand}
use Rattle.stripe_book.specs.Seen.{hand_of, ledger_of, IsCaller, Settled}
use Rattle.stripe_book.specs.Steps.{Trades, traded, met}
use Rattle.stripe_book.proofs.Talks.{meets_at}
use Rattle.stripe_book.proofs.Entering.{caller_at}
use Rattle.stripe_book.proofs.Meeting.{meets_seen, meets_calls, traded_hand}
use Rattle.stripe_book.proofs.table.StripeTable.meet.Goals as goal

pub load-requires : goal.load-requires
load-requires c = (search rules, search rules, meets_at _ _ _ _ _ c.caller.invariant.view)

pub invariant_of-caller : goal.invariant_of-caller
invariant_of-caller c =
    let h = hand_of c.caller.inside.seat.me.0 in let history = (ledger_of c.book.inside.seat.me.0).history in let is = c.caller.invariant in
    let entered : h.phase ≡ Entered = ap (λ v. v.phase) c.caller.view_is ∙ c.requires.entered in
    let shows : Trades (met h) history = subst (λ m. Trades (hand_of m.0) history) c.load.ensures.2.0 c.trade.ensures.shows in
    let settled : Settled Entered c.caller.inside.number h.trace.seen h.trace.mine h.notes = subst
    (λ p. Settled p c.caller.inside.number h.trace.seen h.trace.mine h.notes) entered is.settled in
    let all = meets_calls h history entered c.load.ensures.2.1 shows
    (subst (λ n. Settled Entered n h.trace.seen h.trace.mine h.notes) (sym is.named) settled) in
    subst (λ t. IsCaller c.caller.inside.number t.words c.trade.new.caller.me) (sym (c.trade.ensures.tables.1 ∙ c.load.ensures.0))
    (caller_at _ _ c.caller.inside.seat.me c.trade.new.caller.me (hand h.trace.number Entered history h.trace.mine []) is
    (ap (λ m. m.0) c.trade.ensures.caller ∙ (ap (λ m. Calls (traded (hand_of m.0) history)) c.load.ensures.2.0
    ∙ ap Calls (traded_hand h history entered c.load.ensures.2.1 shows)))
    (ap (λ m. m.1) c.trade.ensures.caller) is.named
    (inl (refl, subst (λ n. calls_by n history ≡ h.trace.mine) is.named all)))

pub returns-clause-seen : goal.returns-clause-seen
returns-clause-seen c =
    let h = hand_of c.caller.inside.seat.me.0 in let history = (ledger_of c.book.inside.seat.me.0).history in
    let entered : h.phase ≡ Entered = ap (λ v. v.phase) c.caller.view_is ∙ c.requires.entered in
    let shows : Trades (met h) history = subst (λ m. Trades (hand_of m.0) history) c.load.ensures.2.0 c.trade.ensures.shows in
    subst (λ v. IsPrefix v.seen c.args.book.now.history) c.caller.view_is
    (subst (λ b. IsPrefix h.trace.seen b.history) c.book.view_is (meets_seen h history entered c.load.ensures.2.1 shows))

pub returns-clause-calls : goal.returns-clause-calls
returns-clause-calls c =
    let h = hand_of c.caller.inside.seat.me.0 in let history = (ledger_of c.book.inside.seat.me.0).history in let is = c.caller.invariant in
    let entered : h.phase ≡ Entered = ap (λ v. v.phase) c.caller.view_is ∙ c.requires.entered in
    let shows : Trades (met h) history = subst (λ m. Trades (hand_of m.0) history) c.load.ensures.2.0 c.trade.ensures.shows in
    let settled : Settled Entered c.caller.inside.number h.trace.seen h.trace.mine h.notes = subst
    (λ p. Settled p c.caller.inside.number h.trace.seen h.trace.mine h.notes) entered is.settled in
    let all = meets_calls h history entered c.load.ensures.2.1 shows
    (subst (λ n. Settled Entered n h.trace.seen h.trace.mine h.notes) (sym is.named) settled) in
    subst (λ v. calls_by v.number c.args.book.now.history ≡ v.mine) c.caller.view_is
    (subst (λ b. calls_by h.trace.number b.history ≡ h.trace.mine) c.book.view_is all)
