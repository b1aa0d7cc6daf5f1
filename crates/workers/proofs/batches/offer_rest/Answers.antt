use Rattle.std.proofs.Common.{arith}
use Rattle.workers.proofs.Calls.{empty_with, rest_more}
use Rattle.workers.proofs.batches.offer_rest.Goals as goal

pub loop-stripe-preserved : goal.loop-stripe-preserved
loop-stripe-preserved g c =
    rest_more c.args.pass.now c.loop-stripe.pass c.offer_stripe.new.pass c.args.batches.now c.loop-stripe.batches c.offer_stripe.new.batches
    c.loop-stripe.stripe c.loop-stripe.invariant (let l = c.loop-stripe-test.true in let e = c.loop-stripe.auto.batches in omega arith)
    c.offer_stripe.ensures.emptied
    c.offer_stripe.ensures.same c.in_ok-offer_stripe.ensures.calls

pub returns-clause-calls : goal.returns-clause-calls
returns-clause-calls g c = λ k.
    let i = c.loop-stripe.invariant in
    let none = empty_with k c.loop-stripe.batches
    (λ s l. i.empty s (let d = c.loop-stripe-test.false in let e = c.loop-stripe.auto.batches in omega arith)) in
    let b = i.calls k in omega arith
