use Rattle.std.proofs.Common.{arith, refl, subst, ◌∙◌}
use Rattle.class_store.specs.Batches.{SomeIsMissing}
use Rattle.class_store.proofs.Batching.{missing_before}
use Rattle.class_store.proofs.offer_batch.offered_batch.Goals as goal

pub returns-in-Err-clause-refused : goal.returns-in-Err-clause-refused
returns-in-Err-clause-refused c =
    let m = c.room_for-more.ensures.missing (omega (arith, c.in-Err.ensures.err.0)) in
    let all = subst (λ l. SomeIsMissing l c.args.stripe.set.keys) (c.as_slice.ensures.value ∙ c.keys.view_is) m in (
      refl,
      c.look.ensures.caller,
      missing_before c.args.keys c.args.stripe.set.keys c.args.caller.now.seen c.args.stripe.book.history all
          c.args.stripe.replayed c.look.ensures.seen,
    )
