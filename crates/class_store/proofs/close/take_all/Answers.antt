use Rattle.std.proofs.Common.{◌≡◌, ◌+◌, ap, subst, slice_get, Some, arith}
use Rattle.class_store.proofs.Closing.{not_held, one_more_held, one_more_taken}
use Rattle.class_store.proofs.close.take_all.Goals as goal

pub lock-requires-clause-free : goal.lock-requires-clause-free
lock-requires-clause-free g c = not_held c.loop-at.turn.held c.loop-at.at (ap (λ t. t.held) c.loop-at.invariant.0)

pub loop-at-preserved : goal.loop-at-preserved
loop-at-preserved g c =
    let i = c.loop-at.invariant in
    let here = subst (λ t. slice_get t.tables c.loop-at.at ≡ Some c.lock.result.book.table) i.0 c.lock.ensures.book in (
      one_more_held c.args.turn c.lock.new.turn c.loop-at.turn c.loop-at.at (c.loop-at.at + 1) i.0 c.lock.ensures.held (omega arith),
      one_more_taken c.args.turn.tables c.loop-at.taken.items c.push_reserved.new.self.items c.loop-at.at
          (c.loop-at.at + 1) c.lock.result i.1 c.push_reserved.ensures.items here (omega arith),
      omega arith,
      omega arith,
    )
