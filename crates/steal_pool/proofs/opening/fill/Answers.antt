use Rattle.std.proofs.Common.{refl, arith}
use Rattle.steal_pool.proofs.Shifts.{part_next, part_shift, shifts_more, shifts_pool, shifts_new, shifts_parents, are_pool}
use Rattle.steal_pool.proofs.opening.fill.Goals as goal

pub invariant_of-push : goal.invariant_of-push
invariant_of-push c =
    let p = part_next _ _ _ _ _ _ _ _ _ _ _ c.in-Some.own c.in-Some-next.others c.loop-number.invariant c.in-Some.ensures.items c.in-Some-next.ensures.items in
    record { kept = part_shift _ _ _ _ c.in-Some.own c.in-Some-next.others c.requires.1 p; fifo = p.fifo }

pub loop-number-preserved : goal.loop-number-preserved
loop-number-preserved c = shifts_more _ _ _ _ _ _ _ _ _ _ _ _ _ c.loop-number.invariant c.in-Some.ensures.items c.in-Some-next.ensures.items
    (refl, refl, refl, refl) c.in_ok-push.ensures.items

pub returns-clause-pool : goal.returns-clause-pool
returns-clause-pool c =
    let e = c.loop-number.auto.number-end in let f = c.loop-number-test.false in let r = c.requires in
    are_pool _ _ _ (shifts_pool _ _ _ c.requires.0 c.requires.1 _ _ _ _ _ _ c.loop-number.invariant (omega arith) refl)
    (shifts_parents _ _ _ _ _ _ _ _ _ c.loop-number.invariant (omega arith))

pub returns-clause-parents : goal.returns-clause-parents
returns-clause-parents c = let e = c.loop-number.auto.number-end in let f = c.loop-number-test.false in let r = c.requires in
    shifts_parents _ _ _ _ _ _ _ _ _ c.loop-number.invariant (omega arith)

pub returns-clause-new : goal.returns-clause-new
returns-clause-new c = let e = c.loop-number.auto.number-end in let f = c.loop-number-test.false in
    shifts_new _ _ _ _ _ _ _ _ _ c.loop-number.invariant (omega arith)
