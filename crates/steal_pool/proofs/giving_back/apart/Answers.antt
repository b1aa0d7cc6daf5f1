use Rattle.std.proofs.Common.{arith}
use Rattle.steal_pool.proofs.GivenBack.{room_for}
use Rattle.steal_pool.proofs.giving_back.apart.Goals as goal

pub push-requires : goal.push-requires
push-requires c = let l = room_for _ _ _ _ _ _ c.loop-shift.invariant.owners c.in-Some.ensures.steps.0 in (omega arith, omega arith)

pub push-requires-in-loop-shift : goal.push-requires-in-loop-shift
push-requires-in-loop-shift c = let l = room_for _ _ _ _ _ _ c.loop-shift.invariant.rows c.in-Some.ensures.steps.0 in (omega arith, omega arith)
