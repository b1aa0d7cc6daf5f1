use Rattle.std.proofs.Common.{arith}
use Rattle.steal_pool.proofs.GivenBack.{learned_more}
use Rattle.steal_pool.proofs.giving_back.learn_all.Goals as goal

pub loop-place-preserved : goal.loop-place-preserved
loop-place-preserved c =
    let l = learned_more _ _ _ c.place-item.result c.learn.new.place (c.loop-place.invariant.same, c.loop-place.invariant.learned)
    (omega arith) c.learn.ensures.same c.learn.ensures.learned in
    record { same = l.0; learned = l.1 }
