use Rattle.steal_pool.proofs.Stays.{stays_more}
use Rattle.thread_tests.proofs.pools.take_all.Goals as goal

pub returns-in_default-clause-same : goal.returns-in_default-clause-same
returns-in_default-clause-same g c = stays_more _ _ _ c.loop.invariant.same c.next-in-loop.ensures.same
