use Rattle.steal_pool.proofs.Stays.{pool_stays}
use Rattle.thread_tests.proofs.pools.times_taken.Goals as goal

pub finish-requires : goal.finish-requires
finish-requires g c = pool_stays _ _ c.in_ok-shifts.ensures.pool c.take_in_threads.ensures.same
