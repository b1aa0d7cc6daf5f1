use Rattle.steal_pool.specs.Shift.{StaysInPool}
use Rattle.thread_tests.proofs.pools.take_all.Given as goal

abbrev pub invariant-loop : goal.invariant-loop
invariant-loop g l = record {
  same : StaysInPool l.initial.shift l.shift;
  can_next : (goal.iterator-loop g).can_next l.iterator';
  finite : (goal.iterator-loop g).is_finite l.iterator';
}
