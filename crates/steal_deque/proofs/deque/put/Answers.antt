use Rattle.steal_deque.proofs.Steps.{puts}
use Rattle.steal_deque.proofs.deque.put.Goals as goal

pub push_as-requires-clause-pushes : goal.push_as-requires-clause-pushes
push_as-requires-clause-pushes c = puts _ _ _ c.requires
