use Rattle.steal_deque.proofs.Steps.{forks}
use Rattle.steal_deque.proofs.deque.hand_out.Goals as goal

pub another-requires : goal.another-requires
another-requires c = forks _ _ c.requires
