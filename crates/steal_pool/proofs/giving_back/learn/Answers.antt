use Rattle.steal_deque.proofs.Steps.{learns}
use Rattle.steal_pool.proofs.giving_back.learn.Goals as goal

pub len_as-requires : goal.len_as-requires
len_as-requires c = learns _ _
