use Rattle.steal_pool.proofs.Filled.{OwnersSoFar}
use Rattle.steal_pool.proofs.filling.owners_of.Given as goal

abbrev pub invariant-loop-number : goal.invariant-loop-number
invariant-loop-number l = OwnersSoFar l.workers l.parents l.number l.owners.items
