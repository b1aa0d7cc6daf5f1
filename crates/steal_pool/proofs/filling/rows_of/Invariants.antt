use Rattle.std.proofs.Common.{length}
use Rattle.steal_pool.proofs.Filled.{RowsSoFar}
use Rattle.steal_pool.proofs.filling.rows_of.Given as goal

abbrev pub invariant-loop-number : goal.invariant-loop-number
invariant-loop-number l = RowsSoFar (length l.initial.owners) l.parents l.number l.initial.owners l.owners l.rows.items
