use Rattle.std.proofs.Common.{length}
use Rattle.steal_pool.proofs.GivenBack.{AreRowsBack}
use Rattle.steal_pool.proofs.giving_back.give_rows.Given as goal

abbrev pub invariant-loop-row : goal.invariant-loop-row
invariant-loop-row l = AreRowsBack l.initial.owners l.owners l.initial.rows.items l.rows.items

abbrev pub decreases-loop-row : goal.decreases-loop-row
decreases-loop-row l = length l.rows.items
