use Rattle.std.proofs.Common.{length}
use Rattle.steal_pool.proofs.GivenBack.{IsRowBack}
use Rattle.steal_pool.proofs.giving_back.give_row.Given as goal

abbrev pub invariant-loop-seat : goal.invariant-loop-seat
invariant-loop-seat l = IsRowBack l.number l.initial.owners l.owners l.initial.row.items l.row.items

abbrev pub decreases-loop-seat : goal.decreases-loop-seat
decreases-loop-seat l = length l.row.items
