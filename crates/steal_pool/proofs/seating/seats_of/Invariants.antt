use Rattle.std.proofs.Common.{◌+◌, ◌-◌, length}
use Rattle.steal_pool.proofs.Rows.{upper, lower}
use Rattle.steal_pool.proofs.Round.{IsRound}
use Rattle.steal_pool.proofs.seating.seats_of.Given as goal

abbrev pub invariant-loop-d : goal.invariant-loop-d
invariant-loop-d l = IsRound l.number (l.d - l.number - 1) (upper l.number l.d) l.initial.owners l.owners l.row.items

abbrev pub invariant-loop-d-2 : goal.invariant-loop-d-2
invariant-loop-d-2 l = IsRound l.number (length l.fn.owners - l.number - 1 + l.d) (lower l.number l.d) l.fn.owners l.owners l.row.items
