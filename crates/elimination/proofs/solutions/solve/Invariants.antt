use Rattle.std.proofs.Common.{length}
use Rattle.elimination.proofs.Coefficients.{IsReduced}
use Rattle.elimination.proofs.solutions.solve.Given as goal

abbrev pub invariant-loop-last : goal.invariant-loop-last
invariant-loop-last l = IsReduced l.field (length l.column.items) l.basis l.column.items l.rest.items l.target.items l.equations.items l.sides.items

abbrev pub decreases-loop-last : goal.decreases-loop-last
decreases-loop-last l = length l.rest.items
