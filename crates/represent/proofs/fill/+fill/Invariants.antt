use Rattle.std.proofs.Common.{◌-◌, ◌<◌, length}
use Rattle.matroid_theory.specs.Rep.{Rep, matrix}
use Rattle.represent.specs.Sought.{matroid_of, cells}
use Rattle.represent.specs.Filled.{row_at, column_at}
use Rattle.represent.specs.Completions.{CompletesCodes}
use Rattle.represent.proofs.fill.+fill.Given as goal

abbrev pub decreases-fill : goal.decreases-fill
decreases-fill l = cells (matroid_of l.target.now) - length l.codes.items

-- no completion has a code below this one at the next place
abbrev pub invariant-loop-code : goal.invariant-loop-code
invariant-loop-code l =
    (K : Rep) → CompletesCodes l.target.order (matroid_of l.target) l.codes.items K
    → ¬ (matrix K 0 (row_at l.target.rank (length l.codes.items)) (column_at l.target.rank (length l.codes.items)) < l.code)
