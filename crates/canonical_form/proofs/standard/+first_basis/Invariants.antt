use Rattle.std.proofs.Common.{◌-◌, length, None}
use Rattle.canonical_form.proofs.SearchSteps.{IsGoneThroughBelow}
use Rattle.canonical_form.proofs.standard.+first_basis.Given as goal

abbrev pub decreases-first_basis : goal.decreases-first_basis
decreases-first_basis l = l.rep.now.rank - length l.columns.items

-- nothing is reached whose next column is before this one
abbrev pub invariant-loop-j : goal.invariant-loop-j
invariant-loop-j l = IsGoneThroughBelow l.rep l.columns.items l.j None None
