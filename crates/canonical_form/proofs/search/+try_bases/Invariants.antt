use Rattle.std.proofs.Common.{◌-◌, length}
use Rattle.canonical_form.proofs.SearchSteps.{IsGoneThroughBelow}
use Rattle.canonical_form.proofs.search.+try_bases.Given as goal

abbrev pub decreases-try_bases : goal.decreases-try_bases
decreases-try_bases l = l.rep.now.rank - length l.columns.items

abbrev pub invariant-loop-j : goal.invariant-loop-j
invariant-loop-j l = IsGoneThroughBelow l.rep l.columns.items l.j l.fn.best l.best
