use Rattle.std.proofs.Common.{◌*◌, ◌-◌, length}
use Rattle.matroid_theory.specs.Rep.{count}
use Rattle.canonical_form.proofs.SearchSteps.{IsTriedBelow}
use Rattle.canonical_form.proofs.scalars.+try_scalars.Given as goal

abbrev pub decreases-try_scalars : goal.decreases-try_scalars
decreases-try_scalars l = l.rep.now.rank * count l.rep.now - length l.scalars.now.items

abbrev pub invariant-loop-code : goal.invariant-loop-code
invariant-loop-code l = IsTriedBelow l.rep l.frame.basis.items l.scalars.items l.code l.fn.best l.best
