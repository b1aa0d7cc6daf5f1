use Rattle.std.proofs.Common.{ℕ, ◌-◌, ◌<◌, length}
use Rattle.matroid_theory.specs.Minor.{AreIsomorphicBy}
use Rattle.base_iso.specs.Started.{Begins}
use Rattle.base_iso.proofs.search.+try_labels.Given as goal

abbrev pub decreases-try_labels : goal.decreases-try_labels
decreases-try_labels l = l.a.now.size - length l.labels.items

-- no isomorphism gives the next element a label before this one
abbrev pub invariant-loop-label : goal.invariant-loop-label
invariant-loop-label l = (p u : ℕ → ℕ) → Begins l.labels.items p → p (length l.labels.items) < l.label → ¬ (AreIsomorphicBy l.a l.b p u)
