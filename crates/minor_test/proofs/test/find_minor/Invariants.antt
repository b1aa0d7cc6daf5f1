use Rattle.std.proofs.Common.{ℕ, ◌<◌}
use Rattle.matroid_theory.specs.Matroid.{members}
use Rattle.matroid_theory.specs.Minor.{IsMinorBy}
use Rattle.minor_test.specs.Twins.{KeepsOrder}
use Rattle.minor_test.proofs.test.find_minor.Given as goal

-- none with a set before this one
abbrev pub invariant-loop-set : goal.invariant-loop-set
invariant-loop-set l = (X : ℕ) → X < l.set → (f : ℕ → ℕ) → KeepsOrder l.twins.items f → ¬ (IsMinorBy l.sought l.whole f (members X))
