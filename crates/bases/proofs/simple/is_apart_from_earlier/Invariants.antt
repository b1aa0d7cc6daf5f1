use Rattle.std.proofs.Common.{ℕ, ◌<◌, ◌||◌}
use Rattle.std.specs.Bool.{◌==◌}
use Rattle.matroid_theory.specs.Matroid.{IsIndependentIn}
use Rattle.bases.proofs.simple.is_apart_from_earlier.Given as goal

-- each set of this column and one before it is independent
abbrev pub invariant-loop-i : goal.invariant-loop-i
invariant-loop-i l = (i : ℕ) → i < l.i → IsIndependentIn l.rep l.factor (λ k. (k == i) || (k == l.fn.j))
