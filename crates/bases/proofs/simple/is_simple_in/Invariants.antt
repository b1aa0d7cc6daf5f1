use Rattle.std.proofs.Common.{ℕ, ◌<◌, ◌≤◌, ◌||◌}
use Rattle.std.specs.Bool.{◌==◌}
use Rattle.matroid_theory.specs.Matroid.{IsIndependentIn}
use Rattle.bases.proofs.simple.is_simple_in.Given as goal

-- each set of one or two columns before this one is independent
abbrev pub invariant-loop-j : goal.invariant-loop-j
invariant-loop-j l = (j : ℕ) → j < l.j → (i : ℕ) → i ≤ j → IsIndependentIn l.rep l.factor (λ k. (k == i) || (k == j))
