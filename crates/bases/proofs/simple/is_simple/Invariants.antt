use Rattle.std.proofs.Common.{ℕ, ◌<◌, ◌||◌}
use Rattle.std.specs.Bool.{◌==◌}
use Rattle.matroid_theory.specs.Rep.{size}
use Rattle.matroid_theory.specs.Matroid.{IsIndependentIn}
use Rattle.bases.proofs.simple.is_simple.Given as goal

-- in the factors before this one each set of one or two columns is independent
abbrev pub invariant-loop-factor : goal.invariant-loop-factor
invariant-loop-factor l = (f : ℕ) → f < l.factor → (i j : ℕ) → i < size l.rep → j < size l.rep → IsIndependentIn l.rep f (λ k. (k == i) || (k == j))
