use Rattle.std.proofs.Common.{ℕ, ◌<◌, ◌||◌}
use Rattle.std.specs.Bool.{◌==◌}
use Rattle.matroid_theory.specs.Rep.{size}
use Rattle.matroid_theory.specs.Matroid.{IsIndependentIn}
use Rattle.matroid_theory.specs.Level.{followed_by}
use Rattle.extension.proofs.admissible.is_apart.Given as goal

-- in the factors before this one the column is parallel to none
abbrev pub invariant-loop-factor : goal.invariant-loop-factor
invariant-loop-factor l = (f : ℕ) → f < l.factor → (j : ℕ) → j < size l.rep →
    IsIndependentIn (followed_by l.rep l.column.items) f (λ k. (k == size l.rep) || (k == j))
