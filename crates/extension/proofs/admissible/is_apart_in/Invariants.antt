use Rattle.std.proofs.Common.{ℕ, ◌<◌, ◌||◌}
use Rattle.std.specs.Bool.{◌==◌}
use Rattle.matroid_theory.specs.Rep.{size}
use Rattle.matroid_theory.specs.Matroid.{IsIndependentIn}
use Rattle.matroid_theory.specs.Level.{followed_by}
use Rattle.extension.proofs.admissible.is_apart_in.Given as goal

-- the column is parallel to none before this one
abbrev pub invariant-loop-j : goal.invariant-loop-j
invariant-loop-j l = (j : ℕ) → j < l.j → IsIndependentIn (followed_by l.rep l.column.items) l.factor (λ k. (k == size l.rep) || (k == j))
