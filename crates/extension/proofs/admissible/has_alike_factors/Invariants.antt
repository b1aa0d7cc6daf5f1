use Rattle.std.proofs.Common.{◌≡◌, ◌+◌, ◌^◌, ◌<◌, ◌↔◌, ℕ}
use Rattle.matroid_theory.specs.Matrix.{size_below}
use Rattle.matroid_theory.specs.Rep.{size}
use Rattle.matroid_theory.specs.Matroid.{members, IsIndependentIn}
use Rattle.extension.specs.Steps.{with_new}
use Rattle.extension.proofs.admissible.has_alike_factors.Given as goal

-- the factors before this one are as the first
abbrev pub invariant-loop-factor : goal.invariant-loop-factor
invariant-loop-factor l = (f : ℕ) → f < l.factor → (X : ℕ) → X < 2 ^ size l.rep → size_below (size l.rep) (members X) + 1 ≡ l.rep.rank →
    (IsIndependentIn l.longer 0 (with_new l.rep (members X)) ↔ IsIndependentIn l.longer f (with_new l.rep (members X)))
