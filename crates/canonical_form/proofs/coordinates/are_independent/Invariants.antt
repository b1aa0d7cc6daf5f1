use Rattle.std.proofs.Common.{◌<◌, ℕ, length, true}
use Rattle.matroid_theory.specs.Matrix.{IsIndependent}
use Rattle.matroid_theory.specs.Rep.{order}
use Rattle.canonical_form.specs.Search.{chosen}
use Rattle.canonical_form.proofs.coordinates.are_independent.Given as goal

-- the columns are independent in the factors before this one
abbrev pub invariant-loop-factor : goal.invariant-loop-factor
invariant-loop-factor l = (f : ℕ) → f < l.factor → IsIndependent (order l.rep f) l.rep.rank (length l.columns) (chosen l.rep l.columns f) (λ _. true)
