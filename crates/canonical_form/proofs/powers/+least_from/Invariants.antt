use Rattle.std.proofs.Common.{◌-◌}
use Rattle.matroid_theory.specs.Rep.{count}
use Rattle.matroid_laws.proofs.Semilinear.{IsLeastBelow}
use Rattle.canonical_form.proofs.powers.+least_from.Given as goal

abbrev pub decreases-least_from : goal.decreases-least_from
decreases-least_from l = count l.rep.now - l.factor

-- the least over the powers below this one
abbrev pub invariant-loop-power : goal.invariant-loop-power
invariant-loop-power l = IsLeastBelow l.factor l.power l.rep l.best
