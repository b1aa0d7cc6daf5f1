use Rattle.std.proofs.Common.{◌-◌}
use Rattle.matroid_theory.specs.Rep.{count}
use Rattle.fast_form.proofs.OwnForms.{IsNotAboveBelow}
use Rattle.fast_form.proofs.own.+is_least_from.Given as goal

abbrev pub decreases-is_least_from : goal.decreases-is_least_from
decreases-is_least_from l = count l.rep.now - l.factor

-- nothing lower by the powers below this one
abbrev pub invariant-loop-power : goal.invariant-loop-power
invariant-loop-power l = IsNotAboveBelow l.factor l.power l.least l.rep
