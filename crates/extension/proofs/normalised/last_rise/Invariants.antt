use Rattle.std.proofs.Common.{◌≤◌, ◌<◌, ℕ}
use Rattle.extension.specs.Steps.{CanRise}
use Rattle.extension.proofs.normalised.last_rise.Given as goal

-- at the places from this one on the code can't rise
abbrev pub invariant-loop-place : goal.invariant-loop-place
invariant-loop-place l = (p : ℕ) → l.place ≤ p → p < l.width → ¬ (CanRise l.factors l.lead l.column p)
