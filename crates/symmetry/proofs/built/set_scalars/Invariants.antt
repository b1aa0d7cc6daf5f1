use Rattle.std.proofs.Common.{◌≡◌}
use Rattle.symmetry.proofs.built.set_scalars.Given as goal

-- the shape stays
abbrev pub invariant-loop-factor : goal.invariant-loop-factor
invariant-loop-factor l = l.step.shape ≡ l.fn.step.shape
