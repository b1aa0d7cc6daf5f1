use Rattle.std.proofs.Common.{◌≡◌}
use Rattle.symmetry.proofs.built.set_matrices.Given as goal

-- the shape stays
abbrev pub invariant-loop-j : goal.invariant-loop-j
invariant-loop-j l = l.step.shape ≡ l.fn.step.shape
