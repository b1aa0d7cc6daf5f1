use Rattle.std.proofs.Common.{◌≡◌}
use Rattle.symmetry.proofs.built.set_column.Given as goal

-- the shape stays
abbrev pub invariant-loop-i : goal.invariant-loop-i
invariant-loop-i l = l.step.shape ≡ l.fn.step.shape
