use Rattle.std.proofs.Common.{◌≡◌}
use Rattle.matroid_theory.specs.Rep.{shape}
use Rattle.symmetry.proofs.built.move_by.Given as goal

-- the shape stays
abbrev pub invariant-loop-from : goal.invariant-loop-from
invariant-loop-from l = l.step.shape ≡ shape l.rep
