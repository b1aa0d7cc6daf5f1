use Rattle.std.proofs.Common.{◌≡◌}
use Rattle.symmetry.proofs.scalings.add_scalings.Given as goal

-- the representation and the mode stay
abbrev pub invariant-loop-row : goal.invariant-loop-row
invariant-loop-row l = record { parent : l.found.parent ≡ l.fn.found.parent; mode : l.found.mode ≡ l.fn.found.mode }
