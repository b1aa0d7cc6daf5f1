use Rattle.std.proofs.Common.{◌≡◌}
use Rattle.symmetry.proofs.scalings.add_scalings_of.Given as goal

-- the representation and the mode stay
abbrev pub invariant-loop-factor : goal.invariant-loop-factor
invariant-loop-factor l = record { parent : l.found.parent ≡ l.fn.found.parent; mode : l.found.mode ≡ l.fn.found.mode }
