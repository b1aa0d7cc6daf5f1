use Rattle.std.proofs.Common.{◌≡◌}
use Rattle.symmetry.proofs.scalings.add_scalings_in.Given as goal

-- the representation and the mode stay
abbrev pub invariant-loop-code : goal.invariant-loop-code
invariant-loop-code l = record { parent : l.found.parent ≡ l.fn.found.parent; mode : l.found.mode ≡ l.fn.found.mode }
