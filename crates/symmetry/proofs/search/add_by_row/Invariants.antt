use Rattle.std.proofs.Common.{◌≡◌}
use Rattle.symmetry.proofs.search.add_by_row.Given as goal

-- the representation and the mode stay
abbrev pub invariant-loop-element : goal.invariant-loop-element
invariant-loop-element l = record { parent : l.found.parent ≡ l.fn.found.parent; mode : l.found.mode ≡ l.fn.found.mode }
