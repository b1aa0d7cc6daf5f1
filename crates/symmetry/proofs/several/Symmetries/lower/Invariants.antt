use Rattle.symmetry.proofs.Unique.{AreNotLower}
use Rattle.symmetry.proofs.several.Symmetries.lower.Given as goal

-- none of the images so far is below the column
abbrev pub invariant-loop-i : goal.invariant-loop-i
invariant-loop-i l = AreNotLower l.self l.column.items l.i
