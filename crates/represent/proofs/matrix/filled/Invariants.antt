use Rattle.std.proofs.Common.{◌≡◌}
use Rattle.represent.specs.Sought.{matroid_of}
use Rattle.represent.specs.Filled.{filled}
use Rattle.represent.proofs.matrix.filled.Given as goal

-- the columns before this one
abbrev pub invariant-loop-j : goal.invariant-loop-j
invariant-loop-j l = l.rep ≡ filled l.target.order (record (matroid_of l.target) { size = l.j }) l.codes.items
