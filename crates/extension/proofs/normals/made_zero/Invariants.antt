use Rattle.std.proofs.Common.{◌≡◌, length}
use Rattle.elimination.specs.Columns.{AreColumns}
use Rattle.extension.proofs.normals.made_zero.Given as goal

-- the rows before this one
abbrev pub invariant-loop-other : goal.invariant-loop-other
invariant-loop-other l = record { count : length l.less.items ≡ l.other-index; rows : AreColumns l.field l.rank l.less.items }
