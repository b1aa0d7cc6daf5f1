use Rattle.std.proofs.Common.{◌≡◌, length}
use Rattle.elimination.specs.Columns.{AreColumns}
use Rattle.extension.proofs.normals.normal.Given as goal

-- the unit rows before this one
abbrev pub invariant-loop-j : goal.invariant-loop-j
invariant-loop-j l = record { count : length l.rows.items ≡ l.j; rows : AreColumns l.field l.rep.rank l.rows.items }

abbrev pub invariant-loop-j-2 : goal.invariant-loop-j-2
invariant-loop-j-2 l = AreColumns l.field l.rep.rank l.rows.items
