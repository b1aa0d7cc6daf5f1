use Rattle.std.proofs.Common.{◌<◌, ℕ}
use Rattle.product_rep.specs.Valid.{block, IsUnitRow}
use Rattle.product_rep.proofs.matrices.has_unit_rows.Given as goal

-- the rows before this one are those of the identity matrix
abbrev pub invariant-loop-i : goal.invariant-loop-i
invariant-loop-i l = (i : ℕ) → i < l.i →
    IsUnitRow l.field l.left.rank (block l.left.rank l.left.factor l.left.codes.now) (block l.right.rank l.right.factor l.right.codes.now) i
