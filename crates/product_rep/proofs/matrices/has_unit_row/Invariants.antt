use Rattle.std.proofs.Common.{◌≡◌, ◌<◌, ℕ}
use Rattle.matroid_theory.specs.Matrix.{matrix_product, unit}
use Rattle.product_rep.specs.Valid.{block}
use Rattle.product_rep.proofs.matrices.has_unit_row.Given as goal

-- the entries before this one are those of the identity matrix
abbrev pub invariant-loop-j : goal.invariant-loop-j
invariant-loop-j l = (j : ℕ) → j < l.j → matrix_product l.field l.left.rank (block l.left.rank l.left.factor l.left.codes.now)
    (block l.right.rank l.right.factor l.right.codes.now) l.i j ≡ unit l.i j
