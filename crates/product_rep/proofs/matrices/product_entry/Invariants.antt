use Rattle.std.proofs.Common.{◌≡◌, ◌<◌}
use Rattle.matroid_theory.specs.Matrix.{matrix_product}
use Rattle.product_rep.specs.Valid.{block}
use Rattle.product_rep.proofs.matrices.product_entry.Given as goal

abbrev pub invariant-loop-k : goal.invariant-loop-k
invariant-loop-k l =
    record {
      sum : l.sum ≡ matrix_product l.field l.k (block l.left.rank l.left.factor l.left.codes.now) (block l.right.rank l.right.factor l.right.codes.now) l.i l.j;
      code : l.sum < l.field;
    }
