use Rattle.std.proofs.Common.{◌≡◌, ◌<◌, slice_index}
use Rattle.matroid_theory.specs.Field.{times}
use Rattle.matroid_theory.specs.Matrix.{sum_below}
use Rattle.field_tables.proofs.field.Field.sum_of_products.Given as goal

abbrev pub invariant-loop-k : goal.invariant-loop-k
invariant-loop-k l =
    record {
      sum : l.sum ≡ sum_below l.self l.k (λ k. times l.self (slice_index l.left k) (slice_index l.right k));
      code : l.sum < l.self;
    }
