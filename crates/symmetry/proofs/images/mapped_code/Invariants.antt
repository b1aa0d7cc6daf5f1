use Rattle.std.proofs.Common.{◌≡◌, ◌<◌, ◌+◌, ◌*◌, slice_index}
use Rattle.matroid_theory.specs.Field.{times, raised}
use Rattle.matroid_theory.specs.Matrix.{sum_below}
use Rattle.symmetry.proofs.images.mapped_code.Given as goal

-- the sum of the products so far
abbrev pub invariant-loop-k : goal.invariant-loop-k
invariant-loop-k l =
    record {
      sum : l.sum ≡ sum_below l.field l.k
          (λ k. times l.field (slice_index l.row k) (raised l.field l.power (slice_index l.column.items (k * l.count + l.factor))));
      code : l.sum < l.field;
    }
