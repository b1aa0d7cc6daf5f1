use Rattle.std.proofs.Common.{◌≡◌, ◌<◌, ◌+◌, ◌^◌, ℕ, slice_index, bit_or}
use Rattle.minor_test.specs.Searches.{AgreeBelow}
use Rattle.minor_test.proofs.search.add_next.Given as goal

abbrev pub invariant-loop-place : goal.invariant-loop-place
invariant-loop-place l =
    record {
      kept : AgreeBelow l.count l.initial.sets l.sets;
      added : (X : ℕ) → X < l.place → slice_index l.sets (l.count + X) ≡ bit_or (slice_index l.initial.sets X) (2 ^ l.element);
    }
