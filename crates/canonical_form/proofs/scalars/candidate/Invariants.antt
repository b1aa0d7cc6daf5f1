use Rattle.std.proofs.Common.{◌≡◌, ◌<◌, ℕ, [], length, slice_index_or}
use Rattle.canonical_form.specs.Search.{IsScaled}
use Rattle.canonical_form.proofs.scalars.candidate.Given as goal

abbrev pub invariant-loop-column : goal.invariant-loop-column
invariant-loop-column l =
    record {
      count : length l.columns ≡ l.column-index;
      each : (t : ℕ) → t < l.column-index → IsScaled l.rep l.scalars.items (slice_index_or l.frame.coordinates t []) (slice_index_or l.columns t []);
    }
