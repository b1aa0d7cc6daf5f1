use Rattle.std.proofs.Common.{◌≡◌, ◌<◌, ◌/◌, ◌%◌, ℕ, length, slice_index}
use Rattle.elimination.specs.Columns.{column}
use Rattle.canonical_form.proofs.coordinates.interleaved.Given as goal

abbrev pub invariant-loop-place : goal.invariant-loop-place
invariant-loop-place l =
    record {
      rows : length l.codes.items ≡ l.place;
      codes : (k : ℕ) → k < l.place → slice_index l.codes.items k ≡ slice_index (column l.columns (k % l.count)) (k / l.count);
    }
