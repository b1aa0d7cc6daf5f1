use Rattle.std.proofs.Common.{◌≡◌, ◌<◌, ◌%◌, ◌/◌, ℕ, length, slice_index}
use Rattle.matroid_theory.specs.Field.{times}
use Rattle.symmetry.specs.Images.{code_at}
use Rattle.symmetry.proofs.images.multiplied.Given as goal

-- the codes so far
abbrev pub invariant-loop-place : goal.invariant-loop-place
invariant-loop-place l = record {
  number : length l.image.items ≡ l.place;
  codes : (k : ℕ) → k < l.place → slice_index l.image.items k ≡
      times (slice_index l.factors (k % l.count)) (slice_index l.scalars (k % l.count)) (code_at l.factors l.column.items (k % l.count) (k / l.count));
}
