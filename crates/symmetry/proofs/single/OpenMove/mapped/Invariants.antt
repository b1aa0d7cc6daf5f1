use Rattle.std.proofs.Common.{◌≡◌, ◌<◌, ◌%◌, ◌/◌, ℕ, length, slice_index}
use Rattle.symmetry.specs.Images.{mapped}
use Rattle.symmetry.proofs.single.OpenMove.mapped.Given as goal

-- the codes so far
abbrev pub invariant-loop-place : goal.invariant-loop-place
invariant-loop-place l = record {
  number : length l.image.items ≡ l.place;
  codes : (k : ℕ) → k < l.place → slice_index l.image.items k ≡ mapped l.self l.column.items (k % l.count) (k / l.count);
}
