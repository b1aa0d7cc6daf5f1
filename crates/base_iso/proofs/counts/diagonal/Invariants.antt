use Rattle.std.proofs.Common.{ℕ, ◌<◌, ◌≡◌, length}
use Rattle.std.specs.List.{slice_index}
use Rattle.base_iso.specs.Counted.{row}
use Rattle.base_iso.proofs.counts.diagonal.Given as goal

abbrev pub invariant-loop-i : goal.invariant-loop-i
invariant-loop-i l = record {
  elements : length l.numbers.items ≡ l.i;
  at : (k : ℕ) → k < l.i → slice_index l.numbers.items k ≡ slice_index (row l.pairs.items k) k;
}
