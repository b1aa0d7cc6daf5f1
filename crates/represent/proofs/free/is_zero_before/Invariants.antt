use Rattle.std.proofs.Common.{◌≡◌, ◌+◌, ◌*◌, ◌<◌, ℕ, slice_index}
use Rattle.represent.proofs.free.is_zero_before.Given as goal

abbrev pub invariant-loop-column : goal.invariant-loop-column
invariant-loop-column l = (k : ℕ) → k < l.column → slice_index l.codes.items (k * l.rank + l.row) ≡ 0
