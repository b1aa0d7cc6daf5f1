use Rattle.std.proofs.Common.{◌≡◌, ◌<◌, ℕ, length, slice_index}
use Rattle.extension.proofs.normals.difference.Given as goal

-- the codes before this row
abbrev pub invariant-loop-i : goal.invariant-loop-i
invariant-loop-i l = record { rows : length l.row.items ≡ l.i; below : (k : ℕ) → k < l.i → slice_index l.row.items k < l.field }
