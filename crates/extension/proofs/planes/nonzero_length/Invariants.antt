use Rattle.std.proofs.Common.{◌≡◌, ◌<◌, ◌≤◌, ℕ, length, slice_index}
use Rattle.extension.proofs.planes.nonzero_length.Given as goal

-- the codes from this one on are 0
abbrev pub invariant-loop-i : goal.invariant-loop-i
invariant-loop-i l = (k : ℕ) → l.i ≤ k → k < length l.codes → slice_index l.codes k ≡ 0
