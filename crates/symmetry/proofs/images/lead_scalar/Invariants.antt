use Rattle.std.proofs.Common.{◌≡◌, ◌<◌, ◌+◌, ◌*◌, ℕ, slice_index}
use Rattle.symmetry.proofs.images.lead_scalar.Given as goal

-- the codes so far are 0
abbrev pub invariant-loop-i : goal.invariant-loop-i
invariant-loop-i l = (k : ℕ) → k < l.i → slice_index l.column.items (k * l.count + l.factor) ≡ 0
