use Rattle.std.proofs.Common.{ℕ, ◌<◌}
use Rattle.std.specs.List.{slice_index, Contains}
use Rattle.base_iso.specs.Started.{IsImage}
use Rattle.base_iso.proofs.carried.carries_last.Given as goal

-- the sets before this one go to sets of the other list
abbrev pub invariant-loop-set : goal.invariant-loop-set
invariant-loop-set l = (k Y : ℕ) → k < l.set-index → IsImage l.labels (slice_index l.set-items k) Y → Contains l.b Y
