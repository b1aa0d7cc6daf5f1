use Rattle.std.proofs.Common.{ℕ, ◌<◌, ◌≡◌}
use Rattle.std.specs.List.{slice_index}
use Rattle.base_iso.proofs.counts.keeps_last_counts.Given as goal

abbrev pub invariant-loop-i : goal.invariant-loop-i
invariant-loop-i l = (i : ℕ) → i < l.i → slice_index l.of_last i ≡ slice_index l.of_label (slice_index l.labels i)
