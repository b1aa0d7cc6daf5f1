use Rattle.std.proofs.Common.{ℕ, ◌<◌, ◌≡◌, length}
use Rattle.std.specs.List.{slice_index}
use Rattle.base_iso.specs.Counted.{pair_count}
use Rattle.base_iso.proofs.counts.counts_with.Given as goal

abbrev pub invariant-loop-j : goal.invariant-loop-j
invariant-loop-j l = record {
  elements : length l.counts.items ≡ l.j;
  counted : (j : ℕ) → j < l.j → slice_index l.counts.items j ≡ pair_count l.list.bases l.i j;
}
