use Rattle.std.proofs.Common.{ℕ, ◌<◌, ◌≡◌, length}
use Rattle.base_iso.specs.Counted.{row, ArePairCountsOf}
use Rattle.base_iso.proofs.counts.pair_counts.Given as goal

abbrev pub invariant-loop-i : goal.invariant-loop-i
invariant-loop-i l = record {
  elements : length l.rows.items ≡ l.i;
  counts : (i : ℕ) → i < l.i → ArePairCountsOf l.list i (row l.rows.items i);
}
