use Rattle.std.proofs.Common.{◌≡◌, ◌<◌, ℕ, [], length, slice_index, slice_index_or}
use Rattle.form_states.proofs.groups.row_factors.Given as goal

abbrev pub invariant-loop-i : goal.invariant-loop-i
invariant-loop-i l = record {
  size : length l.rows ≡ 6;
  rows : (j : ℕ) → j < l.i → slice_index_or l.rows j [] ≡ slice_index_or l.factors (slice_index l.groups j) [];
}
