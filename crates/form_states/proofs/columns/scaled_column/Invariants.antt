use Rattle.std.proofs.Common.{◌≡◌, ◌<◌, ℕ, length, slice_index}
use Rattle.matroid_theory.specs.Field.{times}
use Rattle.form_states.specs.Codes.{AreColumnCodes, code}
use Rattle.form_states.proofs.columns.scaled_column.Given as goal

abbrev pub invariant-loop-i : goal.invariant-loop-i
invariant-loop-i l = record {
  size : length l.products ≡ 6;
  codes : AreColumnCodes l.shape.fields l.products;
  rows : (j : ℕ) → j < l.i → (f : ℕ) → f < l.shape.count → code l.products f j ≡ times (slice_index l.shape.fields f) (code l.by f j) (code l.column f j);
}
