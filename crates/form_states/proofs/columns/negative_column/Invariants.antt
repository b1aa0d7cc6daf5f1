use Rattle.std.proofs.Common.{◌≡◌, ◌<◌, ℕ, length, slice_index}
use Rattle.matroid_theory.specs.Field.{plus}
use Rattle.form_states.specs.Codes.{AreColumnCodes, code}
use Rattle.form_states.proofs.columns.negative_column.Given as goal

abbrev pub invariant-loop-i : goal.invariant-loop-i
invariant-loop-i l = record {
  size : length l.negatives ≡ 6;
  codes : AreColumnCodes l.shape.fields l.negatives;
  zeros : (j : ℕ) → j < l.i → (f : ℕ) → f < l.shape.count → plus (slice_index l.shape.fields f) (code l.column f j) (code l.negatives f j) ≡ 0;
}
