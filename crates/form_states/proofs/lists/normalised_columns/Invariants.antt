use Rattle.std.proofs.Common.{◌≡◌, ◌<◌, ℕ, [], length, slice_index_or}
use Rattle.form_states.specs.Codes.{code, IsNormalisedFrom}
use Rattle.form_states.specs.States.{AreColumns}
use Rattle.form_states.proofs.lists.normalised_columns.Given as goal

abbrev pub invariant-loop-e : goal.invariant-loop-e
invariant-loop-e l = record {
  size : length l.normalised ≡ 16;
  codes : AreColumns l.shape.fields l.normalised;
  rows : (j : ℕ) → j < l.e → IsNormalisedFrom l.shape.fields l.shape.count l.shape.rank (code (slice_index_or l.columns j []))
      (code (slice_index_or l.normalised j []));
}
