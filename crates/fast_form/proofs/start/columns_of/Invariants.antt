use Rattle.std.proofs.Common.{◌≡◌, ◌<◌, ℕ, [], length, slice_index_or}
use Rattle.matroid_theory.specs.Rep.{count, matrix}
use Rattle.form_states.specs.Codes.{code}
use Rattle.form_states.specs.States.{AreColumns}
use Rattle.fast_form.proofs.start.columns_of.Given as goal

abbrev pub invariant-loop-e : goal.invariant-loop-e
invariant-loop-e l = record {
  size : length l.columns ≡ 16;
  codes : AreColumns l.shape.fields l.columns;
  rows : (j : ℕ) → j < l.e → (f i : ℕ) → f < count l.rep → i < l.rep.rank → code (slice_index_or l.columns j []) f i ≡ matrix l.rep f i j;
}
