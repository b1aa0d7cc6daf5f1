use Rattle.std.proofs.Common.{◌≡◌, ◌≢◌, ◌<◌, ℕ, [], true, false, length, slice_index_or}
use Rattle.form_states.specs.Codes.{code}
use Rattle.fast_form.proofs.start.nonzero_marks.Given as goal

abbrev pub invariant-loop-e : goal.invariant-loop-e
invariant-loop-e l = record {
  size : length l.marks ≡ 16;
  zeros : (j : ℕ) → j < l.e → slice_index_or l.marks j false ≡ false → (i : ℕ) → i < l.rank → code (slice_index_or l.columns j []) 0 i ≡ 0;
  nonzero : (j : ℕ) → j < l.e → slice_index_or l.marks j false ≡ true → (i : ℕ) × (i < l.rank) × (code (slice_index_or l.columns j []) 0 i ≢ 0);
}
