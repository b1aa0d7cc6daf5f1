use Rattle.std.proofs.Common.{◌≡◌, ◌<◌, ℕ, true, false, [], length, slice_index, slice_index_or}
use Rattle.matroid_theory.specs.Field.{times}
use Rattle.form_states.specs.Codes.{code}
use Rattle.form_states.specs.States.{IsScaledNumber}
use Rattle.form_states.proofs.lists.scaled_numbers.Given as goal

abbrev pub invariant-loop-e : goal.invariant-loop-e
invariant-loop-e l = record {
  size : length l.numbers ≡ 16;
  each : (j : ℕ) → j < l.e → slice_index_or l.marks j false ≡ true → IsScaledNumber l.shape.fields (slice_index l.groups) l.shape.count l.shape.rank
      (λ f i. times (slice_index l.shape.fields f) (code l.by f i) (code (slice_index_or l.columns j []) f i)) (slice_index l.numbers j);
}
