use Rattle.std.proofs.Common.{◌≡◌, ◌<◌, ◌*◌, ◌/◌, ◌%◌, ℕ, true, false, [], length, slice_index, slice_index_or}
use Rattle.form_trails.specs.Numbers.{weighed}
use Rattle.form_states.specs.Codes.{code}
use Rattle.form_states.proofs.lists.own_numbers.Given as goal

abbrev pub invariant-loop-e : goal.invariant-loop-e
invariant-loop-e l = record {
  size : length l.numbers ≡ 16;
  each : (j : ℕ) → j < l.e → slice_index_or l.marks j false ≡ true → slice_index l.numbers j ≡
      weighed (λ i. code (slice_index_or l.columns j []) (i % l.shape.count) (i / l.shape.count)) (l.shape.rank * l.shape.count);
}
