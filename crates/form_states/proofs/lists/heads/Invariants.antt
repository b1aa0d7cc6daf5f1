use Rattle.std.proofs.Common.{◌≡◌, ◌<◌, ◌↔◌, ℕ, true, false, length, slice_index_or}
use Rattle.form_states.specs.States.{HasHead}
use Rattle.form_states.proofs.lists.heads.Given as goal

abbrev pub invariant-loop-e : goal.invariant-loop-e
invariant-loop-e l = record {
  size : length l.marks ≡ 16;
  each : (j : ℕ) → j < l.e → (slice_index_or l.marks j false ≡ true) ↔ HasHead l.shape.count l.columns l.there l.base l.end l.b j;
}
