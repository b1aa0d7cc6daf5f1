use Rattle.std.proofs.Common.{◌≡◌, ◌<◌, ◌↔◌, ℕ, true, false, length, slice_index_or}
use Rattle.form_states.specs.States.{HasOtherHead}
use Rattle.form_states.proofs.lists.other_heads.Given as goal

abbrev pub invariant-loop-e : goal.invariant-loop-e
invariant-loop-e l = record {
  size : length l.marks ≡ 16;
  each : (j : ℕ) → j < l.e → (slice_index_or l.marks j false ≡ true) ↔ HasOtherHead l.shape.count l.columns l.there l.base l.end l.b j;
}
