use Rattle.std.proofs.Common.{◌≡◌, ◌<◌, ℕ, true, false, [], slice_index_or}
use Rattle.form_states.specs.Steps.{AreAbove}
use Rattle.form_states.proofs.above.are_above.Given as goal

abbrev pub invariant-loop-e : goal.invariant-loop-e
invariant-loop-e l = (j : ℕ) → j < l.e → slice_index_or l.class j false ≡ true →
    AreAbove l.shape.count l.shape.rank l.k (slice_index_or l.columns j []) (slice_index_or l.columns l.b []) l.low
