use Rattle.std.proofs.Common.{◌≡◌, ◌<◌, ℕ, [], true, false, length, slice_index_or}
use Rattle.matroid_theory.specs.Exchange.{exchange}
use Rattle.form_states.specs.Codes.{code, cleared_code, IsNormalisedFrom}
use Rattle.form_states.specs.States.{AreColumns}
use Rattle.form_states.proofs.lists.normalised_pivots.Given as goal

abbrev pub invariant-loop-e : goal.invariant-loop-e
invariant-loop-e l = record {
  size : length l.next ≡ 16;
  codes : AreColumns l.shape.fields l.next;
  rows : (j : ℕ) → j < l.e → slice_index_or l.marks j false ≡ true → IsNormalisedFrom l.shape.fields l.shape.count l.shape.rank
      (λ f i. cleared_code l.shape.fields l.p (code l.minus) (code (slice_index_or l.columns j [])) f (exchange l.p l.k i)) (code (slice_index_or l.next j []));
}
