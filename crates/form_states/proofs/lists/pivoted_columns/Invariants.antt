use Rattle.std.proofs.Common.{◌≡◌, ◌<◌, ℕ, [], true, false, length, slice_index_or}
use Rattle.matroid_theory.specs.Exchange.{exchange}
use Rattle.form_states.specs.Codes.{code, cleared_code}
use Rattle.form_states.specs.States.{AreColumns}
use Rattle.form_states.proofs.lists.pivoted_columns.Given as goal

abbrev pub invariant-loop-e : goal.invariant-loop-e
invariant-loop-e l = record {
  size : length l.pivoted ≡ 16;
  codes : AreColumns l.shape.fields l.pivoted;
  rows : (j : ℕ) → j < l.e → slice_index_or l.marks j false ≡ true → (f i : ℕ) → f < l.shape.count → i < l.shape.rank →
      code (slice_index_or l.pivoted j []) f i ≡ cleared_code l.shape.fields l.p (code l.minus) (code (slice_index_or l.columns j [])) f (exchange l.p l.k i);
}
