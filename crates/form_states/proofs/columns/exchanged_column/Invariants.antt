use Rattle.std.proofs.Common.{◌≡◌, ◌<◌, ℕ, length}
use Rattle.form_states.specs.Codes.{AreColumnCodes, code, cleared_code}
use Rattle.matroid_theory.specs.Exchange.{exchange}
use Rattle.form_states.proofs.columns.exchanged_column.Given as goal

abbrev pub invariant-loop-i : goal.invariant-loop-i
invariant-loop-i l = record {
  size : length l.pivoted ≡ 6;
  codes : AreColumnCodes l.shape.fields l.pivoted;
  rows : (j : ℕ) → j < l.i → (f : ℕ) → f < l.shape.count → code l.pivoted f j ≡ cleared_code l.shape.fields l.p (code l.minus) (code l.column) f
      (exchange l.p l.k j);
}
