use Rattle.std.proofs.Common.{◌≡◌, ◌<◌, ℕ, length}
use Rattle.matroid_theory.specs.Rep.{count, matrix}
use Rattle.form_states.specs.Codes.{AreColumnCodes, code}
use Rattle.fast_form.proofs.start.column_of.Given as goal

abbrev pub invariant-loop-i : goal.invariant-loop-i
invariant-loop-i l = record {
  size : length l.column ≡ 6;
  codes : AreColumnCodes l.shape.fields l.column;
  rows : (j : ℕ) → j < l.i → (f : ℕ) → f < count l.rep → code l.column f j ≡ matrix l.rep f j l.e;
}
