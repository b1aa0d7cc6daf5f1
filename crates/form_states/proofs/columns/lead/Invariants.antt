use Rattle.std.proofs.Common.{◌≡◌, ◌<◌, ℕ}
use Rattle.form_states.specs.Codes.{code}
use Rattle.form_states.proofs.columns.lead.Given as goal

abbrev pub invariant-loop-i : goal.invariant-loop-i
invariant-loop-i l = (j : ℕ) → j < l.i → code l.column 0 j ≡ 0
