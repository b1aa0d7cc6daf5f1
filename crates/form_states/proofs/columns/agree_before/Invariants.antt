use Rattle.std.proofs.Common.{◌≡◌, ◌<◌, ℕ}
use Rattle.form_states.specs.Codes.{code}
use Rattle.form_states.proofs.columns.agree_before.Given as goal

abbrev pub invariant-loop-i : goal.invariant-loop-i
invariant-loop-i l = (f j : ℕ) → f < l.count → j < l.i → code l.a f j ≡ code l.b f j
