use Rattle.std.proofs.Common.{◌≡◌, ◌<◌, ℕ}
use Rattle.form_states.specs.Codes.{code}
use Rattle.form_states.proofs.columns.are_all_ones.Given as goal

abbrev pub invariant-loop-i : goal.invariant-loop-i
invariant-loop-i l = (f j : ℕ) → f < l.shape.count → j < l.i → code l.by f j ≡ 1
