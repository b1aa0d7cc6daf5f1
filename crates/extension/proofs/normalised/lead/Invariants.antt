use Rattle.std.proofs.Common.{◌≡◌, ◌<◌, ◌*◌, ℕ, slice_index}
use Rattle.extension.proofs.normalised.lead.Given as goal

-- the rows before this one are zero
abbrev pub invariant-loop-row : goal.invariant-loop-row
invariant-loop-row l = (i : ℕ) → i < l.row → slice_index l.column (i * l.count) ≡ 0
