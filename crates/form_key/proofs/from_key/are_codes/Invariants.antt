use Rattle.std.proofs.Common.{◌<◌, ◌%◌, ℕ, length, slice_index}
use Rattle.form_key.proofs.from_key.are_codes.Given as goal

abbrev pub invariant-loop-place : goal.invariant-loop-place
invariant-loop-place l = (k : ℕ) → k < l.place → slice_index l.codes k < slice_index l.factors (k % length l.factors)
