use Rattle.std.proofs.Common.{◌<◌, ◌%◌, ℕ, length, slice_index}
use Rattle.matroid_tests.proofs.build.is_column.Given as goal

-- each code so far is one of the field in whose place it stands
abbrev pub invariant-loop-place : goal.invariant-loop-place
invariant-loop-place l = (p : ℕ) → p < l.place → slice_index l.codes p < slice_index l.factors (p % length l.factors)
