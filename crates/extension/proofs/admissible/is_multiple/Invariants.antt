use Rattle.std.proofs.Common.{◌≡◌, ◌<◌, ℕ, slice_index}
use Rattle.matroid_theory.specs.Field.{times}
use Rattle.extension.proofs.admissible.is_multiple.Given as goal

-- the rows before this one are those of a multiple
abbrev pub invariant-loop-i : goal.invariant-loop-i
invariant-loop-i l = (k : ℕ) → k < l.i → slice_index l.column k ≡ times l.field (slice_index l.column l.lead) (slice_index l.of k)
