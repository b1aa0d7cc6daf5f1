use Rattle.std.proofs.Common.{◌≡◌, ◌<◌, ◌+◌, ◌^◌, ℕ, length, slice_index, bit_or}
use Rattle.matroid_theory.specs.Tables.{has}
use Rattle.minor_test.proofs.search.carries_next.Given as goal

abbrev pub invariant-loop-place : goal.invariant-loop-place
invariant-loop-place l = (X : ℕ) → X < l.place →
    has l.minor.words (length l.sets + X) ≡ has l.whole.words (bit_or (slice_index l.sets X) (2 ^ l.image))
