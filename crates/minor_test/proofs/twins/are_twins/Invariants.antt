use Rattle.std.proofs.Common.{ℕ, ◌<◌, ◌^◌, slice_index, Contains}
use Rattle.minor_test.specs.Twins.{IsSwapped}
use Rattle.minor_test.proofs.twins.are_twins.Given as goal

abbrev pub invariant-loop-basis : goal.invariant-loop-basis
invariant-loop-basis l = (k : ℕ) → k < l.basis-index → (Y : ℕ) → Y < 2 ^ l.minor.size →
    IsSwapped l.minor.size l.i l.j (slice_index l.minor.bases k) Y → Contains l.minor.bases Y
