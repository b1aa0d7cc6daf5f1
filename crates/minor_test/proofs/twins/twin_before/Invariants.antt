use Rattle.std.proofs.Common.{ℕ, ◌<◌, MatchOption}
use Rattle.minor_test.specs.Twins.{AreTwins}
use Rattle.minor_test.proofs.twins.twin_before.Given as goal

abbrev pub invariant-loop-i : goal.invariant-loop-i
invariant-loop-i l = MatchOption l.twin ((i : ℕ) → i < l.i → ¬ (AreTwins l.minor i l.j)) (λ i. AreTwins l.minor i l.j)
