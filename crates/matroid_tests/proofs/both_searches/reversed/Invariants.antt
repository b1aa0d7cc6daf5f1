use Rattle.std.proofs.Common.{◌≡◌}
use Rattle.matroid_theory.specs.Rep.{size}
use Rattle.matroid_tests.proofs.both_searches.reversed.Given as goal

abbrev pub invariant-loop-j : goal.invariant-loop-j
invariant-loop-j l = record { factors : l.reversed.factors ≡ l.rep.factors; rank : l.reversed.rank ≡ l.rep.rank; columns : size l.reversed ≡ l.j }
