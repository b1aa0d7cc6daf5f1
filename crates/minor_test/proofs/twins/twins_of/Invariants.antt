use Rattle.std.proofs.Common.{◌≡◌, length}
use Rattle.minor_test.specs.Twins.{AreAllFound, AreTwinsOf}
use Rattle.minor_test.proofs.twins.twins_of.Given as goal

abbrev pub invariant-loop-j : goal.invariant-loop-j
invariant-loop-j l =
    record {
      count : length l.twins.items ≡ l.j;
      twins : AreTwinsOf l.minor l.twins.items;
      all : AreAllFound l.minor l.twins.items l.j;
    }
