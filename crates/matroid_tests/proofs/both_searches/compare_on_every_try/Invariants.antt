use Rattle.std.proofs.Common.{◌≤◌}
use Rattle.level_driver.specs.Grown.{IsLevelOf}
use Rattle.matroid_tests.proofs.both_searches.compare_on_every_try.Given as goal

-- the level of this size
abbrev pub invariant-loop : goal.invariant-loop
invariant-loop g l = record { at_least : l.request.rank ≤ l.counter; level : IsLevelOf l.request l.counter l.level.forms }
