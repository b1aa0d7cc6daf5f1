use Rattle.std.proofs.Common.{◌≤◌}
use Rattle.level_driver.specs.Grown.{IsLevelOf}
use Rattle.run_tests.proofs.growth.counts.Given as goal

-- the level of this size
abbrev pub invariant-loop : goal.invariant-loop
invariant-loop l = record { at_least : l.request.rank ≤ l.counter; level : IsLevelOf l.request l.counter l.level.forms }
