use Rattle.std.proofs.Common.{◌≤◌, ◌-◌, length}
use Rattle.level_driver.proofs.parent.leader_of.Given as goal

abbrev pub invariant-loop-low : goal.invariant-loop-low
invariant-loop-low l = l.high ≤ length l.leaders

abbrev pub decreases-loop-low : goal.decreases-loop-low
decreases-loop-low l = l.high - l.low
