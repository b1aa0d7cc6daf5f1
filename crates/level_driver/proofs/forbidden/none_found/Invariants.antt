use Rattle.std.proofs.Common.{take}
use Rattle.level_driver.specs.Forbidden.{Avoids}
use Rattle.level_driver.proofs.forbidden.none_found.Given as goal

-- those so far are no minors
abbrev pub invariant-loop-one : goal.invariant-loop-one
invariant-loop-one l = Avoids (take l.one-index l.sought) l.whole
