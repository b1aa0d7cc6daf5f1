use Rattle.std.proofs.Common.{take}
use Rattle.level_driver.specs.Forbidden.{matroids_of, Avoids}
use Rattle.level_driver.proofs.forbidden.avoids.Given as goal

-- those so far are no minors
abbrev pub invariant-loop-item : goal.invariant-loop-item
invariant-loop-item l = Avoids (matroids_of (take l.item-index l.forbidden)) l.rep
