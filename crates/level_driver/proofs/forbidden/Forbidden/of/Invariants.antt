use Rattle.std.proofs.Common.{◌≡◌, take}
use Rattle.level_driver.specs.Forbidden.{matroids_of}
use Rattle.level_driver.proofs.forbidden.Forbidden.of.Given as goal

-- those so far are ready
abbrev pub invariant-loop-item : goal.invariant-loop-item
invariant-loop-item l = l.sought.items ≡ matroids_of (take l.item-index l.items)
