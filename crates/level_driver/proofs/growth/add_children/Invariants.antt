use Rattle.std.proofs.Common.{◌≡◌}
use Rattle.level_driver.proofs.Tried.{HasTried}
use Rattle.level_driver.proofs.growth.add_children.Given as goal

-- the columns up to the last one were tried
abbrev pub invariant-loop-column : goal.invariant-loop-column
invariant-loop-column l = record {
  same : l.column-iterator.parent ≡ l.parent;
  children : l.children ≡ record { parent = l.parent; mode = l.fn.mode; forbidden = l.forbidden };
  so_far : HasTried l.fn.mode l.forbidden l.fn.found l.column-iterator l.tried l.found;
}
