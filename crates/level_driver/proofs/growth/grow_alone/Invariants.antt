use Rattle.std.proofs.Common.{◌≤◌, ◌*◌, ◌^◌, take}
use Rattle.level_driver.proofs.Tries.{HasGrown}
use Rattle.level_driver.proofs.growth.grow_alone.Given as goal

-- the parents so far were extended
abbrev pub invariant-loop-parent : goal.invariant-loop-parent
invariant-loop-parent l =
    record {
      so_far : HasGrown l.mode l.forbidden-inside.sought.items
          (take l.parent-index l.parents) l.tried l.found;
      few : l.tried ≤ l.parent-index * 2 ^ 64;
    }
