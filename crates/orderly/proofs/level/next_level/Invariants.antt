use Rattle.std.proofs.Common.{◌≤◌, ◌*◌, ◌^◌, take}
use Rattle.orderly.proofs.KeptParents.{HasKeptAll}
use Rattle.orderly.proofs.level.next_level.Given as goal

-- the parents so far were extended
abbrev pub invariant-loop-i : goal.invariant-loop-i
invariant-loop-i l = record {
  so_far : HasKeptAll l.mode l.forbidden-inside.sought.items (take l.i l.parents) l.tried l.forms;
  few : l.tried ≤ l.i * 2 ^ 64;
}
