use Rattle.std.proofs.Common.{◌≡◌, length}
use Rattle.steal_pool.specs.Shift.{StaysInPool, shift_taken}
use Rattle.workers.specs.Offered.{AreEmpty, IsSamePass}
use Rattle.workers.proofs.PartKeys.{HasTaken}
use Rattle.workers.proofs.part.take_parents.Given as goal

-- the tries of the parents that were taken so far were offered
abbrev pub invariant-loop : goal.invariant-loop
invariant-loop g l = record {
  pass : IsSamePass l.fn.pass l.pass;
  shift : StaysInPool l.fn.shift l.shift;
  width : length l.batches.items ≡ length l.level.level.tables;
  empty : AreEmpty l.batches.items;
  so_far : HasTaken l.mode l.forbidden-inside.sought.items l.parents (shift_taken l.fn.shift) (shift_taken l.shift)
      l.fn.pass l.pass l.tried;
}
