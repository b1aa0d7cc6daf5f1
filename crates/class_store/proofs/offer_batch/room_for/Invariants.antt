use Rattle.std.proofs.Common.{take}
use Rattle.std.specs.List.{AllByRecursion, Contains}
use Rattle.class_store.proofs.offer_batch.room_for.Given as goal

abbrev pub invariant-loop-key : goal.invariant-loop-key
invariant-loop-key l = AllByRecursion (Contains l.set.keys) (take l.key-index l.keys)
