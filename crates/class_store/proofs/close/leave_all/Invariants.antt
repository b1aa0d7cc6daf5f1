use Rattle.std.proofs.Common.{◌≡◌, ◌+◌, ◌++◌, take, drop, length}
use Rattle.std.specs.Vec.Iter.{into_iter_items, into_iter_len}
use Rattle.stripe_turn.specs.Rule.{tables_in}
use Rattle.class_store.specs.Closing.{books_in, left_all, MayLeave}
use Rattle.class_store.proofs.close.leave_all.Given as goal

abbrev pub invariant-loop-at : goal.invariant-loop-at
invariant-loop-at l = (left_all (books_in l.initial.taken) (into_iter_items l.initial.callers) ≡ take l.at (books_in l.taken) ++ left_all
    (drop l.at (books_in l.taken)) (into_iter_items l.callers))
    × (tables_in l.taken ≡ tables_in l.initial.taken) × MayLeave (drop l.at (tables_in l.initial.taken)) (into_iter_items l.callers)
    × (into_iter_len l.callers + l.at ≡ length l.initial.taken)
