use Rattle.std.proofs.Common.{◌≡◌, ◌≤◌, ◌+◌, ◌++◌, vec_len, vec_capacity}
use Rattle.std.specs.Vec.Iter.{into_iter_items, into_iter_len}
use Rattle.class_store.specs.Rows.{rows_in, passes_from, ArePasses}
use Rattle.class_store.proofs.opened.passes_of.Given as goal

abbrev pub invariant-loop-number : goal.invariant-loop-number
invariant-loop-number l = (passes_from (rows_in (into_iter_items l.initial.rows)) (into_iter_items l.initial.seats) 0 ≡ l.all.items ++ passes_from
    (rows_in (into_iter_items l.rows)) (into_iter_items l.seats) l.number)
    × ArePasses (rows_in (into_iter_items l.rows)) (into_iter_items l.seats) l.number
    × (into_iter_len l.rows + l.number ≡ into_iter_len l.initial.rows) × (into_iter_len l.seats + l.number ≡ into_iter_len l.initial.rows)
    × (vec_len l.all ≡ l.number) × (into_iter_len l.initial.rows ≤ vec_capacity l.all)
