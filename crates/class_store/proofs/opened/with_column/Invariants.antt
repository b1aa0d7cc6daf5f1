use Rattle.std.proofs.Common.{◌≡◌, ◌≤◌, ◌+◌, ◌++◌, vec_len, vec_capacity}
use Rattle.std.specs.Vec.Iter.{into_iter_items, into_iter_len}
use Rattle.class_store.specs.Rows.{rows_in, add_column}
use Rattle.class_store.proofs.opened.with_column.Given as goal

abbrev pub invariant-loop : goal.invariant-loop
invariant-loop l = (add_column (rows_in (into_iter_items l.initial.rows)) (into_iter_items l.initial.column) ≡ rows_in l.longer.items ++ add_column
    (rows_in (into_iter_items l.rows)) (into_iter_items l.column))
    × (into_iter_len l.rows + l.counter ≡ into_iter_len l.initial.rows) × (into_iter_len l.column + l.counter ≡ into_iter_len l.initial.rows)
    × (vec_len l.longer ≡ l.counter) × (into_iter_len l.initial.rows ≤ vec_capacity l.longer)
