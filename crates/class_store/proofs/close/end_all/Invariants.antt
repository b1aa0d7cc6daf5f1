use Rattle.std.proofs.Common.{◌≡◌, ◌≤◌, ◌+◌, ◌++◌, ℕ, map, vec_len, vec_capacity}
use Rattle.std.specs.List.{AllByRecursion}
use Rattle.std.specs.Vec.Iter.{into_iter_items, into_iter_len}
use Rattle.stripe_book.specs.Seen.{TableSide}
use Rattle.class_store.specs.declared.closed.ClosedStripe.{ClosedStripe}
use Rattle.class_store.specs.Closed.{IsSettled}
use Rattle.class_store.specs.Closing.{books_in, MayEnd}
use Rattle.class_store.proofs.close.end_all.Given as goal

abbrev pub invariant-loop : goal.invariant-loop
invariant-loop l = (books_in (into_iter_items l.initial.taken) ≡ map (λ (c : ClosedStripe). c.ended) l.room.items ++ books_in (into_iter_items l.taken))
    × MayEnd (into_iter_items l.tables) (books_in (into_iter_items l.taken))
    × ((n : ℕ) → AllByRecursion (λ (t : TableSide). t.callers ≡ n) (into_iter_items l.initial.tables)
    → AllByRecursion (IsSettled n) l.room.items × AllByRecursion (λ (t : TableSide). t.callers ≡ n) (into_iter_items l.tables))
    × (vec_len l.room ≡ l.counter) × (vec_capacity l.initial.room ≤ vec_capacity l.room)
    × (into_iter_len l.tables + l.counter ≡ into_iter_len l.initial.tables) × (into_iter_len l.taken + l.counter ≡ into_iter_len l.initial.tables)
