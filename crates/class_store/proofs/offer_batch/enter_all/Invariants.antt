use Rattle.std.proofs.Common.{◌≡◌, ◌<◌, ◌+◌, ◌-◌, ◌^◌, length, min}
use Rattle.histories.specs.SetObject.{keys_after}
use Rattle.stripe_book.specs.declared.view.Phase.TheVariants.{Idle}
use Rattle.histories.specs.History.{calls_by}
use Rattle.class_store.specs.Batches.{HasRoom, IsGoing}
use Rattle.class_store.proofs.offer_batch.enter_all.Given as goal

abbrev pub invariant-loop : goal.invariant-loop
invariant-loop l =
    (l.set.keys ≡ keys_after l.book.history)
    × (l.entries ≡ min (length l.book.history) (2 ^ 64 - 1))
    × HasRoom l.set.keys l.set.spare l.keys
    × IsGoing l.initial.caller.number l.counter l.news l.initial.keys l.keys (keys_after l.initial.book.history)
    (keys_after l.book.history) l.initial.book.history l.initial.caller.mine l.initial.caller.seen l.book.history l.caller.mine l.caller.seen
    × (l.book.table ≡ l.initial.book.table)
    × (l.caller.table ≡ l.initial.caller.table) × (l.caller.number ≡ l.initial.caller.number) × (l.caller.phase ≡ Idle)
    × (length l.keys + l.counter ≡ length l.initial.keys)
    × (0 < l.counter → calls_by l.caller.number l.caller.seen ≡ l.caller.mine)
