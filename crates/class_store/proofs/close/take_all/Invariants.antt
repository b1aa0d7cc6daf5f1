use Rattle.std.proofs.Common.{◌≡◌, ◌≤◌, take, vec_len, vec_capacity}
use Rattle.stripe_turn.specs.Rule.{tables_in}
use Rattle.class_store.specs.Closing.{downward}
use Rattle.class_store.proofs.close.take_all.Given as goal

abbrev pub invariant-loop-at : goal.invariant-loop-at
invariant-loop-at g l = (l.turn ≡ record l.initial.turn { held = downward l.at }) × (tables_in l.taken.items ≡ take l.at l.initial.turn.tables)
    × (vec_len l.taken ≡ l.at) × (vec_capacity l.initial.taken ≤ vec_capacity l.taken)
