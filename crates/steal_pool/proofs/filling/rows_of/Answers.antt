use Rattle.std.proofs.Common.{arith}
use Rattle.steal_pool.proofs.Filled.{rows_none, rows_few, rows_length, rows_more}
use Rattle.steal_pool.proofs.filling.rows_of.Goals as goal

pub loop-number-init : goal.loop-number-init
loop-number-init c = rows_none _ _ _ _ c.requires.owners c.new-rows.ensures.items

pub loop-number-preserved : goal.loop-number-preserved
loop-number-preserved c =
    let l = rows_length _ _ _ _ _ _ c.loop-number.invariant in
    rows_more _ _ _ _ _ c.seats_of.new.owners _ _ c.in_ok-seats_of.field-0 c.loop-number.invariant
    (omega arith) c.seats_of.ensures.deques c.seats_of.ensures.flavors c.in_ok-seats_of.ensures.cut c.in_ok-seats_of.ensures.row
    c.in_ok-seats_of.ensures.around c.in_ok-push.ensures.items

pub seats_of-requires-clause-own : goal.seats_of-requires-clause-own
seats_of-requires-clause-own c = let l = rows_length _ _ _ _ _ _ c.loop-number.invariant in let t = c.loop-number-test.true in omega arith

pub seats_of-requires-clause-parts : goal.seats_of-requires-clause-parts
seats_of-requires-clause-parts c = let l = rows_length _ _ _ _ _ _ c.loop-number.invariant in
    λ k b isnt. rows_few _ _ _ _ _ _ c.loop-number.invariant (omega arith) c.requires.few.1 k (omega arith) isnt
