use Rattle.std.proofs.Common.{arith}
use Rattle.steal_pool.proofs.Filled.{owners_none, owners_more, owners_all}
use Rattle.steal_pool.proofs.filling.owners_of.Goals as goal

pub loop-number-init : goal.loop-number-init
loop-number-init c = owners_none _ _ _ c.new-owners.ensures.items

pub loop-number-preserved : goal.loop-number-preserved
loop-number-preserved c = owners_more _ _ _ _ _ c.in_ok-filled.field-0 c.loop-number.invariant c.in_ok-filled.ensures c.in_ok-push.ensures.items

pub returns-clause-owners : goal.returns-clause-owners
returns-clause-owners c = let e = c.loop-number.auto.number-end in let f = c.loop-number-test.false in owners_all _ _ _ _ c.loop-number.invariant (omega arith)

pub returns-clause-fifo : goal.returns-clause-fifo
returns-clause-fifo c = c.loop-number.invariant.fifo
