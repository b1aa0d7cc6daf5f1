use Rattle.std.proofs.Common.{rules, ◌≡◌, sym, subst}
use Rattle.std.specs.List.{AllByRecursion}
use Rattle.stripe_book.specs.Seen.{TableSide}
use Rattle.class_store.proofs.Closing.{ended_next, may_end_next, settled_next}
use Rattle.class_store.proofs.close.end_all.Goals as goal

pub loop-preserved : goal.loop-preserved
loop-preserved c = let i = c.loop.invariant in (
  ended_next _ _ _ c.in-Some-next.stripe _ _ c.end_one.result i.0 c.in-Some-next.ensures.items c.push_reserved.ensures.items c.end_one.ensures.ended,
  may_end_next _ _ c.in-Some.table _ _ c.in-Some-next.stripe i.1 c.in-Some.ensures.items c.in-Some-next.ensures.items,
  settled_next _ _ _ c.in-Some.table _ _ c.end_one.result i.2 c.in-Some.ensures.items c.push_reserved.ensures.items c.end_one.ensures.settled,
  search rules,
  search rules,
  search rules,
  search rules,
)

pub returns-clause-settled : goal.returns-clause-settled
returns-clause-settled c n all = (c.loop.invariant.2 n (subst (AllByRecursion (λ (t : TableSide). t.callers ≡ n)) (sym c.into_iter-tables.ensures.rest) all)).0
