use Rattle.std.proofs.Common.{rules}
use Rattle.store_tests.proofs.PutBack.{two_back}
use Rattle.thread_tests.proofs.turns.answers_in_turn.Goals as goal

pub close-requires : goal.close-requires
close-requires g c = (
  search rules,
  two_back _ _ _ _ _ _ _ _ _ _ _ c.in_ok-level.ensures.level.1 c.in_ok-level.ensures.passes c.in-Some.ensures.items c.in-Some-pop.ensures.items
      c.in_ok-a.ensures c.in_ok-b.ensures c.in_ok-push.ensures.items c.in_ok-push-2.ensures.items,
)
