use Rattle.std.proofs.Common.{rules}
use Rattle.store_tests.proofs.PutBack.{one_back}
use Rattle.store_tests.proofs.levels.told_in_batches.Goals as goal

pub close-requires : goal.close-requires
close-requires g c = (
  search rules,
  one_back _ _ _ _ _ _ _ c.in_ok-level.ensures.level.1 c.in_ok-level.ensures.passes c.in-Some.ensures.items c.three_batches-told.ensures
      c.in_ok-push.ensures.items,
)
