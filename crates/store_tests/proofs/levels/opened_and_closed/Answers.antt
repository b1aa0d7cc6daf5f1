use Rattle.std.proofs.Common.{rules}
use Rattle.store_tests.proofs.PutBack.{all_fresh}
use Rattle.store_tests.proofs.levels.opened_and_closed.Goals as goal

pub close-requires : goal.close-requires
close-requires g c = (search rules, all_fresh _ _ _ c.in_ok-level.ensures.level.1 c.in_ok-level.ensures.passes)
