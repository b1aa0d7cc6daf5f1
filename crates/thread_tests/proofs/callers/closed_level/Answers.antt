use Rattle.store_tests.proofs.PutBack.{all_fresh}
use Rattle.thread_tests.proofs.Passes.{of_its_level, still_its}
use Rattle.thread_tests.proofs.callers.closed_level.Goals as goal

pub offer_all-requires-clause-level : goal.offer_all-requires-clause-level
offer_all-requires-clause-level g c κs within =
    of_its_level _ _ (all_fresh _ _ _ c.in_ok-level.ensures.level.1 c.in_ok-level.ensures.passes)

pub close-closed-requires-after_bounds : goal.close-closed-requires-after_bounds
close-closed-requires-after_bounds g c κs within =
    still_its _ _ _ c.offer_all.ensures (all_fresh _ _ _ c.in_ok-level.ensures.level.1 c.in_ok-level.ensures.passes)
