use Rattle.store_tests.proofs.PutBack.{all_fresh}
use Rattle.thread_tests.proofs.Passes.{of_its_level, still_its}
use Rattle.thread_tests.proofs.batches.closed_level.Goals as goal

pub take_parts-requires-after_bounds : goal.take_parts-requires-after_bounds
take_parts-requires-after_bounds g c κs within =
    of_its_level _ _ (all_fresh _ _ _ c.in_ok-level.ensures.level.1 c.in_ok-level.ensures.passes)

pub close-requires-after_bounds : goal.close-requires-after_bounds
close-requires-after_bounds g c κs within =
    still_its _ _ _ c.take_parts.ensures (all_fresh _ _ _ c.in_ok-level.ensures.level.1 c.in_ok-level.ensures.passes)
