use denote.Exit.{no}
use denote.Param.Send.{param_send, arg_send, shr_sync}
use Rattle.class_store.proofs.Crossing.{pass_send, level_sync}
use Rattle.workers.proofs.Sending.{closure_sync, seen, seen_with}
use Rattle.thread_tests.proofs.batches.Overtaking.TheSendSync as overtaking
use Rattle.thread_tests.proofs.batches.take_parts.Goals as goal

pub for_each_mut-requires-send-T : goal.for_each_mut-requires-send-T
for_each_mut-requires-send-T g c κs within = param_send 1 _ (arg_send _ no _ pass_send)

pub for_each_mut-requires-sync-F : goal.for_each_mut-requires-sync-F
for_each_mut-requires-sync-F g c κs within =
    closure_sync 2 _ no _ (seen_with (shr_sync _ _ _ c.type_bounds.sync-R) (seen_with (shr_sync _ _ _ level_sync) (seen (shr_sync _ _ _ overtaking.the_sync))))
