use Rattle.std.proofs.Common.{rules}
use denote.Exit.{no}
use denote.Struct.Declared.{shape}
use denote.Param.Send.{IsSend, param_send, arg_send, shr_sync, recorded_send, struct_send}
use Rattle.std.proofs.Crossing as crossing
use Rattle.class_store.proofs.Crossing.{pass_send, level_sync}
use Rattle.steal_pool.proofs.shift.Shift.TheSendSync as shifts
use Rattle.std.proofs.sync.atomic.AtomicBool.TheSendSync as flags
use Rattle.request_reader.proofs.request.Request.TheSendSync as requests
use Rattle.level_driver.proofs.form_list.FormList.TheSendSync as forms
use Rattle.workers.specs.contracts.worker.Worker as worker
use Rattle.workers.proofs.Sending.{closure_sync, seen, seen_with}
use Rattle.workers.proofs.threads.run.Goals as goal

worker_send : IsSend worker.the_row
worker_send = recorded_send _ _ _ (worker.the_type).to_one (struct_send (shape worker.the_type) (
  pass_send,
  (shifts.the_field_send, (search rules, tt)),
))

pub for_each_mut-requires-send-T : goal.for_each_mut-requires-send-T
for_each_mut-requires-send-T g c κs within = param_send 1 _ (arg_send _ no _ worker_send)

pub for_each_mut-requires-sync-F : goal.for_each_mut-requires-sync-F
for_each_mut-requires-sync-F g c κs within =
    closure_sync 2 _ no _ (seen_with (shr_sync _ _ _ c.type_bounds.sync-R) (seen_with (shr_sync _ _ _ crossing.sync) (seen_with
    (shr_sync _ _ _ requests.the_sync)
    (seen_with (shr_sync _ _ _ forms.the_sync) (seen_with (shr_sync _ _ _ level_sync) (seen_with (shr_sync _ _ _ flags.the_sync)
    (seen (shr_sync _ _ _ c.type_bounds.sync-G))))))))
