-- A shift may be handed to a thread.
use denote.Param.Send.{IsSend}
use Rattle.steal_pool.specs.contracts.shift.Shift as shift
use Rattle.steal_pool.proofs.shift.Shift.TheSendSync as generated

pub shift_send : IsSend shift.the_row
shift_send = generated.the_send
