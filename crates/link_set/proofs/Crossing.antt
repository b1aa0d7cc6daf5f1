-- Keys and sets may cross threads.
use denote.Param.Send.{IsSend, IsSync}
use Rattle.link_set.specs.contracts.key.Key as key
use Rattle.link_set.specs.contracts.set.LinkSet as set
use Rattle.link_set.proofs.key.Key.TheSendSync as keys
use Rattle.link_set.proofs.set.LinkSet.TheSendSync as sets

pub key_send : IsSend key.the_row
key_send = keys.the_send

pub key_sync : IsSync key.the_row
key_sync = keys.the_sync

pub set_send : IsSend set.the_row
set_send = sets.the_send

pub set_sync : IsSync set.the_row
set_sync = sets.the_sync
