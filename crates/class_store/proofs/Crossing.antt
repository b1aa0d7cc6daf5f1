-- What may cross threads.
use Rattle.std.proofs.Common.{rules}
use denote.Struct.Declared.{shape}
use denote.Param.Send.{IsSend, IsSync, view_send, view_sync, struct_send, struct_sync, recorded_send, recorded_sync}
use Rattle.std.proofs.Crossing as crossing
use Rattle.std.proofs.vec.Vec.TheSendSync as vec
use Rattle.link_set.proofs.set.LinkSet.TheSendSync as sets
use Rattle.stripe_book.specs.contracts.table.StripeTable as table
use Rattle.stripe_book.proofs.Crossing.{caller_send, table_sync, ended_sync}
use Rattle.stripe_turn.specs.contracts.stripe.Stripe as stripe
use Rattle.stripe_turn.proofs.Crossing.{stripe_sync, turn_send, turns_sync}
use Rattle.class_store.specs.contracts.closed.ClosedStripe as closed
use Rattle.class_store.specs.contracts.pass.Pass as pass
use Rattle.class_store.specs.contracts.level.OpenLevel as level

pub pass_send : IsSend pass.the_row
pass_send = view_send pass.TheInside.the_row _ _ _ _
    (recorded_send _ _ _ (pass.TheInside.the_type).to_one
    (struct_send (shape pass.TheInside.the_type) (search rules, (search (vec.the_send, caller_send, crossing.frees, rules) depth 9, (turn_send, tt)))))

pub closed_sync : IsSync closed.the_row
closed_sync = recorded_sync _ _ _ (closed.the_type).to_one (struct_sync (shape closed.the_type) (sets.the_sync, (ended_sync, (search rules, tt))))

pub level_sync : IsSync level.the_row
level_sync = view_sync level.TheInside.the_row _ _ _ _
    (recorded_sync _ _ _ (level.TheInside.the_type).to_one
    (struct_sync (shape level.TheInside.the_type) (
      crossing.Vec-sync table.the_row table_sync,
      (turns_sync, (search rules, (crossing.Vec-sync stripe.the_row stripe_sync, (crossing.Vec-sync closed.the_row closed_sync, tt)))),
    )))
