-- What may cross threads.
use Rattle.std.proofs.Common.{rules}
use denote.Struct.Declared.{shape}
use denote.Param.Send.{IsSend, IsSync, view_send, view_sync, struct_send, struct_sync, recorded_send, recorded_sync}
use Rattle.std.proofs.Crossing as crossing
use Rattle.std.specs.contracts.alloc.Global as heap
use Rattle.std.specs.contracts.impls.GlobalAllocator.TheImpl as alloc
use Rattle.std.specs.contracts.option.Option as option
use Rattle.std.proofs.option.Option.TheSendSync as maybe
use Rattle.atomic_table.proofs.owned.Table.TheSendSync as whole
use Rattle.atomic_table.proofs.shared.Seat.TheSendSync as seat
use Rattle.link_set.proofs.set.LinkSet.TheSendSync as sets
use Rattle.arrayvec.proofs.array_vec.ArrayVec.TheSendSync as short
use Rattle.stripe_book.proofs.Crossing.{book_send, book_sync}
use Rattle.stripe_turn.specs.contracts.stripe.Stripe as stripe
use Rattle.stripe_turn.specs.contracts.stripe.Tables as tables
use Rattle.stripe_turn.specs.contracts.rule.TurnRule as rule
use Rattle.stripe_turn.specs.contracts.rule.TurnRuleTableRuleOptionStripeTablesTables.TheImpl as its
use Rattle.stripe_turn.specs.contracts.turn.Turn as turn
use Rattle.stripe_turn.specs.contracts.turn.Turns as turns

pub stripe_send : IsSend stripe.the_row
stripe_send = recorded_send _ _ _ (stripe.the_type).to_one (struct_send (shape stripe.the_type) (sets.the_send, (book_send, (search rules, tt))))

pub stripe_sync : IsSync stripe.the_row
stripe_sync = recorded_sync _ _ _ (stripe.the_type).to_one (struct_sync (shape stripe.the_type) (sets.the_sync, (book_sync, (search rules, tt))))

pub place_send : IsSend (option.the_row stripe.the_row)
place_send = maybe.the_send stripe.the_row stripe_send

pub turn_send : IsSend turn.the_row
turn_send = view_send turn.TheInside.the_row _ _ _ _
    (recorded_send _ _ _ (turn.TheInside.the_type).to_one
    (struct_send (shape turn.TheInside.the_type) (
      search (short.the_send, rules) depth 9,
      (seat.the_send (option.the_row stripe.the_row) tables.the_row place_send, tt),
    )))

pub turns_sync : IsSync turns.the_row
turns_sync = view_sync turns.TheInside.the_row _ _ _ _ (recorded_sync _ _ _ (turns.TheInside.the_type).to_one (struct_sync (shape turns.TheInside.the_type) (
  whole.the_field_sync (option.the_row stripe.the_row) tables.the_row tables.the_row rule.the_row heap.the_row its.ghosts alloc.ghosts place_send
      (search rules) (search rules) crossing.frees,
  tt,
)))
