-- What may cross threads.
use Rattle.std.proofs.Common.{rules}
use types.Keyed.{entry}
use denote.Builtin.{usize}
use denote.Memory.{part_of}
use denote.RattleType.{RattleType}
use denote.Struct.Declared.{shape}
use denote.Param.Send.{IsSend, IsSync, part_keyless, view_send, view_sync, struct_send, struct_sync, recorded_send, recorded_sync}
use Rattle.std.proofs.Crossing as crossing
use Rattle.std.specs.contracts.alloc.Global as heap
use Rattle.std.specs.contracts.impls.GlobalAllocator.TheImpl as alloc
use Rattle.std.specs.contracts.snapshot.Snapshot as snap
use Rattle.atomic_table.specs.contracts.shared.Seat as seats
use Rattle.atomic_table.proofs.owned.Table.TheSendSync as whole
use Rattle.atomic_table.proofs.shared.Seat.TheSendSync as seat
use Rattle.stripe_book.specs.contracts.ends.Ended as ended
use Rattle.stripe_book.specs.contracts.offer.Offer as offer
use Rattle.stripe_book.specs.contracts.rule.StripeRule as rule
use Rattle.stripe_book.specs.contracts.rule.StripeRuleTableRuleOfferViewUsize.TheImpl as its
use Rattle.stripe_book.specs.contracts.seats.Book as book
use Rattle.stripe_book.specs.contracts.seats.Caller as caller
use Rattle.stripe_book.specs.contracts.table.StripeTable as table
use Rattle.stripe_book.specs.contracts.view.View as view

pub book_send : IsSend book.the_row
unfolding entry part_of
book_send = search rules depth 14

pub caller_send : IsSend caller.the_row
unfolding entry part_of
caller_send = search rules depth 14

-- a seat has no bytes that change behind a `&`, so another thread may see it where it may have it
pub seat_sync : (S V : RattleType) → IsSend S → IsSync (seats.the_row S V)
seat_sync S V s = record { shared = λ d b o κ q. part_keyless (seats.the_row S V) (seat.the_send S V s) q d b o }

-- a snapshot has no bytes
pub snapshot_send : (Y : RattleType) → IsSend (snap.the_row Y)
snapshot_send Y = record { owned = λ d vs. ((λ vss. (tt, ((λ uss. (tt, tt)), tt))), tt); leaving = λ k f vs. tt }

pub snapshot_sync : (Y : RattleType) → IsSync (snap.the_row Y)
snapshot_sync Y = record { shared = λ d b o κ q. part_keyless (snap.the_row Y) (snapshot_send Y) q d b o }

pub book_sync : IsSync book.the_row
book_sync = view_sync book.TheInside.the_row _ _ _ _
    (recorded_sync _ _ _ (book.TheInside.the_type).to_one
    (struct_sync (shape book.TheInside.the_type) (seat_sync offer.the_row view.the_row (search rules), tt)))

pub caller_sync : IsSync caller.the_row
caller_sync = view_sync caller.TheInside.the_row _ _ _ _
    (recorded_sync _ _ _ (caller.TheInside.the_type).to_one
    (struct_sync (shape caller.TheInside.the_type) (search rules, (seat_sync offer.the_row view.the_row (search rules), tt))))

pub ended_send : IsSend ended.the_row
ended_send = view_send ended.TheInside.the_row _ _ _ _
    (recorded_send _ _ _ (ended.TheInside.the_type).to_one
    (struct_send (shape ended.TheInside.the_type) (snapshot_send (seats.the_row offer.the_row view.the_row), tt)))

pub ended_sync : IsSync ended.the_row
ended_sync = view_sync ended.TheInside.the_row _ _ _ _
    (recorded_sync _ _ _ (ended.TheInside.the_type).to_one
    (struct_sync (shape ended.TheInside.the_type) (snapshot_sync (seats.the_row offer.the_row view.the_row), tt)))

table_inside : IsSync table.TheInside.the_row
table_inside = recorded_sync _ _ _ (table.TheInside.the_type).to_one
    (struct_sync (shape table.TheInside.the_type) (
      whole.the_field_sync offer.the_row view.the_row usize rule.the_row heap.the_row its.ghosts alloc.ghosts (search rules) (search rules) (search rules)
          crossing.frees,
      tt,
    ))

pub table_sync : IsSync table.the_row
table_sync = view_sync table.TheInside.the_row _ _ _ _ table_inside
