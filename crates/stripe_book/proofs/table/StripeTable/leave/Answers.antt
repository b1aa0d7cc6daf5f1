use Rattle.std.proofs.Common.{rules}
use Rattle.stripe_book.proofs.Ending.{leaves_at}
use Rattle.stripe_book.proofs.table.StripeTable.leave.Goals as goal

pub join_seat-requires : goal.join_seat-requires
join_seat-requires c = (
  search rules,
  search rules,
  search rules,
  search rules,
  leaves_at _ _ _ _ _ _ _ c.book.invariant.view c.caller.invariant.view (search rules),
)
