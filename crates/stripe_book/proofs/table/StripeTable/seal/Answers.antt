use Rattle.std.proofs.Common.{rules, sym, subst}
use Rattle.stripe_book.specs.Seen.{IsCaller}
use Rattle.stripe_book.proofs.Alone.{seals_as, caller_to, no_note}
use Rattle.stripe_book.proofs.table.StripeTable.seal.Goals as goal

pub store-requires : goal.store-requires
store-requires c = (search rules, search rules, seals_as _ _ _ _ _ c.caller.invariant.view c.caller.invariant.named (search rules))

pub invariant_of-caller : goal.invariant_of-caller
invariant_of-caller c = let is = c.caller.invariant in
    subst (λ t. IsCaller c.caller.inside.number t.words c.store.new.seat.me) (sym c.store.ensures.0)
    (caller_to _ _ c.caller.inside.seat.me c.store.new.seat.me _ is c.store.ensures.2 is.named (no_note _ _ _ _ _ is.settled (search rules)))
