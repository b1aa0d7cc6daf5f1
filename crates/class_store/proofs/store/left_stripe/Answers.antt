use Rattle.std.proofs.Common.{◌∙◌, ap, sym}
use Rattle.class_store.proofs.Ends.{one_fresh, first_left}
use Rattle.class_store.proofs.store.left_stripe.Goals as goal

pub returns-clause-left : goal.returns-clause-left
returns-clause-left c = first_left _ _ _ _ c.in_ok-table.ensures.table (ap (λ b. b.left) c.leave.ensures)
    (one_fresh c.in_ok-table.table.table c.pop.new.self.items c.in-Some.caller (sym c.in_ok-table.ensures.callers ∙ c.in-Some.ensures.items))
