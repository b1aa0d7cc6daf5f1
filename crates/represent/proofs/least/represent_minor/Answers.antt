use Rattle.std.proofs.Common.{◌≡◌, sym, ◌∙◌, subst}
use Rattle.represent.specs.Sought.{IsSought}
use Rattle.represent.proofs.Targets.{small_sought}
use Rattle.represent.proofs.least.represent_minor.Goals as goal

pub least_over-requires : goal.least_over-requires
least_over-requires c =
    let e : c.args.minor.now ≡ record { rank = c.rank.result; size = c.size.result; bases = c.table_of.result } =
    λ i. record { rank = sym c.rank.ensures i; size = sym c.size.ensures.value i; bases = sym (c.table_of.ensures ∙ c.bases.ensures) i } in
    subst (IsSought c.order.result) e
    (small_sought c.order.result c.args.minor.now c.order.ensures.is_order c.laws.ensures c.requires.low c.requires.high c.requires.first)
