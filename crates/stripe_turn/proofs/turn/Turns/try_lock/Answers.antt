use Rattle.std.proofs.Common.{◌∷◌, ap, ◌∙◌, sym, subst, ◌<◌, Some, length}
use Rattle.atomic_table.specs.Table.{rest}
use Rattle.stripe_turn.proofs.Turning.{attempts}
use Rattle.stripe_turn.proofs.turn.Turns.try_lock.Goals as goal

pub compare_exchange-requires : goal.compare_exchange-requires
compare_exchange-requires c =
    let at = subst (λ v. c.args.at < length v.tables) (sym c.self.view_is) c.requires.at in (
      c.requires.table ∙ ap (λ v. v.turns) (sym c.self.view_is),
      subst (λ n. c.args.at < n) (sym c.self.invariant.0) at,
      attempts c.self.inside.table.shared.key _ _ _ _ at,
    )

pub exchange-requires : goal.exchange-requires
exchange-requires c =
    let got = c.compare_exchange.ensures.2.0 c.if-compare_exchange-ne0.false in let slots = ap (λ m. m.1) got.1 in (
      c.compare_exchange.ensures.0 ∙ (c.requires.table ∙ ap (λ v. v.turns) (sym c.self.view_is)),
      (Some got.0, slots ∙ ap (λ r. (c.args.at, Some got.0) ∷ r) (sym (ap rest slots))),
    )
