use Rattle.std.proofs.Common.{◌<◌, length, sym, subst, slice_index}
use Rattle.matroid_theory.specs.Field.{degree}
use Rattle.matroid_theory.specs.Move.{MoveTable}
use Rattle.product_rep.specs.Tables.{table}
use Rattle.product_rep.proofs.EntryLemmas.{power_kept, set_in_place}
use Rattle.product_rep.proofs.moves.Move.set_power.Goals as goal

pub invariant_of-self : goal.invariant_of-self
invariant_of-self c =
    power_kept (table c.self.inside) c.self.invariant c.args.factor c.args.power
    (subst (λ (t : MoveTable). c.args.factor < length t.shape.factors) (sym c.self.view_is) c.requires.factor)
    (subst (λ (t : MoveTable). c.args.power < degree (slice_index t.shape.factors c.args.factor)) (sym c.self.view_is) c.requires.power)
    _ (set_in_place c.self.inside.powers.items c.deref_mut.result.now _ c.args.power c.deref_mut.ensures.value)
