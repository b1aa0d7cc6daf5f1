use Rattle.std.proofs.Common.{◌<◌, ◌+◌, ◌*◌, length, sym, subst, slice_index}
use Rattle.matroid_theory.specs.Move.{MoveTable}
use Rattle.product_rep.specs.Tables.{table}
use Rattle.product_rep.proofs.EntryLemmas.{scalar_kept, set_in_place}
use Rattle.product_rep.proofs.moves.Move.set_scalar.Goals as goal

pub invariant_of-self : goal.invariant_of-self
invariant_of-self c =
    let n = c.from.ensures in
    scalar_kept (table c.self.inside) c.self.invariant c.args.factor c.args.j c.args.code (c.args.factor * c.from.result + c.args.j)
    (subst (λ (t : MoveTable). c.args.factor < length t.shape.factors) (sym c.self.view_is) c.requires.factor)
    (subst (λ (t : MoveTable). c.args.j < t.shape.size) (sym c.self.view_is) c.requires.column)
    (subst (λ (t : MoveTable). c.args.code < slice_index t.shape.factors c.args.factor) (sym c.self.view_is) c.requires.code)
    (λ u. c.args.factor * n u + c.args.j)
    _ (set_in_place c.self.inside.scalars.items c.deref_mut.result.now _ c.args.code c.deref_mut.ensures.value)
