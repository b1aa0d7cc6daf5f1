use Rattle.std.proofs.Common.{◌<◌, ◌+◌, ◌*◌, length, sym, subst, slice_index}
use Rattle.matroid_theory.specs.Move.{MoveTable}
use Rattle.product_rep.specs.Tables.{table}
use Rattle.product_rep.proofs.EntryLemmas.{rows_kept, set_in_place}
use Rattle.product_rep.proofs.moves.Move.set_rows.Goals as goal

pub invariant_of-self : goal.invariant_of-self
invariant_of-self c =
    let r = c.from-rank.ensures in
    rows_kept (table c.self.inside) c.self.invariant c.args.factor c.args.row c.args.column c.args.code c.args.inverse_code
    ((c.args.factor * c.from-rank.result + c.args.row) * c.from-rank.result + c.args.column)
    (subst (λ (t : MoveTable). c.args.factor < length t.shape.factors) (sym c.self.view_is) c.requires.factor)
    (subst (λ (t : MoveTable). c.args.row < t.shape.rank) (sym c.self.view_is) c.requires.row)
    (subst (λ (t : MoveTable). c.args.column < t.shape.rank) (sym c.self.view_is) c.requires.column)
    (subst (λ (t : MoveTable). c.args.code < slice_index t.shape.factors c.args.factor) (sym c.self.view_is) c.requires.code)
    (subst (λ (t : MoveTable). c.args.inverse_code < slice_index t.shape.factors c.args.factor) (sym c.self.view_is) c.requires.inverse_code)
    (λ u. (c.args.factor * r u + c.args.row) * r u + c.args.column)
    _ _ (set_in_place c.self.inside.rows.items c.deref_mut.result.now _ c.args.code c.deref_mut.ensures.value)
    (set_in_place c.self.inside.back.items c.deref_mut-2.result.now _ c.args.inverse_code c.deref_mut-2.ensures.value)
