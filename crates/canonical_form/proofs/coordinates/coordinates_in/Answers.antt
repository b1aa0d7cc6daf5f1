use Rattle.std.proofs.Common.{◌↔◌, ℕ, List, true, length, ap, subst, sym, ◌∙◌}
use Rattle.arrayvec.specs.ArrayVec.{ArrayVec}
use Rattle.matroid_theory.specs.Matrix.{IsIndependent}
use Rattle.matroid_theory.specs.Rep.{order}
use Rattle.elimination.specs.Columns.{AreIndependent, IsColumn}
use Rattle.product_rep.proofs.MoveLemmas.{column-length}
use Rattle.canonical_form.specs.Search.{chosen}
use Rattle.canonical_form.proofs.Picks.{ArePicks, named_columns, named_independent, named_combination, factor_column_is}
use Rattle.canonical_form.proofs.Places.{order_of}
use Rattle.canonical_form.proofs.coordinates.coordinates_in.Goals as goal

pub solve-requires-clause-square : goal.solve-requires-clause-square
solve-requires-clause-square c =
    ap (λ (w : List (ArrayVec ℕ)). length w) c.as_slice.ensures.value ∙ c.picked-columns.ensures.count ∙ c.requires.basis.full
    ∙ sym (column-length c.args.rep.now c.args.factor c.args.k c.factor_column.result.items c.factor_column.ensures)

pub solve-requires-clause-basis : goal.solve-requires-clause-basis
solve-requires-clause-basis c =
    let p : ArePicks c.args.rep.now c.args.factor c.args.basis.now c.picked-columns.result.items =
    record {
      is_rep = c.requires.is_rep;
      factor = c.requires.factor;
      below = c.requires.basis.are_independent.below;
      numbers =
          c.picked-columns.ensures.count;
      codes = c.picked-columns.ensures.columns;
    } in
    named_columns c.args.rep.now c.args.factor c.args.basis.now c.picked-columns.result.items p c.field.result
    (length c.factor_column.result.items) c.as_slice.result.now
    (order_of c.args.rep.now c.factors.result c.field.result c.args.factor c.factors.ensures c.field.ensures) c.as_slice.ensures.value
    (column-length c.args.rep.now c.args.factor c.args.k c.factor_column.result.items c.factor_column.ensures)

pub solve-requires-clause-column : goal.solve-requires-clause-column
solve-requires-clause-column c =
    factor_column_is c.args.rep.now c.args.factor c.args.k c.field.result c.factor_column.result.items c.requires.is_rep c.requires.factor c.requires.column
    (order_of c.args.rep.now c.factors.result c.field.result c.args.factor c.factors.ensures c.field.ensures) c.factor_column.ensures

pub solve-requires-clause-independent : goal.solve-requires-clause-independent
solve-requires-clause-independent c =
    let p : ArePicks c.args.rep.now c.args.factor c.args.basis.now c.picked-columns.result.items =
    record {
      is_rep = c.requires.is_rep;
      factor = c.requires.factor;
      below = c.requires.basis.are_independent.below;
      numbers =
          c.picked-columns.ensures.count;
      codes = c.picked-columns.ensures.columns;
    } in
    let s : AreIndependent c.field.result (length c.factor_column.result.items) c.as_slice.result.now
    ↔ IsIndependent (order c.args.rep.now c.args.factor) c.args.rep.now.rank (length c.args.basis.now)
    (chosen c.args.rep.now c.args.basis.now c.args.factor) (λ _. true) =
    named_independent c.args.rep.now c.args.factor c.args.basis.now c.picked-columns.result.items p c.field.result
    (length c.factor_column.result.items) c.as_slice.result.now
    (order_of c.args.rep.now c.factors.result c.field.result c.args.factor c.factors.ensures c.field.ensures) c.as_slice.ensures.value
    (column-length c.args.rep.now c.args.factor c.args.k c.factor_column.result.items c.factor_column.ensures) in
    s.1 (c.requires.basis.are_independent.independent c.args.factor c.requires.factor)

pub returns-clause-codes : goal.returns-clause-codes
returns-clause-codes c =
    subst (λ (q : ℕ). IsColumn q c.args.rep.now.rank c.solve.result.items)
    (order_of c.args.rep.now c.factors.result c.field.result c.args.factor c.factors.ensures c.field.ensures)
    (subst (λ (r : ℕ). IsColumn c.field.result r c.solve.result.items)
    (column-length c.args.rep.now c.args.factor c.args.k c.factor_column.result.items c.factor_column.ensures) c.solve.ensures.codes)

pub returns-clause-combined : goal.returns-clause-combined
returns-clause-combined c =
    let p : ArePicks c.args.rep.now c.args.factor c.args.basis.now c.picked-columns.result.items =
    record {
      is_rep = c.requires.is_rep;
      factor = c.requires.factor;
      below = c.requires.basis.are_independent.below;
      numbers =
          c.picked-columns.ensures.count;
      codes = c.picked-columns.ensures.columns;
    } in
    named_combination c.args.rep.now c.args.factor c.args.basis.now c.picked-columns.result.items p c.field.result c.args.k
    c.as_slice.result.now c.solve.result.items c.factor_column.result.items
    (order_of c.args.rep.now c.factors.result c.field.result c.args.factor c.factors.ensures c.field.ensures)
    c.as_slice.ensures.value c.factor_column.ensures c.requires.basis.full c.solve.ensures.combination
