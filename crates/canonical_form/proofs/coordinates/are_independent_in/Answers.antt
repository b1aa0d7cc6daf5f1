use Rattle.std.proofs.Common.{◌↔◌, true, length}
use Rattle.matroid_theory.specs.Matrix.{IsIndependent}
use Rattle.matroid_theory.specs.Rep.{order}
use Rattle.elimination.specs.Columns.{height, AreIndependent}
use Rattle.canonical_form.specs.Search.{chosen}
use Rattle.canonical_form.proofs.Picks.{ArePicks, named_columns, named_height, named_independent}
use Rattle.canonical_form.proofs.Places.{order_of}
use Rattle.canonical_form.proofs.coordinates.are_independent_in.Goals as goal

pub independent-requires-clause-columns : goal.independent-requires-clause-columns
independent-requires-clause-columns c =
    let p : ArePicks c.args.rep.now c.args.factor c.args.columns.now c.picked-picked.result.items =
    record {
      is_rep = c.picked-picked.ensures.is_rep;
      factor = c.requires.factor;
      below = c.requires.below;
      numbers =
          c.picked-picked.ensures.count;
      codes = c.picked-picked.ensures.columns;
    } in
    named_columns c.args.rep.now c.args.factor c.args.columns.now c.picked-picked.result.items p c.field.result
    (height c.as_slice.result.now) c.as_slice.result.now
    (order_of c.args.rep.now c.factors.result c.field.result c.args.factor c.factors.ensures c.field.ensures) c.as_slice.ensures.value
    (named_height c.args.rep.now c.args.factor c.args.columns.now c.picked-picked.result.items p c.as_slice.result.now c.as_slice.ensures.value c.requires.some)

pub returns : goal.returns
returns c =
    let p : ArePicks c.args.rep.now c.args.factor c.args.columns.now c.picked-picked.result.items =
    record {
      is_rep = c.picked-picked.ensures.is_rep;
      factor = c.requires.factor;
      below = c.requires.below;
      numbers =
          c.picked-picked.ensures.count;
      codes = c.picked-picked.ensures.columns;
    } in
    let s : AreIndependent c.field.result (height c.as_slice.result.now) c.as_slice.result.now
    ↔ IsIndependent (order c.args.rep.now c.args.factor) c.args.rep.now.rank (length c.args.columns.now)
    (chosen c.args.rep.now c.args.columns.now c.args.factor) (λ _. true) =
    named_independent c.args.rep.now c.args.factor c.args.columns.now c.picked-picked.result.items p c.field.result
    (height c.as_slice.result.now) c.as_slice.result.now
    (order_of c.args.rep.now c.factors.result c.field.result c.args.factor c.factors.ensures c.field.ensures) c.as_slice.ensures.value
    (named_height c.args.rep.now c.args.factor c.args.columns.now c.picked-picked.result.items p c.as_slice.result.now
    c.as_slice.ensures.value c.requires.some) in
    (λ t. s.0 (c.independent.ensures.0 t), λ i. c.independent.ensures.1 (s.1 i))
