use Rattle.elimination.specs.Columns.{column, height}
use Rattle.column_sets.proofs.PickedColumns.{named_are_columns, named_are_independent}
use Rattle.matroid_theory.specs.Matroid.{members}
use Rattle.column_sets.proofs.columns.independent_in.Goals as goal

pub independent-requires-clause-columns : goal.independent-requires-clause-columns
independent-requires-clause-columns c =
    named_are_columns c.args.field c.laws.ensures (height c.args.columns.now) _ (column c.args.columns.now) c.requires.columns
    (members c.args.set) c.picked-columns.result.items c.picked-columns.ensures
    c.as_slice.result.now c.as_slice.ensures.value

pub returns : goal.returns
returns c =
    let s = named_are_independent c.args.field c.laws.ensures (height c.args.columns.now) _ (column c.args.columns.now)
    c.requires.columns (members c.args.set) c.picked-columns.result.items c.picked-columns.ensures
    c.as_slice.result.now c.as_slice.ensures.value in
    (λ t. s.0 (c.independent.ensures.0 t), λ i. c.independent.ensures.1 (s.1 i))
