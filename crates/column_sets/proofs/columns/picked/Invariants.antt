use Rattle.matroid_theory.specs.Matroid.{members}
use Rattle.elimination.specs.Columns.{column}
use Rattle.column_sets.specs.Picked.{ArePicked}
use Rattle.column_sets.proofs.columns.picked.Given as goal

abbrev pub invariant-loop-j : goal.invariant-loop-j
invariant-loop-j l = ArePicked (column l.columns) l.j (members l.set) l.list.items
