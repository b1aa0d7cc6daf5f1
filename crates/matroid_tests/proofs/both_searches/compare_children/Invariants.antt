use Rattle.std.proofs.Common.{◌≡◌}
use Rattle.matroid_tests.proofs.both_searches.compare_children.Given as goal

-- the columns are those of the parent
abbrev pub invariant-loop-column : goal.invariant-loop-column
invariant-loop-column g l = l.column-iterator.parent ≡ l.parent
