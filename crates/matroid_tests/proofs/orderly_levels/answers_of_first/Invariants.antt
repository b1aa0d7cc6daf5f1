use Rattle.std.proofs.Common.{◌≡◌}
use Rattle.matroid_tests.proofs.orderly_levels.answers_of_first.Given as goal

-- the columns are those of the parent
abbrev pub invariant-loop-column : goal.invariant-loop-column
invariant-loop-column l = l.column-iterator.parent ≡ l.parent
