use Rattle.std.proofs.Common.{◌+◌, ◌≤◌}
use Rattle.matroid_tests.proofs.extensions.extend_by.Given as goal

-- there are no more columns than the iterator says
abbrev pub invariant-loop-column : goal.invariant-loop-column
invariant-loop-column l = l.seen + goal.iterator-loop-column.remaining l.column-iterator ≤ goal.iterator-loop-column.remaining l.initial.column-iterator
