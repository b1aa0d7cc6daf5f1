use Rattle.std.proofs.Common.{◌≡◌, take}
use Rattle.small_lists.specs.Lists.{lists}
use Rattle.matroid_tests.proofs.matrices.columns_of.Given as goal

abbrev pub invariant-loop-codes : goal.invariant-loop-codes
invariant-loop-codes g l = lists l.columns.items ≡ take l.codes-index l.table
