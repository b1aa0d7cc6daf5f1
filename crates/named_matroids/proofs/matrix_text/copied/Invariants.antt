use Rattle.std.proofs.Common.{◌≡◌, take}
use Rattle.small_lists.specs.Lists.{lists}
use Rattle.named_matroids.proofs.matrix_text.copied.Given as goal

abbrev pub invariant-loop-column : goal.invariant-loop-column
invariant-loop-column l = lists l.copies.items ≡ take l.column-index (lists l.columns)
