use Rattle.std.proofs.Common.{length}
use Rattle.small_lists.specs.Lists.{lists}
use Rattle.formats.specs.Lines.{words_of}
use Rattle.request_lines.proofs.MatrixLines.{AreRead}
use Rattle.request_lines.proofs.matrix_line.columns_of.Given as goal

abbrev pub invariant-loop-word : goal.invariant-loop-word
invariant-loop-word l = AreRead l.order l.rows l.is_many (lists l.columns.items) (words_of l.fn.rest) (words_of l.left)

abbrev pub decreases-loop-word : goal.decreases-loop-word
decreases-loop-word l = length (words_of l.left)
