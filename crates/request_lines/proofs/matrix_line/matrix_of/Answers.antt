use Rattle.std.proofs.Common.{◌≡◌, ℕ, subst}
use Rattle.formats.specs.Lines.{words_of}
use Rattle.request_lines.specs.Matrices.{AreColumns, column_words}
use Rattle.request_lines.proofs.MatrixLines.{columns_of_matrix, same_order}
use Rattle.request_lines.proofs.matrix_line.matrix_of.Goals as goal

pub returns-in_err-columns : goal.returns-in_err-columns
returns-in_err-columns c = rw c.from_residual-in_err-columns.ensures (λ order columns is small e.
    let words = c.in_ok-word.ensures.words in
    let order_is : order ≡ c.in_ok-order.order =
    same_order order c.in_ok-order.order columns _ (words_of c.in_ok-word.after.now) c.in_ok-word.word.now is.is_order
    c.in_ok-order.ensures.0.0 e words c.in_ok-order.ensures.1 in
    let left : words_of c.in_ok-word.after.now ≡ column_words columns = cc (e, words) in
    c.in_err-columns.ensures columns (subst (λ (q : ℕ). AreColumns q columns) order_is (columns_of_matrix order columns is)) left)
