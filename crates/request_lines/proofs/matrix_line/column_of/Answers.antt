use Rattle.std.proofs.Common.{arith}
use Rattle.request_lines.proofs.MatrixLines.{letter_at}
use Rattle.request_lines.proofs.matrix_line.column_of.Goals as goal

pub returns-in_err-code_of : goal.returns-in_err-code_of
returns-in_err-code_of c = rw c.from_residual.ensures (λ column are is.
    let here = letter_at c.args.order column c.args.word.now c.loop-letter.letter-index 0 are.below is (omega arith) in
    c.in_err-code_of.ensures here.0 here.1 here.2)
