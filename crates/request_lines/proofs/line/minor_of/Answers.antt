use Rattle.std.proofs.Common.{◌≡◌, ◌∙◌, ◌∷◌, ap, arith}
use Rattle.std.specs.Prelude.{codes}
use Rattle.std.proofs.lemmas.Slice.Eq.{text_from_reads}
use Rattle.formats.specs.Lines.{words_of}
use Rattle.request_lines.specs.Versions.{version_number}
use Rattle.request_lines.proofs.Spellings.{matrix_read}
use Rattle.request_lines.proofs.line.minor_of.Goals as goal

pub returns-in-matrix-default : goal.returns-in-matrix-default
returns-in-matrix-default c =
    let word : c.in_ok-next_word.field-0.0.now ≡ codes "matrix" =
    text_from_reads c.in_ok-next_word.field-0.0.now (codes "matrix") (omega arith)
    (omega arith, (omega arith, (omega arith, (omega arith, (omega arith, (omega arith, tt)))))) in
    matrix_read (version_number c.args.version) c.matrix_of.result (words_of c.args.rest.now) _
    (c.in_ok-next_word.ensures.words ∙ ap (λ w. w ∷ words_of c.in_ok-next_word.field-0.1.now) word) c.matrix_of.ensures
