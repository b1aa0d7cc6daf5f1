use Rattle.std.proofs.Common.{◌≡◌, ◌∙◌, ℕ, List, ◌∷◌, ap, sym, arith}
use Rattle.std.specs.Prelude.{codes}
use Rattle.std.proofs.lemmas.Slice.Eq.{text_from_reads}
use Rattle.formats.specs.Lines.{words_of}
use Rattle.formats.specs.Request.{says_two}
use Rattle.request_lines.proofs.FirstLine.{after_version}
use Rattle.request_lines.proofs.version.says_two.Goals as goal

pub returns-in-Some-version-default : goal.returns-in-Some-version-default
returns-in-Some-version-default c =
    let arm = c.in-Some-version-default in
    let word : arm.field-0-0.now ≡ codes "version" =
    text_from_reads arm.field-0-0.now (codes "version") (omega arith)
    (omega arith, (omega arith, (omega arith, (omega arith, (omega arith, (omega arith, (omega arith, tt))))))) in
    after_version c.is_only_word.result (words_of arm.rest.now) c.is_only_word.ensures
    ∙ ap (λ (w : List ℕ). says_two (w ∷ words_of arm.rest.now)) (sym word)
    ∙ ap says_two (sym arm.ensures.words)
