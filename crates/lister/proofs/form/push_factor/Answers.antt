use Rattle.std.proofs.Common.{◌≡◌, ◌∙◌, ap, arith, map}
use Rattle.std.specs.List.{join_with_byte}
use Rattle.formats.specs.Listing.{factor_text}
use Rattle.formats.specs.Levels.{columns_of_factor}
use Rattle.lister.proofs.Forms.{factor_from_words}
use Rattle.lister.proofs.form.push_factor.Goals as goal
use Rattle.lister.proofs.form.push_factor.Goals.{then-factor-gt0, else-factor-gt0}

pub returns-clause-first : goal.returns-clause-first
returns-clause-first c = λ none.
    let text_is : join_with_byte 32 (map (λ word. word.items) c.as_slice.result.now) ≡ factor_text (columns_of_factor c.args.rep.now c.args.factor) =
    ap (λ words. join_with_byte 32 (map (λ word. word.items) words)) c.as_slice.ensures.value
    ∙ factor_from_words c.args.rep.now c.args.factor
    (λ word. word.items) c.factor_words-words.result.items c.factor_words-words.ensures.words in
    elim c.if-factor-gt0.branch [ then-factor-gt0 w ↦ absurd (omega arith) | else-factor-gt0 w ↦ cc (c.push_words.ensures.bytes, text_is, w.line-is) ]

pub returns-clause-later : goal.returns-clause-later
returns-clause-later c = λ some.
    let text_is : join_with_byte 32 (map (λ word. word.items) c.as_slice.result.now) ≡ factor_text (columns_of_factor c.args.rep.now c.args.factor) =
    ap (λ words. join_with_byte 32 (map (λ word. word.items) words)) c.as_slice.ensures.value
    ∙ factor_from_words c.args.rep.now c.args.factor
    (λ word. word.items) c.factor_words-words.result.items c.factor_words-words.ensures.words in
    elim c.if-factor-gt0.branch [
      | then-factor-gt0 w ↦ cc (c.push_words.ensures.bytes, text_is, w.line-is, w.push_bytes.ensures)
      | else-factor-gt0 w ↦
          absurd (omega arith)
    ]
