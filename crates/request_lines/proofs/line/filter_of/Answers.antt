use Rattle.std.proofs.Common.{◌≡◌, ◌∙◌, ℕ, List, ◌∷◌, refl, ap, arith}
use Rattle.std.specs.Prelude.{codes}
use Rattle.std.proofs.lemmas.Slice.Eq.{text_from_reads}
use Rattle.formats.specs.Lines.{words_of}
use Rattle.formats.specs.Statement.{ListsWith, minor_words}
use Rattle.request_lines.specs.Versions.{version_number}
use Rattle.request_lines.proofs.Spellings.{no_flag}
use Rattle.request_lines.proofs.line.filter_of.Goals as goal

pub returns-in_err-flag_of-in_default : goal.returns-in_err-flag_of-in_default
returns-in_err-flag_of-in_default c = rw c.from_residual-in_err-flag_of-in_default.ensures
    (λ entry said. no_flag (version_number c.args.version) (words_of c.args.rest.now) c.in_ok-only_word-in_default.field-0.now entry
    c.in_ok-only_word-in_default.ensures c.in_err-flag_of-in_default.ensures said)

pub returns-in_ok-minor_of-in-has-default : goal.returns-in_ok-minor_of-in-has-default
returns-in_ok-minor_of-in-has-default c =
    let named = c.in_ok-minor_of-in-has-default.ensures in
    let word : c.in_ok-next_word.field-0.0.now ≡ codes "has" = text_from_reads c.in_ok-next_word.field-0.0.now (codes "has")
    (omega arith) (omega arith, (omega arith, (omega arith, tt))) in
    let words : words_of c.args.rest.now ≡ codes "has" ∷ minor_words named.0 = c.in_ok-next_word.ensures.words ∙ (λ i. word i ∷ named.3 i) in (
      ListsWith named.0,
      record {
        may = named.1;
        of_version = named.2;
        spelled =
            ap (λ (ws : List (List ℕ)). codes "filter" ∷ ws) words;
      },
      (named.0, refl, named.4),
    )
