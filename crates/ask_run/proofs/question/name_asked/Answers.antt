use Rattle.std.proofs.Common.{sym, ◌∙◌, ap}
use Rattle.std.specs.Prelude.{ℕ, List, codes}
use Rattle.formats.specs.Statement.{minor_words}
use Rattle.ask_run.specs.Texts.{texts_of, over_words}
use Rattle.ask_run.proofs.Answered.{texts_behind}
use Rattle.ask_run.proofs.Overs.{behind_three}
use Rattle.ask_run.proofs.question.name_asked.Goals as goal

pub returns-in_err-field : goal.returns-in_err-field
returns-in_err-field c = rw c.from_residual.ensures (λ q name asks. c.in_err-field.ensures q (minor_words name) asks.may.is_order asks.spelled)

pub returns-in_err-item : goal.returns-in_err-item
returns-in_err-item c = rw c.from_residual-in_err-item.ensures (λ q name asks.
    c.in_err-item.ensures name asks.may.sought
    (texts_behind 3 c.args.words.now ∙ behind_three (texts_of c.args.words.now) q (codes "name") (minor_words name)
    asks.spelled))

pub returns : goal.returns
returns c = record {
  may = record { is_order = c.in_ok-field.ensures.0; sought = c.in_ok-item.ensures.0 };
  spelled = c.in_ok-field.ensures.2 ∙ ap (λ (rest : List (List ℕ)). over_words c.in_ok-field.field (codes "name") rest)
      (sym (texts_behind 3 c.args.words.now) ∙ c.in_ok-item.ensures.1);
}
