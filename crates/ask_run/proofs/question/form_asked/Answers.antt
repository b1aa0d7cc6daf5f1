use Rattle.std.proofs.Common.{sym, ◌∙◌, ap}
use Rattle.std.specs.Prelude.{ℕ, List, codes}
use Rattle.ask_formats.specs.Question.{representation_words}
use Rattle.ask_run.specs.Texts.{texts_of, over_words}
use Rattle.ask_run.proofs.Answered.{texts_behind}
use Rattle.ask_run.proofs.Overs.{behind_three}
use Rattle.ask_run.proofs.question.form_asked.Goals as goal

pub returns-in_err-field : goal.returns-in_err-field
returns-in_err-field c = rw c.from_residual.ensures (λ q M asks. c.in_err-field.ensures q (representation_words M) asks.may.is_order asks.spelled)

pub returns-in_err-rep : goal.returns-in_err-rep
returns-in_err-rep c = rw c.from_residual-in_err-rep.ensures (λ q M asks.
    c.in_err-rep.ensures M asks.may.named
    (texts_behind 3 c.args.words.now ∙ behind_three (texts_of c.args.words.now) q (codes "form") (representation_words M)
    asks.spelled))

pub returns : goal.returns
returns c = record {
  may = record { is_order = c.in_ok-field.ensures.0; named = c.in_ok-rep.ensures.0 };
  spelled = c.in_ok-field.ensures.2 ∙ ap (λ (rest : List (List ℕ)). over_words c.in_ok-field.field (codes "form") rest)
      (sym (texts_behind 3 c.args.words.now) ∙ c.in_ok-rep.ensures.1);
}
