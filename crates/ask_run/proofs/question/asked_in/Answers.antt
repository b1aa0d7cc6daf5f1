use Rattle.ask_run.specs.Texts.{texts_of}
use Rattle.ask_run.proofs.Overs.{no_question}
use Rattle.ask_run.proofs.question.asked_in.Goals as goal

pub returns-in_err-field : goal.returns-in_err-field
returns-in_err-field c = rw c.from_residual.ensures
    (no_question (texts_of c.args.words.now) c.in_default.ensures c.in_default-name_asked.ensures c.in_err-field.ensures)
