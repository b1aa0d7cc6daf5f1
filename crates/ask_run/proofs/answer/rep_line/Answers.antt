use Rattle.ask_run.proofs.Overs.{form_answer}
use Rattle.ask_run.proofs.answer.rep_line.Goals as goal

pub returns : goal.returns
returns c =
    form_answer c.args.field c.args.rep.now c.represent.result c.matrix_line.result.items c.represent.ensures.matroid c.represent.ensures.found
    c.represent.ensures.none c.matrix_line.ensures
