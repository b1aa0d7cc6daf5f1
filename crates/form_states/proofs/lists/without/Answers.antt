use Rattle.form_states.proofs.Marks.{marked_fewer}
use Rattle.form_states.proofs.lists.without.Goals as goal

pub returns-clause-fewer : goal.returns-clause-fewer
returns-clause-fewer c = marked_fewer c.args.marks.now c.args.e c.requires.marked
