use Rattle.form_states.specs.States.{rest_of}
use Rattle.form_states.proofs.Shapes.{least_numbers_are}
use Rattle.form_states.proofs.steps.numbers_are_least.Goals as goal

pub returns : goal.returns
returns c d settled w =
    least_numbers_are c.args.rep.now c.args.shape.now.fields c.args.shape.now.count c.args.shape.now.rank c.args.shape.now.size c.requires.shape c.args.k
    c.args.state.now.groups settled c.args.layer.now
    c.args.state.now.scalars c.args.state.now.open (rest_of c.args.rep.now c.args.k c.args.columns.now c.args.row.now.p c.args.row.now.minus
    c.args.state.now.scalars c.args.row.now.rest) d c.args.state.now.numbers
    c.requires.codes.groups_are w c.requires.numbered
