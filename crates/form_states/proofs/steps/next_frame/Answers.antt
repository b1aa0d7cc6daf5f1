use Rattle.form_states.specs.States.{layer_of}
use Rattle.form_states.proofs.Moves.{leads}
use Rattle.form_states.proofs.steps.next_frame.Goals as goal

pub returns-clause-leads : goal.returns-clause-leads
returns-clause-leads c =
    leads c.args.rep.now c.args.shape.now.fields c.args.shape.now.count c.args.shape.now.rank c.args.shape.now.size c.requires.shape c.args.k c.requires.row
    c.args.columns.now c.args.row.now.p
    c.args.row.now.minus c.args.state.now.scalars c.args.row.now.rest (layer_of c.args.rep.now c.args.layer.now c.args.state.now.scalars
    c.args.state.now.open) c.args.state.now.groups c.args.after.now c.requires.next
