use Rattle.std.proofs.Common.{List, Bool, [], slice_index_or, subst, sym, arith}
use Rattle.form_trails.specs.Pivot.{pivoted}
use Rattle.form_states.specs.Codes.{code}
use Rattle.form_states.specs.States.{layer_of, rest_of}
use Rattle.form_states.specs.Steps.{Places}
use Rattle.form_states.proofs.Moves.{places}
use Rattle.form_states.proofs.steps.placed.Goals as goal

pub returns-clause-places : goal.returns-clause-places
returns-clause-places c =
    let u = c.requires.scaled in
    let (met, m, w) = c.tied_groups-groups.ensures.tied in
    subst (λ (open_after : List Bool). Places c.args.rep.now c.args.k c.args.state.now.groups
    (layer_of c.args.rep.now c.args.layer.now c.args.state.now.scalars c.args.state.now.open)
    (rest_of c.args.rep.now c.args.k c.args.columns.now c.args.row.now.p c.args.row.now.minus c.args.state.now.scalars c.args.row.now.rest)
    c.args.e (layer_of c.args.rep.now c.args.layer.now c.args.scalars.now open_after)
    (rest_of c.args.rep.now c.args.k c.args.columns.now c.args.row.now.p c.args.row.now.minus c.args.scalars.now c.args.row.now.rest)
    c.tied_groups-groups.result) (sym c.without-open.ensures.marks)
    (places c.args.rep.now c.args.shape.now.fields c.args.shape.now.count c.args.shape.now.rank c.args.shape.now.size c.requires.shape c.args.k c.requires.row
    (λ e. code (slice_index_or c.args.layer.now e [])) (λ e. pivoted c.args.rep.now c.args.row.now.p c.args.k (code c.args.row.now.minus)
    (code (slice_index_or c.args.columns.now e [])))
    c.args.state.now.scalars c.args.state.now.open c.args.row.now.rest c.args.state.now.groups c.args.e c.requires.codes.groups_are c.requires.element
    c.args.column.now c.requires.products
    u.own u.own_code u.own_factors c.args.scalars.now u.products c.tied_groups-groups.result met m w c.tied_groups-groups.ensures.none (omega arith))
