use Rattle.std.proofs.Common.{ℕ, List, Bool, Some, length, sym, subst, true, slice_index}
use Rattle.form_search.specs.Search.{Stands, Improves, Covers}
use Rattle.form_search.proofs.Full.{level_covers, settled_covers, settled_improves}
use Rattle.form_states.specs.States.{layer_of, rest_of}
use Rattle.fast_form.proofs.search.keep.Goals as goal

pub returns-then-level-clause-covers : goal.returns-then-level-clause-covers
returns-then-level-clause-covers c q d h =
    let r = c.requires.shape.is_rep in
    level_covers c.args.rep.now r.shaped r.fields.some (slice_index c.args.state.now.groups) c.args.settled.now
    (layer_of c.args.rep.now c.args.layer.now c.args.state.now.scalars c.args.state.now.open)
    (rest_of c.args.rep.now 0 c.args.columns.now c.args.row.now.p c.args.row.now.minus c.args.state.now.scalars c.args.row.now.rest) d h c.requires.none
    c.args.best.now c.requires.sound
    (subst (λ (b : Bool). Stands b c.args.best.now c.args.settled.now) c.if-level.true c.requires.stands)

pub returns-clause-improves : goal.returns-clause-improves
returns-clause-improves c =
    let r = c.requires.shape.is_rep in
    let (d, h) = c.requires.state in
    subst (λ (w : List ℕ). Improves c.args.rep.now c.args.best.now (Some w) c.args.settled.now true) (sym c.copy.ensures)
    (settled_improves c.args.rep.now r.shaped r.fields.some (slice_index c.args.state.now.groups) c.args.settled.now
    (layer_of c.args.rep.now c.args.layer.now c.args.state.now.scalars c.args.state.now.open)
    (rest_of c.args.rep.now 0 c.args.columns.now c.args.row.now.p c.args.row.now.minus c.args.state.now.scalars c.args.row.now.rest) d h c.requires.none
    c.args.best.now
    (subst (λ (b : Bool). Stands b c.args.best.now c.args.settled.now) c.if-level.false c.requires.stands))

pub returns-clause-covers : goal.returns-clause-covers
returns-clause-covers c q d h =
    let r = c.requires.shape.is_rep in
    subst (λ (w : List ℕ). Covers c.args.rep.now d 0 (length c.args.settled.now) (Some w)) (sym c.copy.ensures)
    (settled_covers c.args.rep.now r.shaped r.fields.some (slice_index c.args.state.now.groups) c.args.settled.now
    (layer_of c.args.rep.now c.args.layer.now c.args.state.now.scalars c.args.state.now.open)
    (rest_of c.args.rep.now 0 c.args.columns.now c.args.row.now.p c.args.row.now.minus c.args.state.now.scalars c.args.row.now.rest) d h c.requires.none)
