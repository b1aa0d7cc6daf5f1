use Rattle.std.proofs.Common.{ℕ, [], List, slice_index, slice_index_or, sym, ap, subst}
use Rattle.matroid_theory.specs.Field.{times}
use Rattle.form_states.specs.Codes.{code}
use Rattle.form_states.specs.States.{IsScaledNumber}
use Rattle.form_states.proofs.GroupSteps.{scaled_same}
use Rattle.form_states.proofs.steps.next_numbers.Goals as goal

pub returns-then-has_same : goal.returns-then-has_same
returns-then-has_same c e l m =
    subst (λ (groups : List ℕ). IsScaledNumber c.args.shape.now.fields (slice_index groups) c.args.shape.now.count c.args.shape.now.rank
    (λ f i. times (slice_index c.args.shape.now.fields f) (code c.args.scalars.now f i) (code (slice_index_or c.args.layer.now e []) f i))
    (slice_index c.args.state.now.numbers e)) (sym (c.has_same.ensures.groups c.if-has_same.true))
    (scaled_same c.args.shape.now.fields c.args.shape.now.count c.args.shape.now.rank (slice_index c.args.state.now.groups)
    (λ f i. times (slice_index c.args.shape.now.fields f) (code c.args.state.now.scalars f i) (code (slice_index_or c.args.layer.now e []) f i))
    (λ f i. times (slice_index c.args.shape.now.fields f) (code c.args.scalars.now f i) (code (slice_index_or c.args.layer.now e []) f i))
    (slice_index c.args.state.now.numbers e) c.requires.limits.one
    (λ f i n b. ap (λ x. times (slice_index c.args.shape.now.fields f) x (code (slice_index_or c.args.layer.now e []) f i))
    (sym (c.has_same.ensures.scalars c.if-has_same.true f i n b)))
    (c.requires.numbered e l (c.requires.marks e m)))
