use Rattle.std.proofs.Common.{◌∙◌, ap, subst}
use Rattle.matroid_theory.specs.Rep.{Rep}
use Rattle.extension.specs.Admissible.{IsAdmissible, ColumnsAfter}
use Rattle.matroid_tests.proofs.OneParent.{is_parent, is_before, is_form_of}
use Rattle.matroid_tests.proofs.orderly_levels.answers_of_first.Goals as goal

pub of-column-items-requires-clause-standard : goal.of-column-items-requires-clause-standard
of-column-items-requires-clause-standard c =
    let p = is_parent c.args.request.now c.laws.ensures.forbidden.0 c.laws.ensures.forbidden.1 c.requires.0 c.args.forms.now c.requires.1 0
    c.in-Some.parent.now c.in-Some.ensures c.laws.ensures.factors c.laws.ensures.limits in
    p.standard

pub of-column-items-requires-clause-simple : goal.of-column-items-requires-clause-simple
of-column-items-requires-clause-simple c =
    let p = is_parent c.args.request.now c.laws.ensures.forbidden.0 c.laws.ensures.forbidden.1 c.requires.0 c.args.forms.now c.requires.1 0
    c.in-Some.parent.now c.in-Some.ensures c.laws.ensures.factors c.laws.ensures.limits in
    p.simple

pub of-column-items-requires-clause-agrees : goal.of-column-items-requires-clause-agrees
of-column-items-requires-clause-agrees c =
    let p = is_parent c.args.request.now c.laws.ensures.forbidden.0 c.laws.ensures.forbidden.1 c.requires.0 c.args.forms.now c.requires.1 0
    c.in-Some.parent.now c.in-Some.ensures c.laws.ensures.factors c.laws.ensures.limits in
    p.agrees

pub of-column-items-requires-clause-room : goal.of-column-items-requires-clause-room
of-column-items-requires-clause-room c =
    let p = is_parent c.args.request.now c.laws.ensures.forbidden.0 c.laws.ensures.forbidden.1 c.requires.0 c.args.forms.now c.requires.1 0
    c.in-Some.parent.now c.in-Some.ensures c.laws.ensures.factors c.laws.ensures.limits in
    p.room

pub loop-column-init : goal.loop-column-init
loop-column-init c = ap (λ (columns : ColumnsAfter). columns.parent) (c.into_iter-column-iterator.ensures.into_iter_gives ∙
    c.of-column-items.ensures)

pub loop-column-preserved : goal.loop-column-preserved
loop-column-preserved c = ap (λ (columns : ColumnsAfter). columns.parent) c.in-Some-column.ensures.steps.1 ∙ c.loop-column.invariant

pub keeps-requires-clause-parent : goal.keeps-requires-clause-parent
keeps-requires-clause-parent c =
    is_form_of c.args.request.now c.laws.ensures.forbidden.0 c.laws.ensures.forbidden.1 c.requires.0 c.args.forms.now c.requires.1 0
    c.in-Some.parent.now c.in-Some.ensures

pub keeps-requires-clause-before : goal.keeps-requires-clause-before
keeps-requires-clause-before c =
    is_before c.args.request.now c.laws.ensures.forbidden.0 c.laws.ensures.forbidden.1 c.requires.0 c.args.forms.now c.requires.1 0
    c.in-Some.parent.now c.in-Some.ensures

pub keeps-requires-clause-column : goal.keeps-requires-clause-column
keeps-requires-clause-column c =
    let next = c.in-Some-column.ensures.steps.0 in
    subst (λ (P : Rep). IsAdmissible P c.in-Some-column.column.items) c.loop-column.invariant next.admissible
