use Rattle.std.proofs.Common.{◌∙◌, ap, subst}
use Rattle.matroid_theory.specs.Rep.{Rep, IsProductColumn}
use Rattle.matroid_theory.specs.Matroid.{Agrees}
use Rattle.matroid_theory.specs.Level.{followed_by}
use Rattle.extension.specs.Admissible.{ColumnsAfter}
use Rattle.matroid_tests.proofs.both_searches.compare_children.Goals as goal

pub loop-column-init : goal.loop-column-init
loop-column-init g c = ap (λ (columns : ColumnsAfter). columns.parent) (c.into_iter-column-iterator.ensures.into_iter_gives ∙
    c.of-column-items.ensures)

pub loop-column-preserved : goal.loop-column-preserved
loop-column-preserved g c = ap (λ (columns : ColumnsAfter). columns.parent) c.in-Some.ensures.steps.1 ∙ c.loop-column.invariant

pub are_alike-requires-clause-column : goal.are_alike-requires-clause-column
are_alike-requires-clause-column g c =
    let next = c.in-Some.ensures.steps.0 in
    subst (λ (P : Rep). IsProductColumn P.factors P.rank c.in-Some.column.items) c.loop-column.invariant
    next.admissible.normalised.is_column

pub are_alike-requires-clause-agrees : goal.are_alike-requires-clause-agrees
are_alike-requires-clause-agrees g c =
    let next = c.in-Some.ensures.steps.0 in
    subst (λ (P : Rep). Agrees (followed_by P c.in-Some.column.items)) c.loop-column.invariant next.admissible.agrees
