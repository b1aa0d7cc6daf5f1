use Rattle.std.proofs.Common.{◌≡◌, List, [], sym, ◌∙◌, subst, ap}
use Rattle.matroid_theory.specs.declared.Mode.{Mode}
use Rattle.matroid_theory.specs.Rep.{Rep}
use Rattle.matroid_theory.specs.Level.{IsCount, followed_by}
use Rattle.matroid_theory.specs.Minor.{Matroid}
use Rattle.extension.specs.Admissible.{IsAdmissible, ColumnsAfter}
use Rattle.level_driver.specs.Forbidden.{Avoids}
use Rattle.level_driver.specs.Children.{IsParent, IsCandidate}
use Rattle.orderly.specs.Kept.{AddsKept, KeepsOwnForm}
use Rattle.orderly.specs.Refused.{RefusalOf}
use Rattle.orderly.proofs.KeptColumns.{kept_none, kept_more, kept_same, kept_count, kept_all}
use Rattle.orderly.proofs.level.keep_children.Goals as goal

pub loop-column-init : goal.loop-column-init
loop-column-init c =
    let start : c.into_iter-column-iterator.result ≡ record { parent = c.args.parent.now; last = [] } =
    c.into_iter-column-iterator.ensures.into_iter_gives ∙ c.of-column-items.ensures in
    record {
      same = ap (λ (columns : ColumnsAfter). columns.parent) start;
      refusal = c.of-refusal.ensures;
      so_far = kept_none c.args.mode c.args.forbidden.now c.args.forms.now c.args.parent.now c.laws.ensures.fields.some
          c.into_iter-column-iterator.result start;
    }

pub candidate-requires-clause-column : goal.candidate-requires-clause-column
candidate-requires-clause-column c =
    let next = c.in-Some.ensures.steps.0 in
    subst (λ (P : Rep). IsAdmissible P c.in-Some.column.items) c.loop-column.invariant.same next.admissible

pub keep-requires-clause-parent : goal.keep-requires-clause-parent
keep-requires-clause-parent c = subst IsParent (sym (ap (λ (r : RefusalOf). r.parent) c.loop-column.invariant.refusal)) c.requires

pub keep-requires-clause-column : goal.keep-requires-clause-column
keep-requires-clause-column c =
    let next = c.in-Some.ensures.steps.0 in
    subst (λ (P : Rep). IsAdmissible P c.in-Some.column.items)
    (c.loop-column.invariant.same ∙ sym (ap (λ (r : RefusalOf). r.parent) c.loop-column.invariant.refusal)) next.admissible

pub keep-requires-clause-child : goal.keep-requires-clause-child
keep-requires-clause-child c =
    c.in-Some-candidate.ensures.0
    ∙ ap (λ (r : RefusalOf). followed_by r.parent c.in-Some.column.items) (sym c.loop-column.invariant.refusal)

pub loop-column-preserved : goal.loop-column-preserved
loop-column-preserved c =
    let Ns : List Matroid = c.args.forbidden.now in
    let steps = c.in-Some.ensures.steps in
    let progress = c.in-Some.ensures.goes.on tt in
    record {
      same = ap (λ (columns : ColumnsAfter). columns.parent) steps.1 ∙ c.loop-column.invariant.same;
      refusal = c.loop-column.invariant.refusal;
      so_far = kept_same c.loop-column.column-iterator c.in-Some.column.items steps.0 c.args.mode Ns c.args.forms.now c.loop-column.forms
          c.loop-column.tried c.next.new.self steps.1 progress.2 c.loop-column.invariant.so_far
          (λ avoids. c.in_default.ensures (subst (λ (P : Rep). Avoids Ns (followed_by P c.in-Some.column.items))
          c.loop-column.invariant.same avoids));
    }

pub loop-column-preserved-in-Some-candidate : goal.loop-column-preserved-in-Some-candidate
loop-column-preserved-in-Some-candidate c =
    let Ns : List Matroid = c.args.forbidden.now in
    let steps = c.in-Some.ensures.steps in
    let progress = c.in-Some.ensures.goes.on tt in
    let is : c.in-Some-candidate.child ≡ followed_by c.loop-column.column-iterator.parent c.in-Some.column.items =
    c.in-Some-candidate.ensures.0 ∙ ap (λ (P : Rep). followed_by P c.in-Some.column.items) (sym c.loop-column.invariant.same) in
    record {
      same = ap (λ (columns : ColumnsAfter). columns.parent) steps.1 ∙ c.loop-column.invariant.same;
      refusal = c.keep.ensures.refusal ∙ c.loop-column.invariant.refusal;
      so_far = kept_more c.loop-column.column-iterator c.in-Some.column.items steps.0 c.args.mode Ns c.args.forms.now c.loop-column.forms
          c.loop-column.tried c.next.new.self steps.1 progress.2 c.loop-column.invariant.so_far
          (subst (Avoids Ns) is c.in-Some-candidate.ensures.1)
          c.keep.new.forms (subst (λ (M : Rep). KeepsOwnForm c.args.mode M c.loop-column.forms c.keep.new.forms) is
          (subst (λ (mode : Mode). KeepsOwnForm mode c.in-Some-candidate.child c.loop-column.forms c.keep.new.forms)
          (ap (λ (r : RefusalOf). r.mode) c.loop-column.invariant.refusal) c.in_ok-keep.ensures.forms));
    }

pub returns-clause-count : goal.returns-clause-count
returns-clause-count c =
    let Ns : List Matroid = c.args.forbidden.now in
    subst (λ (P : Rep). IsCount (IsCandidate Ns P) c.loop-column.tried) c.loop-column.invariant.same
    (kept_count c.args.mode Ns c.args.forms.now c.loop-column.forms c.loop-column.column-iterator c.loop-column.tried
    c.loop-column.invariant.so_far c.in-None.ensures.steps.0)

pub returns-clause-forms : goal.returns-clause-forms
returns-clause-forms c =
    let Ns : List Matroid = c.args.forbidden.now in
    subst (λ (P : Rep). AddsKept c.args.mode Ns P c.args.forms.now c.loop-column.forms) c.loop-column.invariant.same
    (kept_all c.args.mode Ns c.args.forms.now c.loop-column.forms c.loop-column.column-iterator c.loop-column.tried
    c.loop-column.invariant.so_far c.in-None.ensures.steps.0)
