use Rattle.std.proofs.Common.{◌≡◌, ◌<◌, List, [], None, refl, sym, ◌∙◌, subst, ap}
use Rattle.matroid_theory.specs.Rep.{Rep, size, IsProductColumn}
use Rattle.matroid_theory.specs.Matroid.{Agrees}
use Rattle.matroid_theory.specs.Level.{IsCount, followed_by}
use Rattle.matroid_theory.specs.Minor.{Matroid}
use Rattle.extension.specs.Admissible.{ColumnsAfter, IsNextColumn}
use Rattle.form_key.specs.Packing.{packing}
use Rattle.level_driver.specs.Forbidden.{Avoids}
use Rattle.level_driver.specs.Children.{IsChildKey, IsCandidate, AddsChildren}
use Rattle.level_driver.specs.Known.{ChildrenOf, IsAnswer, IsChildOf}
use Rattle.level_driver.proofs.Known.{answer_of}
use Rattle.level_driver.proofs.Tried.{tried_none, tried_more, tried_same, tried_count, tried_all}
use Rattle.level_driver.proofs.growth.add_children.Goals as goal

pub loop-column-init : goal.loop-column-init
loop-column-init c =
    let start : c.into_iter-column-iterator.result ≡ record { parent = c.args.parent.now; last = [] } =
    c.into_iter-column-iterator.ensures.into_iter_gives ∙ c.of-column-items.ensures in
    record {
      same = ap (λ (columns : ColumnsAfter). columns.parent) start;
      children = c.in_ok-children.ensures;
      so_far = tried_none c.args.mode c.args.forbidden.now c.args.found.now c.args.parent.now
          c.laws.ensures.fields.some c.into_iter-column-iterator.result start;
    }

pub child-requires-clause-room : goal.child-requires-clause-room
child-requires-clause-room c = subst (λ (k : ChildrenOf). size k.parent < 16) (sym c.loop-column.invariant.children) c.requires.room

pub child-requires-clause-column : goal.child-requires-clause-column
child-requires-clause-column c =
    let n : IsNextColumn c.loop-column.column-iterator c.in-Some.column.items = c.in-Some.ensures.steps.0 in
    subst (λ (k : ChildrenOf). IsProductColumn k.parent.factors k.parent.rank c.in-Some.column.items) (sym c.loop-column.invariant.children)
    (subst (λ (P : Rep). IsProductColumn P.factors P.rank c.in-Some.column.items) c.loop-column.invariant.same n.admissible.normalised.is_column)

pub child-requires-clause-agrees : goal.child-requires-clause-agrees
child-requires-clause-agrees c =
    let n : IsNextColumn c.loop-column.column-iterator c.in-Some.column.items = c.in-Some.ensures.steps.0 in
    subst (λ (k : ChildrenOf). Agrees (followed_by k.parent c.in-Some.column.items)) (sym c.loop-column.invariant.children)
    (subst (λ (P : Rep). Agrees (followed_by P c.in-Some.column.items)) c.loop-column.invariant.same n.admissible.agrees)

pub loop-column-preserved : goal.loop-column-preserved
loop-column-preserved c =
    let Ns : List Matroid = c.args.forbidden.now in
    let steps = c.in-Some.ensures.steps in
    let progress = c.in-Some.ensures.goes.on tt in
    let k : ChildrenOf = record { parent = c.args.parent.now; mode = c.args.mode; forbidden = Ns } in
    let answer : IsAnswer k c.in-Some.column.items c.in_ok-child.field-0 =
    subst (λ (k : ChildrenOf). IsAnswer k c.in-Some.column.items c.in_ok-child.field-0) c.loop-column.invariant.children
    (answer_of c.loop-column.children c.in-Some.column.items c.in_ok-child.field-0 c.in_ok-child.ensures.none
    c.in_ok-child.ensures.avoids c.in_ok-child.ensures.form c.in_ok-child.ensures.equivalent) in
    let none : IsAnswer k c.in-Some.column.items None = subst (IsAnswer k c.in-Some.column.items) c.in_default.is answer in
    record {
      same = ap (λ (columns : ColumnsAfter). columns.parent) steps.1 ∙ c.loop-column.invariant.same;
      children = c.child.ensures.same ∙ c.loop-column.invariant.children;
      so_far = tried_same c.loop-column.column-iterator c.in-Some.column.items steps.0 c.args.mode Ns c.args.found.now
          c.loop-column.found c.loop-column.tried c.next.new.self steps.1 progress.2 c.loop-column.invariant.so_far
          (λ avoids. none (subst (λ (P : Rep). Avoids Ns (followed_by P c.in-Some.column.items)) c.loop-column.invariant.same avoids));
    }

pub loop-column-preserved-in-Some-2 : goal.loop-column-preserved-in-Some-2
loop-column-preserved-in-Some-2 c =
    let Ns : List Matroid = c.args.forbidden.now in
    let steps = c.in-Some.ensures.steps in
    let progress = c.in-Some.ensures.goes.on tt in
    let k : ChildrenOf = record { parent = c.args.parent.now; mode = c.args.mode; forbidden = Ns } in
    let answer : IsAnswer k c.in-Some.column.items c.in_ok-child.field-0 =
    subst (λ (k : ChildrenOf). IsAnswer k c.in-Some.column.items c.in_ok-child.field-0) c.loop-column.invariant.children
    (answer_of c.loop-column.children c.in-Some.column.items c.in_ok-child.field-0 c.in_ok-child.ensures.none
    c.in_ok-child.ensures.avoids c.in_ok-child.ensures.form c.in_ok-child.ensures.equivalent) in
    let h : IsChildOf k c.in-Some.column.items c.in-Some-2.child = subst (IsAnswer k c.in-Some.column.items) c.in-Some-2.is answer in
    record {
      same = ap (λ (columns : ColumnsAfter). columns.parent) steps.1 ∙ c.loop-column.invariant.same;
      children = c.child.ensures.same ∙ c.loop-column.invariant.children;
      so_far = tried_more c.loop-column.column-iterator c.in-Some.column.items steps.0 c.args.mode Ns c.args.found.now
          c.loop-column.found c.loop-column.tried c.next.new.self steps.1 progress.2 c.loop-column.invariant.so_far
          (subst (λ (P : Rep). Avoids Ns (followed_by P c.in-Some.column.items)) (sym c.loop-column.invariant.same) h.avoids)
          c.insert.new.self (packing c.in-Some-2.child)
          (subst (λ (P : Rep). IsChildKey c.args.mode P c.in-Some.column.items (packing c.in-Some-2.child)) (sym c.loop-column.invariant.same)
          (c.in-Some-2.child, h.form, h.equivalent, refl))
          c.in_ok-insert.ensures;
    }

pub returns-clause-count : goal.returns-clause-count
returns-clause-count c =
    let Ns : List Matroid = c.args.forbidden.now in
    subst (λ (P : Rep). IsCount (IsCandidate Ns P) c.loop-column.tried) c.loop-column.invariant.same
    (tried_count c.args.mode Ns c.args.found.now c.loop-column.found c.loop-column.column-iterator c.loop-column.tried
    c.loop-column.invariant.so_far c.in-None.ensures.steps.0)

pub returns-clause-forms : goal.returns-clause-forms
returns-clause-forms c =
    let Ns : List Matroid = c.args.forbidden.now in
    subst (λ (P : Rep). AddsChildren c.args.mode Ns P c.args.found.now c.loop-column.found) c.loop-column.invariant.same
    (tried_all c.args.mode Ns c.args.found.now c.loop-column.found c.loop-column.column-iterator c.loop-column.tried
    c.loop-column.invariant.so_far c.in-None.ensures.steps.0)

pub insert-requires : goal.insert-requires
insert-requires c =
    let Ns : List Matroid = c.args.forbidden.now in
    let k : ChildrenOf = record { parent = c.args.parent.now; mode = c.args.mode; forbidden = Ns } in
    let answer : IsAnswer k c.in-Some.column.items c.in_ok-child.field-0 =
    subst (λ (k : ChildrenOf). IsAnswer k c.in-Some.column.items c.in_ok-child.field-0) c.loop-column.invariant.children
    (answer_of c.loop-column.children c.in-Some.column.items c.in_ok-child.field-0 c.in_ok-child.ensures.none
    c.in_ok-child.ensures.avoids c.in_ok-child.ensures.form c.in_ok-child.ensures.equivalent) in
    let h : IsChildOf k c.in-Some.column.items c.in-Some-2.child = subst (IsAnswer k c.in-Some.column.items) c.in-Some-2.is answer in
    h.form.standard
