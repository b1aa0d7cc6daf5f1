use Rattle.std.proofs.Common.{◌≡◌, ◌<◌, List, [], None, refl, sym, ◌∙◌, subst, ap}
use Rattle.matroid_theory.specs.Rep.{Rep, size, IsProductColumn}
use Rattle.matroid_theory.specs.Matroid.{Agrees}
use Rattle.matroid_theory.specs.Level.{followed_by}
use Rattle.matroid_theory.specs.Minor.{Matroid}
use Rattle.extension.specs.Admissible.{ColumnsAfter, IsNextColumn}
use Rattle.level_driver.specs.Forbidden.{Avoids}
use Rattle.level_driver.specs.Known.{ChildrenOf, IsAnswer, IsChildOf}
use Rattle.level_driver.proofs.Known.{answer_of}
use Rattle.level_driver.specs.Children.{IsChildKey}
use Rattle.workers.specs.Offered.{OffersChildren}
use Rattle.workers.proofs.Calls.{empty_gathered}
use Rattle.workers.proofs.ChildKeys.{offered_none, offered_more, offered_same, offered_all}
use Rattle.workers.proofs.children.offer_children.Goals as goal

pub loop-column-init : goal.loop-column-init
loop-column-init g c =
    let start : c.into_iter-column-iterator.result ≡ record { parent = c.args.parent.now; last = [] } =
    c.into_iter-column-iterator.ensures.into_iter_gives ∙ c.of-column-items.ensures in
    record {
      parent = ap (λ (columns : ColumnsAfter). columns.parent) start;
      children = c.in_ok-children.ensures;
      same = record { level = refl; number = refl };
      gathered = empty_gathered c.args.batches.now c.requires.empty;
      so_far = offered_none c.args.mode c.args.forbidden.now c.args.parent.now c.args.pass.now c.args.batches.now
          c.laws.ensures.fields.some c.requires.empty
          c.into_iter-column-iterator.result start;
    }

pub child-requires-clause-room : goal.child-requires-clause-room
child-requires-clause-room g c = subst (λ (k : ChildrenOf). size k.parent < 16) (sym c.loop-column.invariant.children) c.requires.parent.room

pub child-requires-clause-column : goal.child-requires-clause-column
child-requires-clause-column g c =
    let n : IsNextColumn c.loop-column.column-iterator c.in-Some.column.items = c.in-Some.ensures.steps.0 in
    subst (λ (k : ChildrenOf). IsProductColumn k.parent.factors k.parent.rank c.in-Some.column.items) (sym c.loop-column.invariant.children)
    (subst (λ (P : Rep). IsProductColumn P.factors P.rank c.in-Some.column.items) c.loop-column.invariant.parent n.admissible.normalised.is_column)

pub child-requires-clause-agrees : goal.child-requires-clause-agrees
child-requires-clause-agrees g c =
    let n : IsNextColumn c.loop-column.column-iterator c.in-Some.column.items = c.in-Some.ensures.steps.0 in
    subst (λ (k : ChildrenOf). Agrees (followed_by k.parent c.in-Some.column.items)) (sym c.loop-column.invariant.children)
    (subst (λ (P : Rep). Agrees (followed_by P c.in-Some.column.items)) c.loop-column.invariant.parent n.admissible.agrees)

pub loop-column-preserved : goal.loop-column-preserved
loop-column-preserved g c =
    let Ns : List Matroid = c.args.forbidden.now in
    let steps = c.in-Some.ensures.steps in
    let progress = c.in-Some.ensures.goes.on tt in
    let i = c.loop-column.invariant in
    let k : ChildrenOf = record { parent = c.args.parent.now; mode = c.args.mode; forbidden = Ns } in
    let answer : IsAnswer k c.in-Some.column.items c.in_ok-child.field-0 =
    subst (λ (k : ChildrenOf). IsAnswer k c.in-Some.column.items c.in_ok-child.field-0) i.children
    (answer_of c.loop-column.children c.in-Some.column.items c.in_ok-child.field-0 c.in_ok-child.ensures.none
    c.in_ok-child.ensures.avoids c.in_ok-child.ensures.form c.in_ok-child.ensures.equivalent) in
    let none : IsAnswer k c.in-Some.column.items None = subst (IsAnswer k c.in-Some.column.items) c.in_default.is answer in
    record {
      parent = ap (λ (columns : ColumnsAfter). columns.parent) steps.1 ∙ i.parent;
      children = c.child.ensures.same ∙ i.children;
      same = i.same;
      gathered = i.gathered;
      so_far = offered_same c.args.mode Ns c.args.pass.now c.loop-column.column-iterator c.next.new.self c.in-Some.column.items
          steps.0 steps.1 progress.2 c.loop-column.tried
          c.loop-column.pass c.loop-column.batches
          (λ avoids. none (subst (λ (P : Rep). Avoids Ns (followed_by P c.in-Some.column.items)) i.parent avoids)) i.so_far;
    }

pub loop-column-preserved-in-Some-2 : goal.loop-column-preserved-in-Some-2
loop-column-preserved-in-Some-2 g c =
    let Ns : List Matroid = c.args.forbidden.now in
    let steps = c.in-Some.ensures.steps in
    let progress = c.in-Some.ensures.goes.on tt in
    let i = c.loop-column.invariant in
    let s = c.add_key.ensures.same in
    let was = i.same in
    let k : ChildrenOf = record { parent = c.args.parent.now; mode = c.args.mode; forbidden = Ns } in
    let answer : IsAnswer k c.in-Some.column.items c.in_ok-child.field-0 =
    subst (λ (k : ChildrenOf). IsAnswer k c.in-Some.column.items c.in_ok-child.field-0) i.children
    (answer_of c.loop-column.children c.in-Some.column.items c.in_ok-child.field-0 c.in_ok-child.ensures.none
    c.in_ok-child.ensures.avoids c.in_ok-child.ensures.form c.in_ok-child.ensures.equivalent) in
    let h : IsChildOf k c.in-Some.column.items c.in-Some-2.child = subst (IsAnswer k c.in-Some.column.items) c.in-Some-2.is answer in
    record {
      parent = ap (λ (columns : ColumnsAfter). columns.parent) steps.1 ∙ i.parent;
      children = c.child.ensures.same ∙ i.children;
      same = record { level = s.level ∙ was.level; number = s.number ∙ was.number };
      gathered = c.in_ok-add_key.ensures.gathered;
      so_far = offered_more c.args.mode Ns c.args.pass.now c.loop-column.column-iterator c.next.new.self c.in-Some.column.items
          steps.0 steps.1 progress.2 c.loop-column.tried
          _ c.loop-column.pass c.add_key.new.pass c.loop-column.batches c.add_key.new.batches c.in_ok-pack.field-0
          (subst (λ (P : Rep). Avoids Ns (followed_by P c.in-Some.column.items)) (sym i.parent) h.avoids)
          (subst (λ (P : Rep). IsChildKey c.args.mode P c.in-Some.column.items c.in_ok-pack.field-0) (sym i.parent)
          (c.in-Some-2.child, h.form, h.equivalent, sym c.in_ok-pack.ensures.key)) i.so_far refl
          c.in_ok-add_key.ensures.calls;
    }

pub returns-clause-offered : goal.returns-clause-offered
returns-clause-offered g c =
    let Ns : List Matroid = c.args.forbidden.now in
    let i = c.loop-column.invariant in
    subst (λ (P : Rep). OffersChildren c.args.mode Ns P c.args.pass.now c.offer_rest.new.pass c.loop-column.tried) i.parent
    (offered_all c.args.mode Ns c.args.pass.now c.loop-column.column-iterator c.loop-column.tried c.loop-column.pass
    c.offer_rest.new.pass c.loop-column.batches i.so_far
    c.in-None.ensures.steps.0 c.in_ok-offer_rest.ensures.calls)
