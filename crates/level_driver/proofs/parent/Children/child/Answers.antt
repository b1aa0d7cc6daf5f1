use Rattle.std.proofs.Common.{List, ℕ, sym, ◌∙◌, subst}
use Rattle.level_driver.specs.declared.parent.Leader.{Leader}
use Rattle.level_driver.specs.Known.{ChildrenOf, IsAnswer}
use Rattle.level_driver.proofs.Known.{answer_none, answer_avoids, answer_of, more_answers}
use Rattle.level_driver.proofs.parent.Children.child.Goals as goal

pub returns-in-Some-clause-avoids : goal.returns-in-Some-clause-avoids
returns-in-Some-clause-avoids c = answer_avoids c.args.self.now c.args.column.now.items c.in-Some.child c.in-Some.ensures

pub invariant_of-self-2 : goal.invariant_of-self-2
invariant_of-self-2 c =
    let s = c.self.inside in
    let v : List ℕ = c.args.column.now.items in
    let k : ChildrenOf = record { parent = s.parent.now; mode = s.mode; forbidden = s.forbidden.now } in
    let answer : IsAnswer k v c.child-child.result =
    answer_of k v c.child-child.result c.child-child.ensures.none c.child-child.ensures.avoids c.child-child.ensures.form c.child-child.ensures.equivalent in
    let l : Leader = record { column = c.list_of.result; child = c.copy_of.result } in
    more_answers k s.symmetries s.leaders.items c.push.new.self.items l c.self.invariant
    (subst (λ (w : List ℕ). IsAnswer k w c.copy_of.result) (sym (c.list_of.ensures ∙ c.as_slice.ensures.value))
    (subst (IsAnswer k v) (sym c.copy_of.ensures) answer)) c.in_ok-push.ensures.items

pub returns-clause-none : goal.returns-clause-none
returns-clause-none c =
    let s = c.self.inside in
    let v : List ℕ = c.args.column.now.items in
    let k : ChildrenOf = record { parent = s.parent.now; mode = s.mode; forbidden = s.forbidden.now } in
    answer_none c.args.self.now v c.child-child.result (subst (λ (k : ChildrenOf). IsAnswer k v c.child-child.result) c.self.view_is
    (answer_of k v c.child-child.result c.child-child.ensures.none c.child-child.ensures.avoids c.child-child.ensures.form c.child-child.ensures.equivalent))

pub returns-clause-avoids : goal.returns-clause-avoids
returns-clause-avoids c =
    let s = c.self.inside in
    let v : List ℕ = c.args.column.now.items in
    let k : ChildrenOf = record { parent = s.parent.now; mode = s.mode; forbidden = s.forbidden.now } in
    answer_avoids c.args.self.now v c.child-child.result (subst (λ (k : ChildrenOf). IsAnswer k v c.child-child.result) c.self.view_is
    (answer_of k v c.child-child.result c.child-child.ensures.none c.child-child.ensures.avoids c.child-child.ensures.form c.child-child.ensures.equivalent))
