use Rattle.std.proofs.Common.{◌≡◌, ℕ, ◌+◌, ◌<◌, ◌≤◌, List, take, length, get_or, sym, ◌∙◌, ap, subst, arith}
use Rattle.std.specs.List.{Contains, AllZip}
use Rattle.std.proofs.lemmas.List.Elements.{Contains-get_or}
use Rattle.matroid_theory.specs.declared.Mode.{Mode}
use Rattle.matroid_theory.specs.Rep.{Rep, Shape}
use Rattle.matroid_theory.specs.Minor.{Matroid}
use Rattle.form_key.specs.Packing.{IsPackedAs}
use Rattle.formats.specs.Request.{Request}
use Rattle.level_driver.specs.Keys.{HavePacking}
use Rattle.level_driver.proofs.Avoiding.{same_given}
use Rattle.level_driver.proofs.Tries.{HasGrown, grown_none, grown_step, grown_all}
use Rattle.level_driver.proofs.NextLevel.{parents_rise, each_parent, packings_grown, level_grown, tries_grown}
use Rattle.level_driver.proofs.growth.grow_alone.Goals as goal

pub add_children-requires : goal.add_children-requires
add_children-requires c =
    let q : Request = c.args.request.now in
    let Ns : List Matroid = c.forbidden.inside.sought.items in
    let given = same_given c.args.request.now _ _ (sym (c.forbidden.view_is ∙ c.in_ok-forbidden.ensures)) c.forbid.ensures.given in
    let parents : List Rep = c.args.parents.now in
    let l : c.loop-parent.parent-index < length parents =
    subst (λ (xs : List Rep). c.loop-parent.parent-index < length xs) c.as_slice-parent-items.ensures c.loop-parent-test.true in
    let is : c.parent-item.result ≡ get_or parents c.loop-parent.parent-index c.parent-item.result = c.parent-item.is
    ∙ ap (λ (xs : List Rep). get_or xs c.loop-parent.parent-index c.parent-item.result) c.as_slice-parent-items.ensures in
    each_parent q Ns given c.laws.ensures.factors c.laws.ensures.limits c.requires.0 parents c.requires.1 c.parent-item.result
    (subst (Contains parents) (sym is) (Contains-get_or parents c.loop-parent.parent-index c.parent-item.result l))

pub loop-parent-init : goal.loop-parent-init
loop-parent-init c = record {
  so_far = grown_none c.mode-mode.result c.forbidden.inside.sought.items c.new-found.result c.new-found.ensures;
  few = (omega arith);
}

pub loop-parent-preserved : goal.loop-parent-preserved
loop-parent-preserved c =
    let q : Request = c.args.request.now in
    let Ns : List Matroid = c.in_ok-forbidden.forbidden in
    let view = c.forbidden.view_is in
    let given = same_given c.args.request.now _ _ (sym c.in_ok-forbidden.ensures) c.forbid.ensures.given in
    let parents : List Rep = c.args.parents.now in
    let l : c.loop-parent.parent-index < length parents =
    subst (λ (xs : List Rep). c.loop-parent.parent-index < length xs) c.as_slice-parent-items.ensures c.loop-parent-test.true in
    let is : c.parent-item.result ≡ get_or parents c.loop-parent.parent-index c.parent-item.result = c.parent-item.is
    ∙ ap (λ (xs : List Rep). get_or xs c.loop-parent.parent-index c.parent-item.result) c.as_slice-parent-items.ensures in
    record {
      so_far = subst (λ (Ms : List Matroid). HasGrown c.mode-mode.result Ms (take (c.loop-parent.parent-index + 1) parents)
          (c.loop-parent.tried + c.from.result) c.add_children.new.found) (sym view)
          (subst (λ (k : ℕ). HasGrown c.mode-mode.result Ns (take (c.loop-parent.parent-index + 1) parents)
          (c.loop-parent.tried + k) c.add_children.new.found) (sym c.from.ensures)
          (grown_step c.mode-mode.result Ns parents
          (parents_rise q Ns given c.laws.ensures.factors c.laws.ensures.limits c.requires.0 parents
          c.requires.1) c.loop-parent.parent-index c.parent-item.result l is
          c.loop-parent.tried c.in_ok-add_children.field-0 c.loop-parent.found c.add_children.new.found
          (subst (λ (Ms : List Matroid). HasGrown c.mode-mode.result Ms (take c.loop-parent.parent-index parents)
          c.loop-parent.tried c.loop-parent.found) view c.loop-parent.invariant.so_far)
          c.in_ok-add_children.ensures.count c.in_ok-add_children.ensures.forms));
      few = (let e = c.from.ensures in omega arith);
    }

pub to_list-requires-clause-packings : goal.to_list-requires-clause-packings
to_list-requires-clause-packings c =
    let q : Request = c.args.request.now in
    let Ns : List Matroid = c.forbidden.inside.sought.items in
    let given = same_given c.args.request.now _ _ (sym (c.forbidden.view_is ∙ c.in_ok-forbidden.ensures)) c.forbid.ensures.given in
    let parents : List Rep = c.args.parents.now in
    let done : length parents ≤ c.loop-parent.parent-index =
    subst (λ (xs : List Rep). length xs ≤ c.loop-parent.parent-index) c.as_slice-parent-items.ensures c.loop-parent-test.false in
    let s : ◌≡◌ {A = Shape} (record { factors = q.factors; rank = q.rank; size = c.next_size-size.result })
    (record { factors = c.factors.result; rank = c.rank.result; size = c.next_size-size.result }) =
    λ i. record { factors = sym c.factors.ensures i; rank = sym c.rank.ensures i; size = c.next_size-size.result } in
    subst (λ (s : Shape). HavePacking s c.loop-parent.found) s
    (packings_grown q Ns given c.laws.ensures.factors c.laws.ensures.limits c.requires.0 parents c.requires.1 c.loop-parent.tried c.loop-parent.found
    (subst (λ (mode : Mode). HasGrown mode Ns parents c.loop-parent.tried c.loop-parent.found) c.mode-mode.ensures
    (grown_all c.mode-mode.result Ns parents c.loop-parent.parent-index c.loop-parent.tried c.loop-parent.found done c.loop-parent.invariant.so_far))
    c.next_size-size.result c.next_size-size.ensures.next)

pub returns-clause-forms : goal.returns-clause-forms
returns-clause-forms c n h =
    let q : Request = c.args.request.now in
    let Ns : List Matroid = c.forbidden.inside.sought.items in
    let given = same_given c.args.request.now _ _ (sym (c.forbidden.view_is ∙ c.in_ok-forbidden.ensures)) c.forbid.ensures.given in
    let parents : List Rep = c.args.parents.now in
    let done : length parents ≤ c.loop-parent.parent-index =
    subst (λ (xs : List Rep). length xs ≤ c.loop-parent.parent-index) c.as_slice-parent-items.ensures c.loop-parent-test.false in
    let s : ◌≡◌ {A = Shape} (record { factors = c.factors.result; rank = c.rank.result; size = c.next_size-size.result })
    (record { factors = q.factors; rank = q.rank; size = c.next_size-size.result }) =
    λ i. record { factors = c.factors.ensures i; rank = c.rank.ensures i; size = c.next_size-size.result } in
    level_grown q Ns given c.laws.ensures.factors c.laws.ensures.limits n parents h c.loop-parent.tried c.loop-parent.found
    (subst (λ (mode : Mode). HasGrown mode Ns parents c.loop-parent.tried c.loop-parent.found) c.mode-mode.ensures
    (grown_all c.mode-mode.result Ns parents c.loop-parent.parent-index c.loop-parent.tried c.loop-parent.found done c.loop-parent.invariant.so_far))
    c.next_size-size.result c.next_size-size.ensures.next c.in_ok-forms.ensures.rising c.in_ok-forms.forms
    (subst (λ (s : Shape). AllZip (λ (M : Rep) (key : List ℕ). IsPackedAs s key M) c.in_ok-forms.forms c.loop-parent.found) s c.in_ok-forms.ensures.forms)

pub returns-clause-tried : goal.returns-clause-tried
returns-clause-tried c n h =
    let q : Request = c.args.request.now in
    let Ns : List Matroid = c.forbidden.inside.sought.items in
    let given = same_given c.args.request.now _ _ (sym (c.forbidden.view_is ∙ c.in_ok-forbidden.ensures)) c.forbid.ensures.given in
    let parents : List Rep = c.args.parents.now in
    let done : length parents ≤ c.loop-parent.parent-index =
    subst (λ (xs : List Rep). length xs ≤ c.loop-parent.parent-index) c.as_slice-parent-items.ensures c.loop-parent-test.false in
    tries_grown q Ns given c.laws.ensures.factors c.laws.ensures.limits n parents h c.loop-parent.tried c.loop-parent.found
    (subst (λ (mode : Mode). HasGrown mode Ns parents c.loop-parent.tried c.loop-parent.found) c.mode-mode.ensures
    (grown_all c.mode-mode.result Ns parents c.loop-parent.parent-index c.loop-parent.tried c.loop-parent.found done c.loop-parent.invariant.so_far))
