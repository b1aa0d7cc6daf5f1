use Rattle.std.proofs.Common.{◌≡◌, Some, ℕ, ◌+◌, ◌<◌, ◌≤◌, List, take, length, get_or, sym, ◌∙◌, subst, arith}
use Rattle.std.specs.Prelude.{slice_get}
use Rattle.std.proofs.lemmas.Option.{slice_get_within, get_or_from_slice_get}
use Rattle.matroid_theory.specs.declared.Mode.{Mode}
use Rattle.matroid_theory.specs.Rep.{Rep}
use Rattle.matroid_theory.specs.Minor.{Matroid}
use Rattle.formats.specs.Request.{Request}
use Rattle.level_driver.proofs.Avoiding.{same_given}
use Rattle.level_driver.proofs.NextLevel.{parents_rise, each_parent}
use Rattle.level_driver.proofs.Sifted.{past}
use Rattle.orderly.proofs.KeptParents.{HasKeptAll, all_none, all_step, all_done}
use Rattle.orderly.proofs.KeptLevel.{of_one_size, level_kept, tries_kept}
use Rattle.orderly.proofs.level.next_level.Goals as goal

-- a form at a place is in the list
in_list : (parents : List Rep) (i : ℕ) (P : Rep) → Some P ≡ slice_get parents i → (i < length parents) × (P ≡ get_or parents i P)
in_list parents i P e = (slice_get_within parents i P (sym e), sym (get_or_from_slice_get parents i P P (sym e)))

pub loop-i-init : goal.loop-i-init
loop-i-init c = record {
  so_far = all_none c.mode-mode.result c.forbidden.inside.sought.items c.new-forms.result c.new-forms.ensures;
  few = omega arith;
}

pub unreachable-requires : goal.unreachable-requires
unreachable-requires c =
    let p = past c.args.parents.now c.loop-i.i (sym c.in_default.ensures) in
    let n = c.len-i-end.ensures in
    let l = c.loop-i-test.true in
    let no : ⊥ = omega arith in no

pub keep_children-requires : goal.keep_children-requires
keep_children-requires c =
    let given = same_given c.args.request.now _ _ (sym c.in_ok-forbidden.ensures) c.forbid.ensures.given in
    let at = in_list c.args.parents.now c.loop-i.i c.in-Some.parent.now c.in-Some.ensures in
    each_parent c.args.request.now c.in_ok-forbidden.forbidden given c.laws.ensures.factors
    c.laws.ensures.limits
    c.requires.0 c.args.parents.now c.requires.1 c.in-Some.parent.now (c.loop-i.i, at.0, sym at.1)

pub loop-i-preserved : goal.loop-i-preserved
loop-i-preserved c =
    let q : Request = c.args.request.now in
    let Ns : List Matroid = c.in_ok-forbidden.forbidden in
    let given = same_given c.args.request.now _ _ (sym c.in_ok-forbidden.ensures) c.forbid.ensures.given in
    let parents : List Rep = c.args.parents.now in
    let at = in_list parents c.loop-i.i c.in-Some.parent.now c.in-Some.ensures in
    record {
      so_far = subst (λ (Ms : List Matroid). HasKeptAll c.mode-mode.result Ms (take (c.loop-i.i + 1) parents)
          (c.loop-i.tried + c.from.result) c.keep_children.new.forms) (sym c.forbidden.view_is)
          (subst (λ (k : ℕ). HasKeptAll c.mode-mode.result Ns (take (c.loop-i.i + 1) parents) (c.loop-i.tried + k)
          c.keep_children.new.forms) (sym c.from.ensures)
          (all_step parents (parents_rise q Ns given c.laws.ensures.factors c.laws.ensures.limits c.requires.0
          parents c.requires.1)
          (of_one_size q Ns given c.requires.0 parents c.requires.1) c.loop-i.i c.in-Some.parent.now at.0 at.1
          c.mode-mode.result Ns c.loop-i.tried c.in_ok-keep_children.field-0 c.loop-i.forms c.keep_children.new.forms
          (subst (λ (Ms : List Matroid). HasKeptAll c.mode-mode.result Ms (take c.loop-i.i parents) c.loop-i.tried c.loop-i.forms)
          c.forbidden.view_is c.loop-i.invariant.so_far)
          c.in_ok-keep_children.ensures.count c.in_ok-keep_children.ensures.forms));
      few = (let e = c.from.ensures in let f = c.loop-i.invariant.few in omega arith);
    }

pub returns-clause-forms : goal.returns-clause-forms
returns-clause-forms c n h =
    let done : length c.args.parents.now ≤ c.loop-i.i = (let e = c.len-i-end.ensures in let f = c.loop-i-test.false in omega arith) in
    let Ns : List Matroid = c.forbidden.inside.sought.items in
    let given = same_given c.args.request.now _ _ (sym (c.forbidden.view_is ∙ c.in_ok-forbidden.ensures)) c.forbid.ensures.given in
    level_kept c.args.request.now Ns given n c.args.parents.now h c.loop-i.tried c.loop-i.forms
    (subst (λ (mode : Mode). HasKeptAll mode Ns c.args.parents.now c.loop-i.tried c.loop-i.forms) c.mode-mode.ensures
    (all_done c.mode-mode.result Ns c.args.parents.now c.loop-i.i c.loop-i.tried c.loop-i.forms done c.loop-i.invariant.so_far))

pub returns-clause-tried : goal.returns-clause-tried
returns-clause-tried c n h =
    let done : length c.args.parents.now ≤ c.loop-i.i = (let e = c.len-i-end.ensures in let f = c.loop-i-test.false in omega arith) in
    let Ns : List Matroid = c.forbidden.inside.sought.items in
    let given = same_given c.args.request.now _ _ (sym (c.forbidden.view_is ∙ c.in_ok-forbidden.ensures)) c.forbid.ensures.given in
    tries_kept c.args.request.now Ns given n c.args.parents.now h c.loop-i.tried c.loop-i.forms
    (subst (λ (mode : Mode). HasKeptAll mode Ns c.args.parents.now c.loop-i.tried c.loop-i.forms) c.mode-mode.ensures
    (all_done c.mode-mode.result Ns c.args.parents.now c.loop-i.i c.loop-i.tried c.loop-i.forms done c.loop-i.invariant.so_far))
