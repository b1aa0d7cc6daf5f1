use Rattle.std.proofs.Common.{◌≡◌, ℕ, ◌+◌, ◌<◌, ◌^◌, List, [], length, refl, sym, ◌∙◌, ap, subst, arith, rules}
use Rattle.std.proofs.lemmas.List.{length-replicate}
use Rattle.matroid_theory.specs.declared.Mode.{Mode}
use Rattle.matroid_theory.specs.Rep.{Rep}
use Rattle.matroid_theory.specs.Minor.{Matroid}
use Rattle.formats.specs.Request.{Request}
use Rattle.steal_pool.specs.Shift.{shift_taken}
use Rattle.steal_pool.proofs.Stays.{stays_same, stays_more}
use Rattle.level_driver.proofs.Avoiding.{same_given}
use Rattle.level_driver.proofs.NextLevel.{each_parent, parents_rise}
use Rattle.level_driver.proofs.Sifted.{past}
use Rattle.workers.specs.Offered.{AreEmpty}
use Rattle.workers.proofs.Calls.{none_gathered, written}
use Rattle.level_driver.proofs.NextLevel.{inside}
use Rattle.workers.proofs.PartKeys.{HasTaken, part_done, taken_more, taken_none, tries_fit}
use Rattle.workers.proofs.part.take_parents.Goals as goal

pub loop-init : goal.loop-init
loop-init g c =
    let is = c.in_ok-batches.ensures in
    record {
      pass = record { level = refl; number = refl };
      shift = stays_same c.args.shift.now;
      width = ap (λ (l : List (List (List ℕ))). length l) is ∙ (length-replicate c.stripes.result [] ∙ c.stripes.ensures.count);
      empty = subst AreEmpty (sym is) (none_gathered c.stripes.result);
      so_far = taken_none c.mode-mode.result c.forbidden.inside.sought.items c.args.parents.now (shift_taken c.args.shift.now) c.args.pass.now;
    }

pub returns-in_default-clause-part : goal.returns-in_default-clause-part
returns-in_default-clause-part g c =
    let Ns : List Matroid = c.forbidden.inside.sought.items in
    let given = same_given c.args.request.now _ _ (sym (c.forbidden.view_is ∙ c.in_ok-forbidden.ensures)) c.forbid.ensures.given in
    let same : shift_taken c.next-in-loop.new.self ≡ shift_taken c.loop.shift = c.in_default.ensures.taken in
    part_done c.args.request.now Ns given c.args.parents.now (shift_taken c.args.shift.now) (shift_taken c.next-in-loop.new.self)
    c.args.pass.now c.loop.pass c.loop.tried
    (subst (λ (mode : Mode).
    HasTaken mode Ns c.args.parents.now (shift_taken c.args.shift.now)
    (shift_taken c.next-in-loop.new.self) c.args.pass.now c.loop.pass c.loop.tried) c.mode-mode.ensures
    (subst (λ (now : List ℕ). HasTaken c.mode-mode.result Ns c.args.parents.now
    (shift_taken c.args.shift.now) now c.args.pass.now c.loop.pass c.loop.tried) (sym same)
    c.loop.invariant.so_far))

pub unreachable-requires : goal.unreachable-requires
unreachable-requires g c =
    let p = past c.args.parents.now c.in-Some-next.number (sym c.in_default-get.ensures) in
    let l = c.in-Some-next.ensures.taken.0 in
    let s = c.loop.invariant.shift.parents in
    let r = c.requires.shift in
    let no : ⊥ = omega arith in no

pub offer_children-requires-clause-parent : goal.offer_children-requires-clause-parent
offer_children-requires-clause-parent g c κs within =
    let given = same_given c.args.request.now _ _ (sym c.in_ok-forbidden.ensures) c.forbid.ensures.given in
    each_parent c.args.request.now c.in_ok-forbidden.forbidden given c.laws.ensures.factors c.laws.ensures.limits
    c.requires.parents.0 c.args.parents.now c.requires.parents.1 c.in-Some-get.parent.now
    (inside c.args.parents.now c.in-Some-next.number c.in-Some-get.parent.now (sym c.in-Some-get.ensures))

-- the tries of one more parent
pub overflow_add-tried : goal.overflow_add-tried
overflow_add-tried g c =
    let q : Request = c.args.request.now in
    let Ns : List Matroid = c.in_ok-forbidden.forbidden in
    let given = same_given c.args.request.now _ _ (sym c.in_ok-forbidden.ensures) c.forbid.ensures.given in
    let parents : List Rep = c.args.parents.now in
    let so_far = subst (λ (Ms : List Matroid). HasTaken c.mode-mode.result Ms parents (shift_taken c.args.shift.now) (shift_taken c.loop.shift)
    c.args.pass.now c.loop.pass c.loop.tried) c.forbidden.view_is c.loop.invariant.so_far in
    let h = taken_more c.mode-mode.result Ns parents
    (parents_rise q Ns given c.laws.ensures.factors c.laws.ensures.limits c.requires.parents.0 parents c.requires.parents.1)
    (shift_taken c.args.shift.now) (shift_taken c.loop.shift) c.args.pass.now c.loop.pass c.loop.tried so_far c.in-Some-next.number
    c.in-Some-get.parent.now (sym c.in-Some-get.ensures) c.in-Some-next.ensures.taken.1 (search rules) (shift_taken c.next-in-loop.new.self)
    c.offer_children.new.pass c.in_ok-more.more (c.loop.tried + c.from-tried.result) c.in-Some-next.ensures.taken.2 c.in_ok-more.ensures.offered
    (ap (λ (k : ℕ). c.loop.tried + k) c.from-tried.ensures) in
    let fits : c.loop.tried + c.from-tried.result < 2 ^ 128 = tries_fit c.mode-mode.result Ns parents (shift_taken c.args.shift.now)
    (shift_taken c.next-in-loop.new.self)
    c.args.pass.now c.offer_children.new.pass (c.loop.tried + c.from-tried.result) h in
    omega arith

pub loop-preserved : goal.loop-preserved
loop-preserved g c =
    let q : Request = c.args.request.now in
    let Ns : List Matroid = c.in_ok-forbidden.forbidden in
    let given = same_given c.args.request.now _ _ (sym c.in_ok-forbidden.ensures) c.forbid.ensures.given in
    let parents : List Rep = c.args.parents.now in
    let so_far = subst (λ (Ms : List Matroid). HasTaken c.mode-mode.result Ms parents (shift_taken c.args.shift.now) (shift_taken c.loop.shift)
    c.args.pass.now c.loop.pass c.loop.tried) c.forbidden.view_is c.loop.invariant.so_far in
    let i = c.loop.invariant in
    let a = i.pass in
    let b = c.offer_children.ensures.same in
    let lent : length c.offer_children.new.batches ≡ length c.loop.batches.items =
    c.offer_children.auto.batches ∙ ap (λ (l : List (List (List ℕ))). length l) c.as_mut_slice.ensures.value in
    let back = written c.loop.batches.len c.offer_children.new.batches c.loop.batches.items lent
    (let o = c.loop.batches.ok.0 in omega arith) in
    record {
      pass = record { level = b.level ∙ a.level; number = b.number ∙ a.number };
      shift = stays_more c.args.shift.now c.loop.shift c.next-in-loop.new.self i.shift c.in-Some-next.ensures.same;
      width = ap (λ (l : List (List (List ℕ))). length l) back ∙ (lent ∙ i.width);
      empty = subst AreEmpty (sym back) c.in_ok-more.ensures.empty;
      so_far = subst (λ (Ms : List Matroid). HasTaken c.mode-mode.result Ms parents (shift_taken c.args.shift.now)
          (shift_taken c.next-in-loop.new.self) c.args.pass.now c.offer_children.new.pass (c.loop.tried + c.from-tried.result))
          (sym c.forbidden.view_is)
          (taken_more c.mode-mode.result Ns parents
          (parents_rise q Ns given c.laws.ensures.factors c.laws.ensures.limits c.requires.parents.0 parents c.requires.parents.1)
          (shift_taken c.args.shift.now) (shift_taken c.loop.shift) c.args.pass.now c.loop.pass c.loop.tried so_far c.in-Some-next.number
          c.in-Some-get.parent.now (sym c.in-Some-get.ensures) c.in-Some-next.ensures.taken.1 (search rules) (shift_taken c.next-in-loop.new.self)
          c.offer_children.new.pass c.in_ok-more.more (c.loop.tried + c.from-tried.result) c.in-Some-next.ensures.taken.2 c.in_ok-more.ensures.offered
          (ap (λ (k : ℕ). c.loop.tried + k) c.from-tried.ensures));
    }
