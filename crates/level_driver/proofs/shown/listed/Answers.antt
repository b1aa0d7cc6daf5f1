use Rattle.std.proofs.Common.{◌≡◌, ◌∙◌, List, ap, sym, subst, length, Some, arith, ◌+◌, take, map}
use Rattle.std.specs.Prelude.{slice_get}
use Rattle.std.proofs.lemmas.List.{map_push}
use Rattle.matroid_theory.specs.Rep.{Rep}
use Rattle.matroid_theory.specs.Level.{IsLevelForm, Passes}
use Rattle.level_driver.proofs.Asking.{tells, told_by, stands_at, form_agrees}
use Rattle.level_driver.proofs.MatroidLists.{same_lists}
use Rattle.level_driver.proofs.Sifted.{AreThose, next_kept, next_left_out, all_seen}
use Rattle.level_driver.proofs.shown.listed.Goals as goal
use Rattle.level_driver.proofs.shown.listed.Goals.{then-passes_all+in_ok-push, else-passes_all}

pub passes_all-requires-clause-agrees : goal.passes_all-requires-clause-agrees
passes_all-requires-clause-agrees c =
    form_agrees c.args.request.now c.laws.ensures.forbidden.0 c.laws.ensures.forbidden.1 c.requires.0
    c.args.forms.now c.requires.1 c.loop-i.i c.form-item.result
    (stands_at c.args.forms.now c.as_slice-form-items.result.now c.loop-i.i c.form-item.result c.as_slice-form-items.ensures c.loop-i-test.true c.form-item.is)

pub loop-i-preserved : goal.loop-i-preserved
loop-i-preserved c = λ n family filters grows keeps level.
    let e = c.filters-filters.ensures in
    let P : Rep → Type 0 = Passes family n filters in
    let at : slice_get c.args.forms.now c.loop-i.i ≡ Some c.form-item.result =
    stands_at c.args.forms.now c.as_slice-form-items.result.now c.loop-i.i c.form-item.result c.as_slice-form-items.ensures c.loop-i-test.true c.form-item.is in
    let told =
    tells c.args.request.now c.filters-filters.result.now
    (record { connected = e.connected; three = e.three; cosimple = e.cosimple; distinct = e.distinct; given = e.given })
    c.args.forms.now c.loop-i.i c.form-item.result at c.passes_all.result
    (told_by c.filters-filters.result.now c.args.forms.now c.deref.result.now
    (λ compared. same_lists c.as_slice.result.now c.args.forms.now c.in_ok-lists.lists.items c.deref.result.now c.as_slice.ensures
    c.deref.ensures.value (c.in_ok-lists.ensures compared)) c.loop-i.i c.form-item.result at c.passes_all.result c.passes_all.ensures)
    n family filters c.form-item.result grows keeps level at in
    let so_far = c.loop-i.invariant n family filters grows keeps level in
    elim c.if-passes_all.branch [
      | then-passes_all+in_ok-push w ↦ subst (λ (ms : List Rep). AreThose P (take (c.loop-i.i + 1) c.args.forms.now) ms)
          (sym (ap (λ v. map (λ form. form.now) v.items) w.shown-is ∙ ap (map (λ form. form.now)) w.in_ok-push.ensures.items
          ∙ map_push (λ form. form.now) c.loop-i.shown.items _))
          (next_kept P c.args.forms.now _ c.loop-i.i c.form-item.result at so_far (told.0 w.if-passes_all.true))
      | else-passes_all w ↦ subst (λ (ms : List Rep). AreThose P (take (c.loop-i.i + 1) c.args.forms.now) ms)
          (sym (ap (λ v. map (λ form. form.now) v.items) w.shown-is))
          (next_left_out P c.args.forms.now _ c.loop-i.i c.form-item.result at so_far (λ passes. let t = told.1 passes in cc (t, w.if-passes_all.false)))
    ]

pub returns : goal.returns
returns c = λ n family filters grows keeps level.
    all_seen (IsLevelForm family n) (Passes family n filters) c.args.forms.now _ c.loop-i.i
    (omega (arith, ap length c.as_slice-form-items.ensures)) (c.loop-i.invariant n family filters grows keeps level) level
