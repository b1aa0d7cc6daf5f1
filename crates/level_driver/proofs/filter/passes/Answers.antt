use Rattle.std.proofs.Common.{◌≡◌, ◌∙◌, ◌+◌, ap, sym, refl, length, take, false, true, Some, arith}
use Rattle.std.specs.Prelude.{slice_get}
use Rattle.std.proofs.lemmas.Bool.{false≢true}
use Rattle.level_driver.proofs.Asking.{tells, stands_at, form_agrees}
use Rattle.level_driver.proofs.MatroidLists.{front_earliest, front_first, same_lists}
use Rattle.level_driver.proofs.filter.passes.Goals as goal

pub passes_alone-requires : goal.passes_alone-requires
passes_alone-requires c =
    form_agrees c.args.request.now c.laws.ensures.forbidden.0 c.laws.ensures.forbidden.1 c.requires.level.0
    c.args.forms.now c.requires.level.1 c.args.i c.index-forms-i.result
    (stands_at c.args.forms.now c.as_slice-forms.result.now c.args.i c.index-forms-i.result c.as_slice-forms.ensures
    (omega (arith, ap length c.as_slice-forms.ensures)) c.index-forms-i.is)

pub returns-then-not-passes_alone-clause-listed : goal.returns-then-not-passes_alone-clause-listed
returns-then-not-passes_alone-clause-listed c =
    let e = c.filters-filters.ensures in
    tells c.args.request.now c.filters-filters.result.now
    (record { connected = e.connected; three = e.three; cosimple = e.cosimple; distinct = e.distinct; given = e.given })
    c.args.forms.now c.args.i c.index-forms-i.result
    (stands_at c.args.forms.now c.as_slice-forms.result.now c.args.i c.index-forms-i.result c.as_slice-forms.ensures
    (omega (arith, ap length c.as_slice-forms.ensures)) c.index-forms-i.is) false
    ((λ t. absurd (false≢true t)), (λ p. sym c.if-not-passes_alone.true ∙ c.passes_alone.ensures.1 p.alone))

pub returns-then-not-filters-clause-listed : goal.returns-then-not-filters-clause-listed
returns-then-not-filters-clause-listed c =
    let e = c.filters-filters.ensures in
    tells c.args.request.now c.filters-filters.result.now
    (record { connected = e.connected; three = e.three; cosimple = e.cosimple; distinct = e.distinct; given = e.given })
    c.args.forms.now c.args.i c.index-forms-i.result
    (stands_at c.args.forms.now c.as_slice-forms.result.now c.args.i c.index-forms-i.result c.as_slice-forms.ensures
    (omega (arith, ap length c.as_slice-forms.ensures)) c.index-forms-i.is) true (
      (λ _. record {
        alone = c.passes_alone.ensures.0 c.if-not-passes_alone.false;
        distinct =
            λ compared. absurd (false≢true (sym c.if-not-filters.true ∙ compared));
      }),
      (λ _. refl),
    )

pub returns-clause-listed : goal.returns-clause-listed
returns-clause-listed c =
    let e = c.filters-filters.ensures in
    let at : slice_get c.args.forms.now c.args.i ≡ Some c.index-forms-i.result =
    stands_at c.args.forms.now c.as_slice-forms.result.now c.args.i c.index-forms-i.result c.as_slice-forms.ensures
    (omega (arith, ap length c.as_slice-forms.ensures)) c.index-forms-i.is in
    let are = same_lists _ (take (c.args.i + 1) c.args.forms.now) c.in_ok-lists.lists.items c.deref.result.now
    (ap (take (c.args.i + 1)) c.as_slice-forms.ensures) c.deref.ensures.value c.in_ok-lists.ensures in
    tells c.args.request.now c.filters-filters.result.now
    (record { connected = e.connected; three = e.three; cosimple = e.cosimple; distinct = e.distinct; given = e.given })
    c.args.forms.now c.args.i c.index-forms-i.result at c.is_first.result (
      (λ t. record {
        alone = c.passes_alone.ensures.0 c.if-not-passes_alone.false;
        distinct =
            λ _. front_earliest c.args.forms.now c.args.i c.index-forms-i.result at c.deref.result.now are (c.is_first.ensures.0 t);
      }),
      (λ p. c.is_first.ensures.1 (front_first c.args.forms.now c.args.i c.index-forms-i.result at c.deref.result.now are (p.distinct c.if-not-filters.false))),
    )
