use Rattle.std.proofs.Common.{◌≡◌, ◌<◌, ℕ, List, length, sym, ◌∙◌, ap, arith, rules}
use mathlib.Core.Bool.{true≢false}
use Rattle.matroid_theory.specs.Field.{degree}
use Rattle.matroid_theory.specs.Rep.{Shape, count, order}
use Rattle.matroid_laws.proofs.Semilinear.{raised_agrees, raised_standard, factor_below, power_below}
use Rattle.fast_form.proofs.OwnForms.{one_power, not_one_power}
use Rattle.fast_form.proofs.own.+is_least_from.Goals as goal

pub is_least_from-requires : goal.is_least_from-requires
is_least_from-requires t c =
    let n : c.count.result ≡ count c.args.rep.now = c.count.ensures.count ∙ ap (λ (fs : List ℕ). length fs) c.factors-factors.ensures in
    let l : c.args.factor < count c.args.rep.now = factor_below _ _ _ c.requires.factor n c.if-factor-count.false in
    let d : c.loop-power.power < degree (order c.args.rep.now c.args.factor) =
    power_below c.args.rep.now c.args.factor c.loop-power.power c.field-field.result c.degree-power-end.result c.factors-factors.result
    c.degree-power-end.ensures c.field-field.ensures c.factors-factors.ensures c.loop-power-test.true in
    let e : count c.raised.result ≡ count c.args.rep.now = ap (λ (S : Shape). length S.factors) c.raised.ensures.same_shape in (
      first_of (omega arith, search rules),
      (
        raised_agrees c.args.rep.now c.args.factor c.loop-power.power c.raised.result c.laws.ensures.shaped l c.raised.ensures d c.requires.agrees,
        (
          raised_standard c.args.rep.now c.args.factor c.loop-power.power c.raised.result c.laws.ensures.shaped l c.raised.ensures c.requires.standard,
          (c.requires.shape ∙ sym c.raised.ensures.same_shape, omega arith),
        ),
      ),
    )

pub returns-then-not-is_least_from : goal.returns-then-not-is_least_from
returns-then-not-is_least_from t c =
    let n : c.count.result ≡ count c.args.rep.now = c.count.ensures.count ∙ ap (λ (fs : List ℕ). length fs) c.factors-factors.ensures in
    let l : c.args.factor < count c.args.rep.now = factor_below _ _ _ c.requires.factor n c.if-factor-count.false in
    let d : c.loop-power.power < degree (order c.args.rep.now c.args.factor) =
    power_below c.args.rep.now c.args.factor c.loop-power.power c.field-field.result c.degree-power-end.result c.factors-factors.result
    c.degree-power-end.ensures c.field-field.ensures c.factors-factors.ensures c.loop-power-test.true in (
      λ e. absurd (true≢false (sym e)),
      λ h. absurd (not_one_power c.args.factor c.loop-power.power c.args.least.now c.args.rep.now c.raised.result c.laws.ensures.shaped l d c.raised.ensures
          (λ w. true≢false (sym (c.is_least_from.ensures.1 w) ∙ c.if-not-is_least_from.true)) h),
    )

pub loop-power-preserved : goal.loop-power-preserved
loop-power-preserved t c =
    let n : c.count.result ≡ count c.args.rep.now = c.count.ensures.count ∙ ap (λ (fs : List ℕ). length fs) c.factors-factors.ensures in
    let l : c.args.factor < count c.args.rep.now = factor_below _ _ _ c.requires.factor n c.if-factor-count.false in
    let d : c.loop-power.power < degree (order c.args.rep.now c.args.factor) =
    power_below c.args.rep.now c.args.factor c.loop-power.power c.field-field.result c.degree-power-end.result c.factors-factors.result
    c.degree-power-end.ensures c.field-field.ensures c.factors-factors.ensures c.loop-power-test.true in
    one_power c.args.factor c.loop-power.power c.args.least.now c.args.rep.now c.raised.result c.laws.ensures.shaped l d c.raised.ensures
    c.loop-power.invariant (c.is_least_from.ensures.0 c.if-not-is_least_from.false)
