use Rattle.std.proofs.Common.{◌≡◌, ◌+◌, ◌<◌, ℕ, List, length, sym, ◌∙◌, ap, subst, arith, rules}
use Rattle.matroid_theory.specs.Field.{degree}
use Rattle.matroid_theory.specs.Rep.{Shape, count, order}
use Rattle.matroid_laws.proofs.Compared.{below_not_above, not_below_reversed}
use Rattle.matroid_laws.proofs.Semilinear.{IsLeastBelow, raised_agrees, least_linear, least_first, least_kept, least_replaced, factor_below, power_below}
use Rattle.matrix_lemmas.proofs.Orderings.{is_less, is_not_less}
use Rattle.fast_form.proofs.modes.+least_from.Goals as goal
use Rattle.fast_form.proofs.modes.+least_from.Goals.{then-eq, else-eq}

pub returns-then-factor-count : goal.returns-then-factor-count
returns-then-factor-count t c =
    let n : c.count.result ≡ count c.args.rep.now = c.count.ensures.count ∙ ap (λ (fs : List ℕ). length fs) c.factors-factors.ensures in
    let e : c.args.factor ≡ c.count.result = c.if-factor-count.true in
    least_linear c.args.factor c.args.rep.now c.least_linear.result (omega arith) c.least_linear.ensures.form c.least_linear.ensures.equivalent

pub loop-power-init : goal.loop-power-init
loop-power-init t c =
    let n : c.count.result ≡ count c.args.rep.now = c.count.ensures.count ∙ ap (λ (fs : List ℕ). length fs) c.factors-factors.ensures in
    least_first c.args.factor c.args.rep.now c.least_from-best.result c.laws.ensures.shaped
    (factor_below _ _ _ c.requires.factor n c.if-factor-count.false) c.least_from-best.ensures

pub least_from-other-requires : goal.least_from-other-requires
least_from-other-requires t c =
    let n : c.count.result ≡ count c.args.rep.now = c.count.ensures.count ∙ ap (λ (fs : List ℕ). length fs) c.factors-factors.ensures in
    let l : c.args.factor < count c.args.rep.now = factor_below _ _ _ c.requires.factor n c.if-factor-count.false in
    let e : count c.raised.result ≡ count c.args.rep.now = ap (λ (S : Shape). length S.factors) c.raised.ensures.same_shape in (
      first_of (omega arith, search rules),
      (
        raised_agrees c.args.rep.now c.args.factor c.loop-power.power c.raised.result c.laws.ensures.shaped l c.raised.ensures
            (power_below c.args.rep.now c.args.factor c.loop-power.power c.field-field.result c.degree-power-end.result c.factors-factors.result
            c.degree-power-end.ensures c.field-field.ensures c.factors-factors.ensures c.loop-power-test.true) c.requires.agrees,
        omega arith,
      ),
    )

pub loop-power-preserved : goal.loop-power-preserved
loop-power-preserved t c =
    let n : c.count.result ≡ count c.args.rep.now = c.count.ensures.count ∙ ap (λ (fs : List ℕ). length fs) c.factors-factors.ensures in
    let l : c.args.factor < count c.args.rep.now = factor_below _ _ _ c.requires.factor n c.if-factor-count.false in
    let d : c.loop-power.power < degree (order c.args.rep.now c.args.factor) =
    power_below c.args.rep.now c.args.factor c.loop-power.power c.field-field.result c.degree-power-end.result c.factors-factors.result
    c.degree-power-end.ensures c.field-field.ensures c.factors-factors.ensures c.loop-power-test.true in
    elim c.if-eq.branch [
      | then-eq w ↦
          subst (IsLeastBelow c.args.factor (c.loop-power.power + 1) c.args.rep.now) (sym w.best-is)
          (least_replaced c.args.factor c.loop-power.power c.args.rep.now c.raised.result c.loop-power.best c.least_from-other.result c.laws.ensures.shaped l d
          c.raised.ensures c.loop-power.invariant c.least_from-other.ensures
          (below_not_above c.least_from-other.result c.loop-power.best (sym c.compare.ensures ∙ is_less c.compare.result (sym c.eq.ensures ∙ w.if-eq.true))))
      | else-eq w ↦
          subst (IsLeastBelow c.args.factor (c.loop-power.power + 1) c.args.rep.now) (sym w.best-is)
          (least_kept c.args.factor c.loop-power.power c.args.rep.now c.raised.result c.loop-power.best c.least_from-other.result c.laws.ensures.shaped l d
          c.raised.ensures c.loop-power.invariant c.least_from-other.ensures
          (not_below_reversed c.least_from-other.result c.loop-power.best
          (λ h. is_not_less c.compare.result (sym c.eq.ensures ∙ w.if-eq.false) (c.compare.ensures ∙ h))))
    ]
