use Rattle.std.proofs.Common.{◌≡◌, ◌+◌, ◌^◌, ◌<◌, ◌↔◌, ℕ, List, length, arith, ◌∙◌, sym, ap, subst, refl}
use Rattle.std.proofs.lemmas.Bool.{false≢true}
use Rattle.matroid_theory.specs.Matrix.{size_below}
use Rattle.matroid_theory.specs.Rep.{size, count}
use Rattle.matroid_theory.specs.Matroid.{members, IsIndependentIn}
use Rattle.matroid_laws.proofs.Agreement.{one_more}
use Rattle.extension.specs.Steps.{with_new}
use Rattle.extension.proofs.Alike.{alike_in_factors, alike_in_columns}
use Rattle.extension.proofs.admissible.has_alike_factors.Goals as goal

pub loop-factor-init : goal.loop-factor-init
loop-factor-init c f l X _ _ =
    let e : 0 ≡ f = omega arith in
    subst (λ (f : ℕ). IsIndependentIn c.args.longer.now 0 (with_new c.args.rep.now (members X)) ↔ IsIndependentIn c.args.longer.now
    f (with_new c.args.rep.now (members X))) e (λ d. d, λ d. d)

pub returns-then-not-is_alike_in : goal.returns-then-not-is_alike_in
returns-then-not-is_alike_in c = (
  λ t. absurd (false≢true t),
  λ h. let l : c.loop-factor.factor < count c.args.longer.now = subst (λ (n : ℕ). c.loop-factor.factor < n)
      (c.count-factor-end.ensures.count ∙ ap (λ (fs : List ℕ). length fs) c.factors.ensures) c.loop-factor-test.true in
      absurd (false≢true (sym c.if-not-is_alike_in.true ∙ c.is_alike_in.ensures.1 (λ X b s.
      alike_in_columns c.args.longer.now c.laws.ensures c.loop-factor.factor c.of-first.result.field c.of-other.result.field
      c.of-first.result.columns.items c.of-other.result.columns.items
      c.of-first.ensures c.of-other.ensures (with_new c.args.rep.now (members X)) (h X c.loop-factor.factor b s l)))),
)

pub loop-factor-preserved : goal.loop-factor-preserved
loop-factor-preserved c =
    one_more c.loop-factor.factor
    (λ f. (X : ℕ) → X < 2 ^ size c.args.rep.now → size_below (size c.args.rep.now) (members X) + 1 ≡ c.args.rep.now.rank →
    (IsIndependentIn c.args.longer.now 0 (with_new c.args.rep.now (members X)) ↔ IsIndependentIn c.args.longer.now f (with_new c.args.rep.now (members X))))
    c.loop-factor.invariant
    (λ X b s. alike_in_factors c.args.longer.now c.laws.ensures c.loop-factor.factor c.of-first.result.field c.of-other.result.field
    c.of-first.result.columns.items c.of-other.result.columns.items
    c.of-first.ensures c.of-other.ensures (with_new c.args.rep.now (members X)) (c.is_alike_in.ensures.0 c.if-not-is_alike_in.false X b s))

pub returns : goal.returns
returns c = (
  (λ _ X f b s l. c.loop-factor.invariant f
      (let n : c.count-factor-end.result ≡ count c.args.longer.now = c.count-factor-end.ensures.count
      ∙ ap (λ (fs : List ℕ). length fs) c.factors.ensures in omega arith) X b s),
  λ _. refl,
)
