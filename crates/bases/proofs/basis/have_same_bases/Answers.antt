use Rattle.std.proofs.Common.{◌≡◌, ◌≤◌, ◌<◌, ◌↔◌, ℕ, Bool, List, length, arith, sym, ◌∙◌, ap, subst, refl}
use Rattle.std.proofs.lemmas.Bool.{false≢true}
use Rattle.matroid_theory.specs.Rep.{count}
use Rattle.matroid_theory.specs.Matroid.{IsBasis}
use Rattle.matroid_laws.proofs.Agreement.{one_more}
use Rattle.bases.proofs.basis.have_same_bases.Goals as goal

pub loop-factor-init : goal.loop-factor-init
loop-factor-init c f l S = let e : 0 ≡ f = omega arith in subst (λ (f : ℕ). IsBasis c.args.rep.now 0 S ↔ IsBasis c.args.rep.now f S) e (λ b. b, λ b. b)

pub returns-then-not-is_alike : goal.returns-then-not-is_alike
returns-then-not-is_alike c = (
  λ t. absurd (false≢true t),
  λ h. absurd (false≢true (sym c.if-not-is_alike.true ∙ c.is_alike.ensures.1 (h c.loop-factor.factor
      (subst (λ (n : ℕ). c.loop-factor.factor < n)
      (c.count-factor-end.ensures.count ∙ ap (λ (fs : List ℕ). length fs) c.factors.ensures) c.loop-factor-test.true)))),
)

pub loop-factor-preserved : goal.loop-factor-preserved
loop-factor-preserved c =
    one_more c.loop-factor.factor (λ f. (S : ℕ → Bool) → (IsBasis c.args.rep.now 0 S ↔ IsBasis c.args.rep.now f S))
    c.loop-factor.invariant (c.is_alike.ensures.0 c.if-not-is_alike.false)

pub returns : goal.returns
returns c =
    let n : c.count-factor-end.result ≡ count c.args.rep.now = c.count-factor-end.ensures.count ∙ ap (λ (fs : List ℕ). length fs) c.factors.ensures in
    let g : c.count-factor-end.result ≤ c.loop-factor.factor = c.loop-factor-test.false in
    (λ _ f l. c.loop-factor.invariant f (omega arith), λ _. refl)
