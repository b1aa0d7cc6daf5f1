use Rattle.std.proofs.Common.{◌≡◌, ◌<◌, ℕ, arith, subst, inl, inr}
use Rattle.std.proofs.lemmas.Bool.{cases_lt}
use Rattle.matroid_theory.specs.Rep.{size}
use Rattle.matroid_theory.specs.Matroid.{IsIndependentIn}
use Rattle.matrix_lemmas.proofs.Pairs.{pair}
use Rattle.bases.proofs.simple.is_simple.Goals as goal

pub loop-factor-preserved : goal.loop-factor-preserved
loop-factor-preserved c f l =
    elim (cases_lt f c.loop-factor.factor) [
      | inl b ↦ c.loop-factor.invariant f b
      | inr g ↦ (let e : c.loop-factor.factor ≡ f = omega arith in
          subst (λ (x : ℕ). (i j : ℕ) → i < size c.args.rep.now → j < size c.args.rep.now →
          IsIndependentIn c.args.rep.now x (pair i j)) e (c.is_simple_in.ensures.0 c.if-not-is_simple_in.false))
    ]
