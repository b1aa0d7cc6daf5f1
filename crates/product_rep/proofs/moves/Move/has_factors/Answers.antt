use Rattle.std.proofs.Common.{◌≡◌, ◌<◌, ◌≤◌, length, refl, ◌∙◌, ap, arith, below_more}
use Rattle.std.proofs.lemmas.Bool.{false≢true}
use Rattle.matroid_theory.specs.Move.{MoveTable}
use Rattle.product_rep.proofs.moves.Move.has_factors.Goals as goal

pub returns-then-not-has_factor : goal.returns-then-not-has_factor
returns-then-not-has_factor c =
    let n : c.count-factor-end.result ≡ length c.args.self.now.shape.factors = c.count-factor-end.ensures.count
    ∙ ap (λ (t : MoveTable). length t.shape.factors) c.self.view_is in
    let b : c.loop-factor.factor < c.count-factor-end.result = c.loop-factor-test.true in (
      λ t. absurd (false≢true t),
      λ h. (let k = c.has_factor.ensures.1 (h c.loop-factor.factor (omega arith)) in
          let t = c.if-not-has_factor.true in let e = c.if-not-has_factor.ensures in cc),
    )

pub loop-factor-preserved : goal.loop-factor-preserved
loop-factor-preserved c = below_more _ _ c.loop-factor.invariant
    (c.has_factor.ensures.0 (let t = c.if-not-has_factor.false in let e = c.if-not-has_factor.ensures in cc))

pub returns : goal.returns
returns c =
    let n : c.count-factor-end.result ≡ length c.args.self.now.shape.factors = c.count-factor-end.ensures.count
    ∙ ap (λ (t : MoveTable). length t.shape.factors) c.self.view_is in
    let b : c.count-factor-end.result ≤ c.loop-factor.factor = c.loop-factor-test.false in (
      λ t f l. c.loop-factor.invariant f (omega arith),
      λ h. refl,
    )
