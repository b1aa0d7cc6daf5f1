use Rattle.std.proofs.Common.{sym, ◌∙◌, subst, refl, arith}
use Rattle.matroid_theory.specs.Minor.{Matroid, IsMinor}
use Rattle.level_driver.proofs.Avoiding.{found_one, has_one, avoids_more, avoids_all}
use Rattle.level_driver.proofs.forbidden.avoids.Goals as goal

pub returns-then-is_some : goal.returns-then-is_some
returns-then-is_some c =
    let minor = found_one c.minor.result.now c.args.rep.now c.has_minor.result (sym c.is_some.ensures ∙ c.if-is_some.true) c.has_minor.ensures.found in
    let has = has_one c.args.forbidden.now c.loop-item.item-index c.item-item.result c.loop-item-test.true c.item-item.is
    c.args.rep.now (subst (λ (N : Matroid). IsMinor N c.args.rep.now) c.minor.ensures minor) in
    (λ same. cc (same), λ avoids. absurd (has avoids))

pub loop-item-preserved : goal.loop-item-preserved
loop-item-preserved c =
    avoids_more c.args.forbidden.now c.loop-item.item-index c.item-item.result c.loop-item-test.true c.item-item.is c.args.rep.now c.loop-item.invariant
    (λ minor. c.has_minor.ensures.none (sym c.is_some.ensures ∙ c.if-is_some.false)
    (subst (λ (N : Matroid). IsMinor N c.args.rep.now) (sym c.minor.ensures) minor))

pub returns : goal.returns
returns c = (λ same. avoids_all c.args.forbidden.now c.loop-item.item-index c.args.rep.now (omega arith) c.loop-item.invariant, λ avoids. refl)
