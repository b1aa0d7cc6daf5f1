use Rattle.std.proofs.Common.{sym, ◌∙◌, refl}
use Rattle.level_driver.proofs.Avoiding.{found_one, has_this, avoids_this, avoids_these}
use Rattle.level_driver.proofs.forbidden.none_found.Goals as goal

pub returns-then-is_some : goal.returns-then-is_some
returns-then-is_some c =
    let minor = found_one c.one-item.result c.args.whole.now c.find_minor.result (sym c.is_some.ensures ∙ c.if-is_some.true) c.find_minor.ensures.found in
    let has = has_this c.args.sought.now c.loop-one.one-index c.one-item.result c.loop-one-test.true c.one-item.is c.args.whole.now minor in
    (λ same. cc (same), λ avoids. absurd (has avoids))

pub loop-one-preserved : goal.loop-one-preserved
loop-one-preserved c =
    avoids_this c.args.sought.now c.loop-one.one-index c.one-item.result c.loop-one-test.true c.one-item.is c.args.whole.now c.loop-one.invariant
    (c.find_minor.ensures.none (sym c.is_some.ensures ∙ c.if-is_some.false))

pub returns : goal.returns
returns c = (λ _. avoids_these c.args.sought.now c.loop-one.one-index c.args.whole.now c.loop-one-test.false c.loop-one.invariant, λ _. refl)
