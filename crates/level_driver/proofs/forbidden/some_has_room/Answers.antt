use Rattle.std.proofs.Common.{sym, subst}
use Rattle.matroid_theory.specs.Minor.{Matroid, IsMinor}
use Rattle.level_driver.proofs.Avoiding.{avoids_this, avoids_these}
use Rattle.level_driver.proofs.forbidden.some_has_room.Goals as goal

pub loop-one-preserved : goal.loop-one-preserved
loop-one-preserved c =
    avoids_this c.args.sought.now c.loop-one.one-index c.one-item.result c.loop-one-test.true c.one-item.is c.args.rep.now c.loop-one.invariant
    (λ minor. c.leaves_room.ensures.no_minor c.if-leaves_room.false
    (subst (λ (N : Matroid). IsMinor N c.args.rep.now) (sym c.minor.ensures) minor))

pub returns : goal.returns
returns c = λ _. avoids_these c.args.sought.now c.loop-one.one-index c.args.rep.now c.loop-one-test.false c.loop-one.invariant
