use Rattle.std.proofs.Common.{subst, sym}
use Rattle.std.proofs.lemmas.List.{take_all}
use Rattle.std.proofs.lemmas.List.Elements.{All-more, All-same}
use Rattle.extension.specs.declared.planes.Plane.{Plane}
use Rattle.extension.specs.Planes.{IsAlikeAt}
use Rattle.extension.proofs.agreement.refusing_rows.Goals as goal

pub loop-plane-preserved : goal.loop-plane-preserved
loop-plane-preserved c =
    All-more (IsAlikeAt c.args.rep.now c.args.new.now.items) c.args.planes.now c.loop-plane.plane-index c.plane-item.result
    c.loop-plane-test.true c.loop-plane.invariant
    (subst (λ (plane : Plane). IsAlikeAt c.args.rep.now c.args.new.now.items plane) c.plane-item.is
    (c.is_alike_at.ensures.0 c.if-not-is_alike_at.false))

pub returns : goal.returns
returns c = All-same (IsAlikeAt c.args.rep.now c.args.new.now.items) c.args.planes.now _
    (sym (take_all c.loop-plane.plane-index c.args.planes.now c.loop-plane-test.false)) c.loop-plane.invariant
