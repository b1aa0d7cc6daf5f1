use Rattle.std.proofs.Common.{◌∙◌, ◌++◌, ◌∷◌, [], sym, ap}
use Rattle.std.proofs.lemmas.List.{take_all}
use Rattle.level_driver.specs.Forbidden.{matroids_of}
use Rattle.level_driver.proofs.Avoiding.{matroids_more}
use Rattle.level_driver.proofs.forbidden.Forbidden.of.Goals as goal

pub loop-item-preserved : goal.loop-item-preserved
loop-item-preserved c =
    c.in_ok-push.ensures.items ∙ (λ i. c.loop-item.invariant i ++ (c.of.ensures ∙ c.minor.ensures) i ∷ [])
    ∙ sym (matroids_more c.args.items.now c.loop-item.item-index c.item-item.result c.loop-item-test.true c.item-item.is)

pub returns : goal.returns
returns c = c.loop-item.invariant ∙ ap matroids_of (take_all c.loop-item.item-index c.args.items.now c.loop-item-test.false)
