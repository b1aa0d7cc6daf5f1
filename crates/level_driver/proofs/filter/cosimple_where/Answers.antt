use Rattle.std.proofs.Common.{rules, ◌≡◌, true}
use Rattle.level_driver.proofs.filter.cosimple_where.Goals as goal

pub returns-else-not-asked : goal.returns-else-not-asked
returns-else-not-asked c =
    let asked : c.args.asked ≡ true = search rules in
    ((λ t _. c.cosimple.ensures.0 t), (λ h. c.cosimple.ensures.1 (h asked)))
