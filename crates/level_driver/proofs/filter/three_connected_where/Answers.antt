use Rattle.std.proofs.Common.{rules, ◌≡◌, true}
use Rattle.level_driver.proofs.filter.three_connected_where.Goals as goal

pub returns-else-not-asked : goal.returns-else-not-asked
returns-else-not-asked c =
    let asked : c.args.asked ≡ true = search rules in
    ((λ t _. c.three_connected.ensures.0 t), (λ h. c.three_connected.ensures.1 (h asked)))
