use Rattle.macek_run.proofs.NextGrown.{next_grown}
use Rattle.macek_run.proofs.growth.level_after.Goals as goal

pub returns-in-None-clause-level : goal.returns-in-None-clause-level
returns-in-None-clause-level c =
    next_grown c.args.request.now c.args.parents.now c.args.levels.now c.grow.result c.grow.ensures.forms c.grow.ensures.tried
