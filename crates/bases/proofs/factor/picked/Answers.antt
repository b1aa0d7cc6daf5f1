use Rattle.matroid_theory.specs.Matroid.{members}
use Rattle.bases.proofs.Factors.{picked_same}
use Rattle.bases.proofs.factor.picked.Goals as goal

pub returns-clause-picked : goal.returns-clause-picked
returns-clause-picked c = picked_same c.args.rep.now c.laws.ensures c.args.factor c.of.result.field c.of.result.columns.items
    c.of.ensures c.columns.result.now c.columns.ensures.columns (members c.args.set) c.picked.result.items c.picked.ensures
