use Rattle.std.proofs.Common.{sym, subst}
use Rattle.matroid_theory.specs.declared.Mode.TheVariants.{Semilinear}
use Rattle.matroid_theory.specs.Rep.{shape}
use Rattle.matroid_theory.specs.Move.{MoveTable, IsMove, TakesTo, move_of}
use Rattle.product_rep.proofs.RaisedLemmas.{power_valid, power_takes}
use Rattle.product_rep.proofs.moves.raised.Goals as goal

pub act-requires-clause-valid : goal.act-requires-clause-valid
act-requires-clause-valid c =
    subst (λ (t : MoveTable). IsMove Semilinear (shape c.args.rep.now) (move_of t)) (sym c.set_power.ensures)
    (power_valid c.args.rep.now c.identity-step.result c.args.factor c.args.power c.laws.ensures c.laws-2.ensures
    c.identity-step.ensures.shape c.requires.factor
    c.requires.power (c.identity-step.ensures.valid Semilinear))

pub returns : goal.returns
returns c =
    power_takes c.args.rep.now c.identity-step.result c.args.factor c.args.power c.laws.ensures c.laws-2.ensures c.identity-step.ensures.shape c.requires.factor
    c.act.result c.identity-step.ensures.entries
    (subst (λ (t : MoveTable). TakesTo c.args.rep.now (move_of t) c.act.result) c.set_power.ensures c.act.ensures)
