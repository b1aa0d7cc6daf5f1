use Rattle.std.proofs.Common.{true, length}
use Rattle.matroid_theory.specs.Matrix.{IsIndependent}
use Rattle.matroid_theory.specs.Rep.{order}
use Rattle.matroid_laws.proofs.Agreement.{one_more}
use Rattle.canonical_form.specs.Search.{chosen}
use Rattle.canonical_form.proofs.coordinates.are_independent.Goals as goal

pub loop-factor-preserved : goal.loop-factor-preserved
loop-factor-preserved c =
    one_more c.loop-factor.factor
    (λ f. IsIndependent (order c.args.rep.now f) c.args.rep.now.rank (length c.args.columns.now)
    (chosen c.args.rep.now c.args.columns.now f) (λ _. true)) c.loop-factor.invariant
    (c.are_independent_in.ensures.0 c.if-not-are_independent_in.false)
