use Rattle.matroid_theory.specs.declared.Mode.TheVariants.{Linear}
use Rattle.matroid_laws.proofs.Carried.{agrees_carried}
use Rattle.matroid_laws.proofs.Equivalence.{equivalent-transitive}
use Rattle.fast_form.proofs.linear.least_linear.Goals as goal

pub least_of_standard-requires-else-is_standard-clause-agrees : goal.least_of_standard-requires-else-is_standard-clause-agrees
least_of_standard-requires-else-is_standard-clause-agrees c =
    (agrees_carried Linear c.args.rep.now c.some_standard.result c.some_standard.ensures.equivalent).0 c.requires

pub returns-else-is_standard-clause-equivalent : goal.returns-else-is_standard-clause-equivalent
returns-else-is_standard-clause-equivalent c =
    equivalent-transitive Linear c.args.rep.now c.some_standard.result c.least_of_standard-else-is_standard.result c.some_standard.ensures.equivalent
    c.least_of_standard-else-is_standard.ensures.equivalent
