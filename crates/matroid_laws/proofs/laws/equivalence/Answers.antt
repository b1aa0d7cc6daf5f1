use Rattle.matroid_laws.proofs.Equivalence.{equivalent-reflexive, equivalent-symmetric, equivalent-transitive}
use Rattle.matroid_laws.proofs.laws.equivalence.Goals as goal

pub returns-clause-reflexive : goal.returns-clause-reflexive
returns-clause-reflexive c = equivalent-reflexive

pub returns-clause-symmetric : goal.returns-clause-symmetric
returns-clause-symmetric c = equivalent-symmetric

pub returns-clause-transitive : goal.returns-clause-transitive
returns-clause-transitive c = equivalent-transitive
