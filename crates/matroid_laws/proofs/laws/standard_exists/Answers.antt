use Rattle.matroid_laws.proofs.Built.{standard_each, standard_exists}
use Rattle.matroid_laws.proofs.laws.standard_exists.Goals as goal

pub returns-clause-each : goal.returns-clause-each
returns-clause-each c = standard_each

pub returns-clause-some : goal.returns-clause-some
returns-clause-some c = standard_exists
