use Rattle.dual_theory.proofs.Representations.{standard_represents, one_least}
use Rattle.dual_theory.proofs.laws.representations.Goals as goal

pub returns-clause-standard : goal.returns-clause-standard
returns-clause-standard c = standard_represents

pub returns-clause-one : goal.returns-clause-one
returns-clause-one c = one_least
