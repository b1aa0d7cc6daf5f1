use Rattle.dual_theory.proofs.StandardDual.{standard_dual_exists, standard_dual_orthogonal, standard_dual_has_bases}
use Rattle.dual_theory.proofs.laws.standard_duals.Goals as goal

pub returns-clause-exists : goal.returns-clause-exists
returns-clause-exists c = standard_dual_exists

pub returns-clause-orthogonal : goal.returns-clause-orthogonal
returns-clause-orthogonal c = standard_dual_orthogonal

pub returns-clause-bases : goal.returns-clause-bases
returns-clause-bases c = standard_dual_has_bases
