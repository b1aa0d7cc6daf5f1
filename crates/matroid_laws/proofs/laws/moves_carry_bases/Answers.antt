use Rattle.matroid_laws.proofs.Carried.{basis_carried, agrees_carried, simple_carried}
use Rattle.matroid_laws.proofs.laws.moves_carry_bases.Goals as goal

pub returns-clause-bases : goal.returns-clause-bases
returns-clause-bases c = basis_carried

pub returns-clause-agreement : goal.returns-clause-agreement
returns-clause-agreement c = agrees_carried

pub returns-clause-simplicity : goal.returns-clause-simplicity
returns-clause-simplicity c = simple_carried
