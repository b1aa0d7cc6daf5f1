use Rattle.matroid_laws.proofs.Standard.{standard_basis, standard_coordinates, standard_by}
use Rattle.matroid_laws.proofs.laws.standard_members.Goals as goal

pub returns-clause-basis : goal.returns-clause-basis
returns-clause-basis c = standard_basis

pub returns-clause-coordinates : goal.returns-clause-coordinates
returns-clause-coordinates c = standard_coordinates

pub returns-clause-entries : goal.returns-clause-entries
returns-clause-entries c = standard_by
