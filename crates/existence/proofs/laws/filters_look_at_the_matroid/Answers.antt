use Rattle.existence.proofs.SameMatroid.{same_minors, same_connected, same_three_connected, same_cosimple}
use Rattle.existence.proofs.laws.filters_look_at_the_matroid.Goals as goal

pub returns-clause-minors : goal.returns-clause-minors
returns-clause-minors c = λ M N K w. same_minors M N w K

pub returns-clause-connected : goal.returns-clause-connected
returns-clause-connected c = λ M N r s w. same_connected M N w r s

pub returns-clause-three : goal.returns-clause-three
returns-clause-three c = λ M N r s w. same_three_connected M N w r s

pub returns-clause-cosimple : goal.returns-clause-cosimple
returns-clause-cosimple c = λ M N r s w. same_cosimple M N w r s
