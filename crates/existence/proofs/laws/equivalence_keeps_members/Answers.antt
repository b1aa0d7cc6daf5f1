use Rattle.matroid_laws.proofs.Equivalence.{equivalent-symmetric}
use Rattle.existence.proofs.Classes.{member_carried}
use Rattle.existence.proofs.laws.equivalence_keeps_members.Goals as goal

pub returns : goal.returns
returns c = λ mode q n M N e. (member_carried q mode n M N e, member_carried q mode n N M (equivalent-symmetric mode M N e))
