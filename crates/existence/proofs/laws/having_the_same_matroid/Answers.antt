use Rattle.existence.proofs.SameMatroid.{same_matroid-symmetric, same_matroid-transitive, same_matroid-equivalent}
use Rattle.existence.proofs.laws.having_the_same_matroid.Goals as goal

pub returns-clause-equivalent : goal.returns-clause-equivalent
returns-clause-equivalent c = λ mode M N r e. same_matroid-equivalent mode M N r.some e

pub returns-clause-symmetric : goal.returns-clause-symmetric
returns-clause-symmetric c = same_matroid-symmetric

pub returns-clause-transitive : goal.returns-clause-transitive
returns-clause-transitive c = same_matroid-transitive
