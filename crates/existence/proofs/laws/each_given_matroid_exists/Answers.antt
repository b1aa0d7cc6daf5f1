use Rattle.existence.proofs.Givens.{uniform_given, columns_given, dual_given}
use Rattle.existence.proofs.laws.each_given_matroid_exists.Goals as goal

pub returns-clause-all_sets : goal.returns-clause-all_sets
returns-clause-all_sets c = uniform_given

pub returns-clause-columns : goal.returns-clause-columns
returns-clause-columns c = λ q columns o codes. columns_given q o columns codes

pub returns-clause-dual : goal.returns-clause-dual
returns-clause-dual c = λ q columns o codes. dual_given q o columns codes
