use Rattle.existence.proofs.Matroids.{one_of_each_matroid}
use Rattle.existence.proofs.laws.distinct_lists_have_one_of_each_matroid.Goals as goal

pub returns : goal.returns
returns c = one_of_each_matroid
