use Rattle.existence.proofs.Classes.{one_of_each_class}
use Rattle.existence.proofs.laws.levels_have_one_of_each_class.Goals as goal

pub returns : goal.returns
returns c = one_of_each_class
