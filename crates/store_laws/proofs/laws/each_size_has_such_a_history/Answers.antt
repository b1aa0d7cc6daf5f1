use Rattle.store_laws.proofs.Offered.{such_a_history}
use Rattle.store_laws.proofs.laws.each_size_has_such_a_history.Goals as goal

pub returns : goal.returns
returns c = such_a_history
