use Rattle.histories.proofs.Once.{told_new, told_again}
use Rattle.histories.proofs.laws.told_new_where_missing.Goals as goal

pub returns : goal.returns
returns c = record { fresh = told_new; known = told_again }
