use Rattle.histories.proofs.Once.{new_apart, new_listed}
use Rattle.histories.proofs.laws.the_order_is_free.Goals as goal

pub returns : goal.returns
returns c = record { once = λ keys history legal counts. new_apart history legal; exact = new_listed }
