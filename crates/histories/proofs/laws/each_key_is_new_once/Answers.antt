use Rattle.histories.proofs.Once.{new_apart, new_exact}
use Rattle.histories.proofs.laws.each_key_is_new_once.Goals as goal

pub returns : goal.returns
returns c = record { once = new_apart; keys = new_exact }
