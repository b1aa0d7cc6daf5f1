use Rattle.histories.proofs.Joining.{joined_legal, joined_entries, joined_new, once_among}
use Rattle.histories.proofs.laws.stripes_are_one_history.Goals as goal

pub returns : goal.returns
returns c = record { legal = joined_legal; entries = joined_entries; fresh = joined_new; once = once_among }
