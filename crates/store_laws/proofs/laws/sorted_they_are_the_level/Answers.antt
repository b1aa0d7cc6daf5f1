use Rattle.store_laws.proofs.Told.{told_sorted, told_level}
use Rattle.store_laws.proofs.laws.sorted_they_are_the_level.Goals as goal

pub returns : goal.returns
returns c = record { keys = told_sorted; level = told_level }
