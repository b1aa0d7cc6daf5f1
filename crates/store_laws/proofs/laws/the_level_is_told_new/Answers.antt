use Rattle.histories.proofs.Once.{new_apart}
use Rattle.store_laws.proofs.Told.{told_exact, told_count}
use Rattle.store_laws.proofs.laws.the_level_is_told_new.Goals as goal

pub returns : goal.returns
returns c = record { exact = told_exact; apart = λ q n keys history room tried legal counts. new_apart history legal; count = told_count }
