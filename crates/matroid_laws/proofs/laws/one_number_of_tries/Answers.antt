use Rattle.matroid_theory.specs.Level.{IsTry}
use Rattle.matroid_laws.proofs.Levels.{count_unique}
use Rattle.matroid_laws.proofs.laws.one_number_of_tries.Goals as goal

pub returns : goal.returns
returns c = λ q n. count_unique (IsTry q n)
