use Rattle.matroid_theory.specs.Level.{IsLevelForm, Passes}
use Rattle.matroid_laws.proofs.Levels.{rising_list_unique}
use Rattle.matroid_laws.proofs.laws.one_level.Goals as goal

pub returns-clause-level : goal.returns-clause-level
returns-clause-level c = λ q n. rising_list_unique (IsLevelForm q n)

pub returns-clause-listed : goal.returns-clause-listed
returns-clause-listed c = λ q n filters. rising_list_unique (λ M. IsLevelForm q n M × Passes q n filters M)
