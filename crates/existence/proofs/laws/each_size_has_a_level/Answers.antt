use Rattle.existence.proofs.Levels.{level_exists}
use Rattle.existence.proofs.Filters.{listed_exists}
use Rattle.existence.proofs.Tries.{tries_exist}
use Rattle.existence.proofs.laws.each_size_has_a_level.Goals as goal

pub returns-clause-level : goal.returns-clause-level
returns-clause-level c = level_exists

pub returns-clause-listed : goal.returns-clause-listed
returns-clause-listed c = listed_exists

pub returns-clause-tries : goal.returns-clause-tries
returns-clause-tries c = tries_exist
