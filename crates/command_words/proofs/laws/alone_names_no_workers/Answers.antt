use Rattle.command_words.proofs.Readings.{alone_names_none, alone_is}
use Rattle.command_words.proofs.laws.alone_names_no_workers.Goals as goal

pub returns-clause-names_none : goal.returns-clause-names_none
returns-clause-names_none c = alone_names_none

pub returns-clause-same : goal.returns-clause-same
returns-clause-same c = alone_is
