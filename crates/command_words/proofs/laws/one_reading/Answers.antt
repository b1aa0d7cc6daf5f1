use Rattle.command_words.proofs.Readings.{one_reading as once, one_reading_alone as once_alone}
use Rattle.command_words.proofs.laws.one_reading.Goals as goal

pub returns-clause-at_macek : goal.returns-clause-at_macek
returns-clause-at_macek c = once

pub returns-clause-at_alone : goal.returns-clause-at_alone
returns-clause-at_alone c = once_alone
