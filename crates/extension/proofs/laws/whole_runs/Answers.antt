use Rattle.extension.proofs.Runs.{whole_run}
use Rattle.extension.proofs.laws.whole_runs.Goals as goal

pub returns : goal.returns
returns c = whole_run
