use Rattle.request_laws.proofs.Minors.{minor_exists}
use Rattle.request_laws.proofs.laws.each_minor_has_its_matroid.Goals as goal

pub returns : goal.returns
returns c = minor_exists
