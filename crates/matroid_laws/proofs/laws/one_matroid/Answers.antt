use Rattle.matroid_laws.proofs.GivenLemmas.{given_unique}
use Rattle.matroid_laws.proofs.laws.one_matroid.Goals as goal

pub returns : goal.returns
returns c = given_unique
