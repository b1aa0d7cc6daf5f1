use Rattle.matroid_laws.proofs.Prefix.{prefix_form}
use Rattle.matroid_laws.proofs.Normalised.{last_normalised}
use Rattle.matroid_laws.proofs.Rest.{rest_member}
use Rattle.matroid_laws.proofs.Parents.{last_try}
use Rattle.matroid_laws.proofs.laws.prefix.Goals as goal

pub returns-clause-form : goal.returns-clause-form
returns-clause-form c = prefix_form

pub returns-clause-normalised : goal.returns-clause-normalised
returns-clause-normalised c = last_normalised

pub returns-clause-member : goal.returns-clause-member
returns-clause-member c = rest_member

pub returns-clause-tries : goal.returns-clause-tries
returns-clause-tries c = last_try
