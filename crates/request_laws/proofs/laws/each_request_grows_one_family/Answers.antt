use Rattle.request_laws.proofs.Listings.{stands_names, family_exists, filters_exist}
use Rattle.formats.proofs.OneListing.{family_same, filters_same}
use Rattle.request_laws.proofs.laws.each_request_grows_one_family.Goals as goal

pub returns-clause-names : goal.returns-clause-names
returns-clause-names c = stands_names

pub returns-clause-family : goal.returns-clause-family
returns-clause-family c = family_exists

pub returns-clause-one_family : goal.returns-clause-one_family
returns-clause-one_family c = family_same

pub returns-clause-filters : goal.returns-clause-filters
returns-clause-filters c = filters_exist

pub returns-clause-one_filters : goal.returns-clause-one_filters
returns-clause-one_filters c = filters_same
