use Rattle.form_search.proofs.Finish.{found_form}
use Rattle.form_search.proofs.laws.forms_suffice.Goals as goal

pub returns : goal.returns
returns c = λ M N found whole class covers. found_form M whole found class covers N
