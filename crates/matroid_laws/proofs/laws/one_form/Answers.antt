use Rattle.matroid_laws.proofs.Forms.{one_form}
use Rattle.matroid_laws.proofs.laws.one_form.Goals as goal

pub returns : goal.returns
returns c = one_form
