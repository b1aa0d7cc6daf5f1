use Rattle.existence.proofs.Classes.{form_exists}
use Rattle.existence.proofs.laws.each_class_has_a_form.Goals as goal

pub returns : goal.returns
returns c = form_exists
