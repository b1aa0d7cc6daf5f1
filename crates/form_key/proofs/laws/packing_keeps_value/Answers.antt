use Rattle.form_key.proofs.Order.{packing_value}
use Rattle.form_key.proofs.laws.packing_keeps_value.Goals as goal

pub returns : goal.returns
returns c = packing_value
