use Rattle.form_key.proofs.Order.{packing_order}
use Rattle.form_key.proofs.laws.packing_keeps_order.Goals as goal

pub returns : goal.returns
returns c = packing_order
