use Rattle.symmetry.proofs.Places.{not_zero}
use Rattle.symmetry.proofs.images.lead_scalar.Goals as goal

pub returns-then-code-ne0-clause-nonzero : goal.returns-then-code-ne0-clause-nonzero
returns-then-code-ne0-clause-nonzero c = not_zero c.args.field c.laws.ensures _ c.inv.result c.inv.ensures.one
