use Rattle.std.proofs.Common.{subst}
use Rattle.matroid_theory.specs.Field.{IsOrder}
use Rattle.matrix_lemmas.proofs.FieldLaws.{field_laws}
use Rattle.field_tables.proofs.field.Field.laws.Goals as goal

pub returns : goal.returns
returns c = field_laws c.args.self (subst IsOrder c.self.view_is c.self.invariant)
