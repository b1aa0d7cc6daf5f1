use Rattle.std.proofs.Common.{subst, ap, ◌∙◌}
use Rattle.std.specs.List.{slice_index_or}
use Rattle.matroid_theory.specs.Field.{IsOrder}
use Rattle.field_tables.specs.declared.tables.TheConstants.{DEGREES}
use Rattle.field_tables.proofs.Entries.{degrees}
use Rattle.field_tables.proofs.field.Field.degree.Goals as goal

pub returns : goal.returns
returns c = ap (λ q. slice_index_or DEGREES q 0) c.self.view_is ∙ degrees c.args.self (subst IsOrder c.self.view_is c.self.invariant)
