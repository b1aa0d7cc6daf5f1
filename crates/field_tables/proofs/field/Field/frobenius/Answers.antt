use Rattle.std.proofs.Common.{subst, sym, ap, ◌∙◌, ℕ, ◌<◌}
use Rattle.matroid_theory.specs.Field.{IsOrder, IsField}
use Rattle.matrix_lemmas.proofs.FieldLaws.{field_laws}
use Rattle.field_tables.specs.declared.tables.TheConstants.{POWERS}
use Rattle.field_tables.proofs.Entries.{place, powers}
use Rattle.field_tables.proofs.field.Field.frobenius.Goals as goal

pub returns-clause-power : goal.returns-clause-power
returns-clause-power c =
    let o : IsOrder c.args.self = subst IsOrder c.self.view_is c.self.invariant in
    ap (λ q. place POWERS q c.args.a) c.self.view_is ∙ powers c.args.self c.args.a o c.requires

pub returns-clause-code : goal.returns-clause-code
returns-clause-code c =
    let F : IsField c.args.self = field_laws c.args.self (subst IsOrder c.self.view_is c.self.invariant) in
    subst (λ (x : ℕ). x < c.args.self) (sym (returns-clause-power c)) (F.frobenius_below c.args.a)
