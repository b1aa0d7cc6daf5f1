use Rattle.std.proofs.Common.{subst, sym, ap, ◌∙◌, ℕ, ◌<◌}
use Rattle.matroid_theory.specs.Field.{IsOrder, IsField, times}
use Rattle.matrix_lemmas.proofs.FieldLaws.{field_laws}
use Rattle.field_tables.specs.declared.tables.TheConstants.{INVERSES}
use Rattle.field_tables.proofs.Entries.{place, inverses}
use Rattle.field_tables.proofs.field.Field.inv.Goals as goal

pub returns-clause-inverse : goal.returns-clause-inverse
returns-clause-inverse c =
    let o : IsOrder c.args.self = subst IsOrder c.self.view_is c.self.invariant in
    ap (λ q. place INVERSES q c.args.a) c.self.view_is ∙ inverses c.args.self c.args.a o c.requires.a_code c.requires.nonzero

pub returns-clause-one : goal.returns-clause-one
returns-clause-one c =
    let F : IsField c.args.self = field_laws c.args.self (subst IsOrder c.self.view_is c.self.invariant) in
    ap (times c.args.self c.args.a) (returns-clause-inverse c) ∙ F.times_inverse c.args.a c.requires.a_code c.requires.nonzero

pub returns-clause-code : goal.returns-clause-code
returns-clause-code c =
    let F : IsField c.args.self = field_laws c.args.self (subst IsOrder c.self.view_is c.self.invariant) in
    subst (λ (x : ℕ). x < c.args.self) (sym (returns-clause-inverse c)) (F.inverse_below c.args.a c.requires.a_code)
