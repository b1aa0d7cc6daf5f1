use Rattle.std.proofs.Common.{subst, sym, ap, ◌∙◌, ℕ, ◌<◌}
use Rattle.matroid_theory.specs.Field.{IsOrder, IsField, plus}
use Rattle.matrix_lemmas.proofs.FieldLaws.{field_laws}
use Rattle.field_tables.specs.declared.tables.TheConstants.{NEGATIVES}
use Rattle.field_tables.proofs.Entries.{place, negatives}
use Rattle.field_tables.proofs.field.Field.neg.Goals as goal

pub returns-clause-negative : goal.returns-clause-negative
returns-clause-negative c =
    let o : IsOrder c.args.self = subst IsOrder c.self.view_is c.self.invariant in
    ap (λ q. place NEGATIVES q c.args.a) c.self.view_is ∙ negatives c.args.self c.args.a o c.requires

pub returns-clause-zero : goal.returns-clause-zero
returns-clause-zero c =
    let F : IsField c.args.self = field_laws c.args.self (subst IsOrder c.self.view_is c.self.invariant) in
    ap (plus c.args.self c.args.a) (returns-clause-negative c) ∙ F.plus_negative c.args.a

pub returns-clause-code : goal.returns-clause-code
returns-clause-code c =
    let F : IsField c.args.self = field_laws c.args.self (subst IsOrder c.self.view_is c.self.invariant) in
    subst (λ (x : ℕ). x < c.args.self) (sym (returns-clause-negative c)) (F.negative_below c.args.a)
