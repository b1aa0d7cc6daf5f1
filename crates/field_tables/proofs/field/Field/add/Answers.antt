use Rattle.std.proofs.Common.{subst, sym, ap, ◌∙◌, ℕ, ◌<◌}
use Rattle.matroid_theory.specs.Field.{IsOrder, IsField}
use Rattle.matrix_lemmas.proofs.FieldLaws.{field_laws}
use Rattle.field_tables.specs.declared.tables.TheConstants.{SUMS}
use Rattle.field_tables.proofs.Entries.{entry, sums}
use Rattle.field_tables.proofs.field.Field.add.Goals as goal

pub returns-clause-sum : goal.returns-clause-sum
returns-clause-sum c =
    let o : IsOrder c.args.self = subst IsOrder c.self.view_is c.self.invariant in
    ap (λ q. entry SUMS q c.args.a c.args.b) c.self.view_is ∙ sums c.args.self c.args.a c.args.b o c.requires.a_code c.requires.b_code

pub returns-clause-code : goal.returns-clause-code
returns-clause-code c =
    let F : IsField c.args.self = field_laws c.args.self (subst IsOrder c.self.view_is c.self.invariant) in
    subst (λ (x : ℕ). x < c.args.self) (sym (returns-clause-sum c)) (F.plus_below c.args.a c.args.b)
