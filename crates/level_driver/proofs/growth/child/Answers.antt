use Rattle.std.proofs.Common.{◌≡◌, sym, ◌∙◌, ap, subst}
use Rattle.matroid_theory.specs.Rep.{Rep}
use Rattle.matroid_theory.specs.Level.{followed_by}
use Rattle.level_driver.specs.Forbidden.{Avoids}
use Rattle.level_driver.proofs.growth.child.Goals as goal

pub returns-then-not-are_avoided_by-clause-none : goal.returns-then-not-are_avoided_by-clause-none
returns-then-not-are_avoided_by-clause-none c = λ none avoids.
    let same : c.push_column.new.self ≡ followed_by c.args.parent.now c.args.column.now.items = c.push_column.ensures
    ∙ ap (λ (P : Rep). followed_by P c.args.column.now.items) c.copy-candidate.ensures in
    let yes = c.are_avoided_by.ensures.1 (subst (Avoids c.args.forbidden.now) (sym same) avoids) in
    let no = c.if-not-are_avoided_by.true in
    cc (yes, no)

pub returns-clause-avoids : goal.returns-clause-avoids
returns-clause-avoids c = λ some.
    let same : c.push_column.new.self ≡ followed_by c.args.parent.now c.args.column.now.items = c.push_column.ensures
    ∙ ap (λ (P : Rep). followed_by P c.args.column.now.items) c.copy-candidate.ensures in
    subst (Avoids c.args.forbidden.now) same (c.are_avoided_by.ensures.0 c.if-not-are_avoided_by.false)
