use Rattle.std.proofs.Common.{List, [], ◌∷◌, ◌++◌, sym, ◌∙◌, subst, ap}
use Rattle.matroid_theory.specs.Rep.{Rep}
use Rattle.matroid_theory.specs.Level.{IsLevel}
use Rattle.level_driver.proofs.Avoiding.{same_given}
use Rattle.level_driver.proofs.UnitLevel.{agrees_unit, unit_is_level, no_unit_is_level}
use Rattle.level_driver.proofs.level.first_level.Goals as goal

pub are_avoided_by-requires : goal.are_avoided_by-requires
are_avoided_by-requires c = agrees_unit c.args.request.now c.unit-unit.result c.laws-2.ensures c.unit-unit.ensures.standard
    (c.unit-unit.ensures.shape ∙ (λ i. record { factors = c.factors.ensures i; rank = c.rank.ensures i; size = c.rank.ensures i }))

pub returns-then-not-are_avoided_by-clause-forms : goal.returns-then-not-are_avoided_by-clause-forms
returns-then-not-are_avoided_by-clause-forms c family grows =
    let given = same_given c.args.request.now _ _ (sym c.in_ok-forbidden.ensures) c.forbid.ensures.given in
    let no = c.if-not-are_avoided_by.true in
    subst (λ (forms : List Rep). IsLevel family c.args.request.now.rank forms) (sym c.new-forms.ensures)
    (no_unit_is_level c.args.request.now c.unit-unit.result c.laws-2.ensures c.unit-unit.ensures.standard
    (c.unit-unit.ensures.shape ∙ (λ i. record { factors = c.factors.ensures i; rank = c.rank.ensures i; size = c.rank.ensures i }))
    c.in_ok-forbidden.forbidden given family grows (λ avoids. let yes = c.are_avoided_by.ensures.1 avoids in cc (yes, no)))

pub returns-in-Ok-clause-forms : goal.returns-in-Ok-clause-forms
returns-in-Ok-clause-forms c family grows =
    let given = same_given c.args.request.now _ _ (sym c.in_ok-forbidden.ensures) c.forbid.ensures.given in
    subst (λ (forms : List Rep). IsLevel family c.args.request.now.rank forms)
    (sym (c.in-Ok.ensures.pushed ∙ ap (λ (forms : List Rep). forms ++ c.unit-unit.result ∷ []) c.new-forms.ensures))
    (unit_is_level c.args.request.now c.unit-unit.result c.laws-2.ensures c.unit-unit.ensures.standard
    (c.unit-unit.ensures.shape ∙ (λ i. record { factors = c.factors.ensures i; rank = c.rank.ensures i; size = c.rank.ensures i }))
    c.in_ok-forbidden.forbidden given family grows (c.are_avoided_by.ensures.0 c.if-not-are_avoided_by.false))
