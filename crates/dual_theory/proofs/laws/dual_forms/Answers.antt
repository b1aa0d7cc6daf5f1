use Rattle.dual_theory.proofs.EquivalentDuals.{orthogonal_equivalent, one_dual_form, dual_form_over, dual_form_twice, same_dual_form}
use Rattle.dual_theory.proofs.laws.dual_forms.Goals as goal

pub returns-clause-orthogonal : goal.returns-clause-orthogonal
returns-clause-orthogonal c = orthogonal_equivalent

pub returns-clause-one : goal.returns-clause-one
returns-clause-one c = one_dual_form

pub returns-clause-kept : goal.returns-clause-kept
returns-clause-kept c = dual_form_over

pub returns-clause-twice : goal.returns-clause-twice
returns-clause-twice c = dual_form_twice

pub returns-clause-apart : goal.returns-clause-apart
returns-clause-apart c = same_dual_form
