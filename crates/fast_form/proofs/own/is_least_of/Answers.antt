use Rattle.std.proofs.Common.{◌↔◌, sym, ◌∙◌}
use mathlib.Core.Bool.{true≢false}
use Rattle.fast_form.proofs.OwnForms.{form_enough, equal_own, above_own}
use Rattle.form_states.proofs.Shapes.{whole}
use Rattle.fast_form.proofs.own.is_least_of.Goals as goal

both : {P Q R : Type 0} → P ↔ Q → Q ↔ R → P ↔ R
both a b = (λ p. b.0 (a.0 p), λ r. a.1 (b.1 r))

pub returns-in-Less : goal.returns-in-Less
returns-in-Less c =
    both c.is_at_most.ensures (both (
      λ n g. n (c.compare-in-Less.ensures ∙ g),
      λ n g. n (sym c.compare-in-Less.ensures ∙ g),
    ) (form_enough c.args.least.now c.args.rep.now c.least_of_standard.result c.least_of_standard.ensures.form c.least_of_standard.ensures.equivalent))

pub returns-in-Equal : goal.returns-in-Equal
returns-in-Equal c =
    both c.is_least.ensures (equal_own c.args.least.now c.args.rep.now (whole c.args.rep.now c.laws.ensures c.requires.agrees) c.requires.standard
    (sym c.compare.ensures ∙ c.in-Equal.is))

pub returns-in-Greater : goal.returns-in-Greater
returns-in-Greater c = (
  λ e. absurd (true≢false (sym e)),
  λ h. absurd (above_own c.args.least.now c.args.rep.now c.laws.ensures.shaped c.requires.standard (sym c.compare.ensures ∙ c.in-Greater.is) h),
)
