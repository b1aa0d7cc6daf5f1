use Rattle.std.proofs.Common.{◌∙◌, ℕ, List, slice_index, ap, arith}
use Rattle.matroid_theory.specs.Field.{times}
use Rattle.form_states.specs.Codes.{code}
use Rattle.form_states.proofs.steps.placed_scalars.Goals as goal

pub returns-clause-scaled : goal.returns-clause-scaled
returns-clause-scaled c = record {
  own = code c.group_factors-factors.result;
  own_code = λ f g l b. c.group_factors-factors.ensures.codes g b f l;
  own_factors = c.group_factors-factors.ensures.factors;
  products = λ f i l b. c.scaled_column.ensures.products f i l b
      ∙ ap (λ (row : List ℕ). times (slice_index c.args.shape.now.fields f) (slice_index row f) (code c.args.state.now.scalars f i))
      (c.row_factors.ensures i (omega (arith, c.requires.limits.low)));
}
