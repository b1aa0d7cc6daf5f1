use Rattle.std.proofs.Common.{slice_index, ◌∙◌, ap}
use Rattle.matroid_theory.specs.Field.{times}
use Rattle.matroid_theory.specs.Exchange.{exchange}
use Rattle.form_states.specs.Codes.{code, cleared_code}
use Rattle.form_states.proofs.Normalised.{normalised_same}
use Rattle.form_states.proofs.columns.next_column.Goals as goal

pub returns-clause-normalised : goal.returns-clause-normalised
returns-clause-normalised c =
    normalised_same c.args.shape.now.fields c.args.shape.now.count c.args.shape.now.rank (code c.scaled_column.result)
    (λ f i. times (slice_index c.args.shape.now.fields f) (code c.args.by.now f i)
    (cleared_code c.args.shape.now.fields c.args.p (code c.args.minus.now) (code c.args.column.now) f (exchange c.args.p c.args.k i)))
    (code c.normalised_column.result) c.requires.limits.one
    (λ f i l b. c.scaled_column.ensures.products f i l b ∙ ap (times (slice_index c.args.shape.now.fields f) (code c.args.by.now f i))
    (c.pivoted_column-pivoted.ensures.pivoted f i l b))
    c.normalised_column.ensures.normalised
