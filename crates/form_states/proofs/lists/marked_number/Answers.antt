use Rattle.std.proofs.Common.{◌<◌, ◌*◌, ◌/◌, ◌%◌, ◌∙◌, ℕ, List, slice_index, ap, arith}
use Rattle.std.proofs.Math.Nat.{mod-lt}
use Rattle.matroid_theory.specs.Field.{times}
use Rattle.matroid_laws.proofs.First.{row_below}
use Rattle.form_trails.proofs.Numbers.{weighed_same}
use Rattle.form_states.specs.Codes.{code}
use Rattle.form_states.proofs.GroupSteps.{scaled_same}
use Rattle.form_states.proofs.lists.marked_number.Goals as goal

pub returns : goal.returns
returns c m = scaled_same c.args.shape.now.fields c.args.shape.now.count c.args.shape.now.rank (slice_index c.args.groups.now)
    (code c.scaled_column-multiplied.result)
    (λ f i. times (slice_index c.args.shape.now.fields f) (code c.args.by.now f i) (code c.args.column.now f i)) c.number.result c.requires.limits.one
    (λ f i l b. c.scaled_column-multiplied.ensures.products f i l b) (record {
      own = code c.group_factors-factors.result;
      own_code = λ f g l b. c.group_factors-factors.ensures.codes g b f l;
      own_factors = c.group_factors-factors.ensures.factors;
      number_is = c.number.ensures
          ∙ weighed_same (λ e. code c.scaled_column-scaled.result (e % c.args.shape.now.count) (e / c.args.shape.now.count))
          (λ e. times (slice_index c.args.shape.now.fields (e % c.args.shape.now.count))
          (code c.group_factors-factors.result (e % c.args.shape.now.count) (slice_index c.args.groups.now (e / c.args.shape.now.count)))
          (code c.scaled_column-multiplied.result (e % c.args.shape.now.count) (e / c.args.shape.now.count))) (c.args.shape.now.rank * c.args.shape.now.count)
          (λ e l.
          (let f : e % c.args.shape.now.count < c.args.shape.now.count = mod-lt e (let o = c.requires.limits.one in omega arith) in
          let i : e / c.args.shape.now.count < c.args.shape.now.rank = row_below e c.args.shape.now.count c.args.shape.now.rank
          (let o = c.requires.limits.one in omega arith) l in
          let i' : e / c.args.shape.now.count < 6 = (let o = c.requires.limits.low in omega arith) in
          c.scaled_column-scaled.ensures.products (e % c.args.shape.now.count) (e / c.args.shape.now.count) f i
          ∙ ap (λ (row : List ℕ). times (slice_index c.args.shape.now.fields (e % c.args.shape.now.count)) (slice_index row (e % c.args.shape.now.count))
          (code c.scaled_column-multiplied.result (e % c.args.shape.now.count) (e / c.args.shape.now.count)))
          (c.row_factors.ensures (e / c.args.shape.now.count) i')));
    })
