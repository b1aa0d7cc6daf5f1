use Rattle.std.proofs.Common.{◌≡◌, ◌∙◌, ap, slice_index}
use Rattle.matroid_theory.specs.Field.{plus, times, negative, inverse}
use Rattle.elimination.specs.Cleared.{multiple}
use Rattle.elimination.proofs.Lists.{cleared_already}
use Rattle.elimination.proofs.clear.clear.Goals as goal

pub returns-then-deref-row-eq0 : goal.returns-then-deref-row-eq0
returns-then-deref-row-eq0 c =
    let z : slice_index c.args.column.now.items c.args.row ≡ 0 = cc in
    record { cleared = cleared_already c.args.field c.laws.ensures c.args.row c.args.last.now.items c.args.column.now.items c.requires.column z }

product : (c : goal.After-add_multiple) →
    c.mul.result ≡ times c.args.field (slice_index c.args.column.now.items c.args.row)
    (inverse c.args.field (slice_index c.args.last.now.items c.args.row))
product c = cc

pub returns : goal.returns
unfolding multiple
returns c = record {
  cleared = record {
    column = c.add_multiple.ensures.column;
    sums = λ i l.
        c.add_multiple.ensures.sums i l
        ∙ ap (λ m. plus c.args.field (slice_index c.args.column.now.items i)
        (times c.args.field m (slice_index c.args.last.now.items i)))
        (c.neg-factor.ensures.negative ∙ ap (negative c.args.field) (product c));
  };
}
