use Rattle.std.proofs.Common.{List, ℕ, ◌*◌, ◌+◌, ap, ◌∙◌, slice_index}
use Rattle.matroid_theory.specs.Field.{times, raised}
use Rattle.symmetry.proofs.Places.{sum_more}
use Rattle.symmetry.proofs.images.mapped_code.Goals as goal

pub loop-k-preserved : goal.loop-k-preserved
loop-k-preserved c = record {
  sum = sum_more c.args.field c.loop-k.k _ c.loop-k.sum c.mul.result c.add-sum.result c.loop-k.invariant.sum
      (c.mul.ensures.product ∙ ap (times c.args.field (slice_index c.args.row.now c.loop-k.k)) (c.raised_code-code.ensures.value
      ∙ ap (λ (xs : List ℕ). raised c.args.field c.args.power (slice_index xs (c.loop-k.k * c.args.count + c.args.factor))) c.deref.ensures.0))
      c.add-sum.ensures.sum;
  code = c.add-sum.ensures.code;
}
