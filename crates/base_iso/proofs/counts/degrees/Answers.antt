use Rattle.std.proofs.Common.{◌∙◌, cond}
use Rattle.std.specs.Bool.{◌==◌}
use Rattle.std.proofs.lemmas.List.Sorted.{sum_by-IsPermutation}
use Rattle.base_iso.proofs.Kept.{diagonal_counted}
use Rattle.base_iso.proofs.counts.degrees.Goals as goal

pub returns : goal.returns
returns c M r = record {
  rising = c.sort.ensures.rising;
  counted = λ d. sum_by-IsPermutation (λ x. cond (x == d) 1 0) c.diagonal-degrees.result.items c.sort.new.numbers.items c.sort.ensures.permutation
      ∙ diagonal_counted M c.args.pairs.now.items r c.diagonal-degrees.result.items c.diagonal-degrees.ensures.elements c.diagonal-degrees.ensures.at d;
}
