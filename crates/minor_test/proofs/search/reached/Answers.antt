use Rattle.std.proofs.Common.{◌^◌, ◌∙◌, ap, arith, length}
use Rattle.minor_test.proofs.NextImage.{few_sets}
use Rattle.minor_test.proofs.search.reached.Goals as goal

pub returns-clause-value : goal.returns-clause-value
returns-clause-value c = c.set_count.ensures.value ∙ ap (λ n. 2 ^ n) c.len.ensures.value

pub returns-clause-few : goal.returns-clause-few
returns-clause-few c = few_sets 10 (length c.args.images.now.list.items) _ (omega arith) c.requires (returns-clause-value c)
