use Rattle.request_reader.proofs.ColumnCounts.{subsets_both, two_more}
use Rattle.request_reader.proofs.columns.+subsets.Goals as goal

pub returns-clause-value : goal.returns-clause-value
returns-clause-value t c = subsets_both c.args.n c.args.k _ _ c.if-n-eq0.false c.if-k-eq0.false c.subsets.ensures.value c.subsets-2.ensures.value

pub returns-clause-few : goal.returns-clause-few
returns-clause-few t c = two_more c.args.n _ _ c.if-n-eq0.false c.subsets.ensures.few c.subsets-2.ensures.few
