use Rattle.form_key.proofs.Pairs.{paired_more, paired_all}
use Rattle.form_key.proofs.codes.pair_up.Goals as goal

pub loop-at-preserved : goal.loop-at-preserved
loop-at-preserved c = paired_more _ _ _ _ _ c.loop-at.invariant c.loop-at-test.true c.pair.ensures c.push.ensures.items

pub returns : goal.returns
returns c = paired_all _ _ _ c.loop-at.invariant c.loop-at-test.false
