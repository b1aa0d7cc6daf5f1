use Rattle.matroid_tests.proofs.OneParent.{is_parent}
use Rattle.matroid_tests.proofs.both_searches.compare_after.Goals as goal

pub compare_children-compared-requires : goal.compare_children-compared-requires
compare_children-compared-requires g c =
    is_parent c.args.request.now c.laws.ensures.forbidden.0 c.laws.ensures.forbidden.1 c.requires.0 c.args.parents.now c.requires.1
    c.loop-i.i c.in-Some.parent.now c.in-Some.ensures c.laws.ensures.factors c.laws.ensures.limits
