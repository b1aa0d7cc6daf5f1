use Rattle.matroid_laws.proofs.Levels.{rep_cmp-irreflexive, rep_cmp-transitive, rep_cmp-reversed, rep_cmp-equal}
use Rattle.matroid_laws.proofs.laws.order_is_strict_and_total.Goals as goal

pub returns-clause-irreflexive : goal.returns-clause-irreflexive
returns-clause-irreflexive c = rep_cmp-irreflexive

pub returns-clause-transitive : goal.returns-clause-transitive
returns-clause-transitive c = rep_cmp-transitive

pub returns-clause-reversed : goal.returns-clause-reversed
returns-clause-reversed c = rep_cmp-reversed

pub returns-clause-total : goal.returns-clause-total
returns-clause-total c = rep_cmp-equal
