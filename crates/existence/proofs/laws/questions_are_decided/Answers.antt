use Rattle.existence.proofs.Moves.{equivalent_decided}
use Rattle.existence.proofs.Bases.{minor_decided}
use Rattle.existence.proofs.Forms.{form_decided}
use Rattle.existence.proofs.Levels.{member_decided}
use Rattle.existence.proofs.Filters.{passes_decided}
use Rattle.existence.proofs.Tries.{try_decided}
use Rattle.existence.proofs.laws.questions_are_decided.Goals as goal

pub returns-clause-equivalence : goal.returns-clause-equivalence
returns-clause-equivalence c = equivalent_decided

pub returns-clause-form : goal.returns-clause-form
returns-clause-form c = form_decided

pub returns-clause-minor : goal.returns-clause-minor
returns-clause-minor c = λ N M r. minor_decided N M r.shaped r.some

pub returns-clause-member : goal.returns-clause-member
returns-clause-member c = member_decided

pub returns-clause-filters : goal.returns-clause-filters
returns-clause-filters c = passes_decided

pub returns-clause-tries : goal.returns-clause-tries
returns-clause-tries c = try_decided
