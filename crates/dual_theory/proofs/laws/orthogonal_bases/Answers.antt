use Rattle.dual_theory.proofs.OrthogonalReps.{orthogonal_symmetric, orthogonal_dual, orthogonal_agrees}
use Rattle.dual_theory.proofs.laws.orthogonal_bases.Goals as goal

pub returns-clause-symmetric : goal.returns-clause-symmetric
returns-clause-symmetric c = orthogonal_symmetric

pub returns-clause-complements : goal.returns-clause-complements
returns-clause-complements c = orthogonal_dual

pub returns-clause-agreement : goal.returns-clause-agreement
returns-clause-agreement c = orthogonal_agrees
