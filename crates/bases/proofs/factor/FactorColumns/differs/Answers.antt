use Rattle.bases.proofs.Factors.{differing}
use Rattle.bases.proofs.factor.FactorColumns.differs.Goals as goal

pub returns : goal.returns
returns c = differing c.is_independent.result c.is_independent-2.result c.is_independent.ensures c.is_independent-2.ensures
