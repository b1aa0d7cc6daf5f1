use Rattle.matrix_lemmas.proofs.Bases.{rank_exists}
use Rattle.matrix_lemmas.proofs.Invertible.{rank_product, rank_factor}
use Rattle.matroid_laws.proofs.laws.ranks.Goals as goal

pub returns-clause-exists : goal.returns-clause-exists
returns-clause-exists c = λ q r n A S F codes. rank_exists q F r n A codes S

pub returns-clause-kept : goal.returns-clause-kept
returns-clause-kept c = λ q r n G H A S k F v. (rank_product q F r n G A H v S k, rank_factor q F r n G A H v S k)
