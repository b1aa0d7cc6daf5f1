use Rattle.column_sets.proofs.SetLemmas.{AreTakenBelow}
use Rattle.column_sets.proofs.sets.sets_of_size.Given as goal

-- the sets before this one that the test takes
abbrev pub invariant-loop-set : goal.invariant-loop-set
invariant-loop-set g l = AreTakenBelow l.set l.n l.k (λ X b. goal.F-post g l.test X b) l.sets.items
