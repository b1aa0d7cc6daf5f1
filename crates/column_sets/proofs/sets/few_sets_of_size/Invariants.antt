use Rattle.std.proofs.Common.{◌≤◌, length}
use Rattle.column_sets.proofs.Counted.{sets_below}
use Rattle.column_sets.proofs.SetLemmas.{AreTakenBelow}
use Rattle.column_sets.proofs.sets.few_sets_of_size.Given as goal

-- the sets before this one that the test takes, no more than there are of that size
abbrev pub invariant-loop-set : goal.invariant-loop-set
invariant-loop-set g l =
    record {
      taken : AreTakenBelow l.set l.n l.k (λ X b. goal.F-post g l.test X b) l.sets.items;
      few : length l.sets.items ≤ sets_below l.set l.k;
    }
