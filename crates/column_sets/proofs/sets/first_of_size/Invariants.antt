use Rattle.std.proofs.Common.{ℕ, ◌<◌, false}
use Rattle.column_sets.specs.Sets.{IsSetOfSize}
use Rattle.column_sets.proofs.sets.first_of_size.Given as goal

-- the test refuses the sets of that size before this one
abbrev pub invariant-loop-set : goal.invariant-loop-set
invariant-loop-set g l = (X : ℕ) → X < l.set → IsSetOfSize l.n l.k X → goal.F-post g l.test X false
