use Rattle.std.proofs.Common.{ℕ, ◌<◌, false}
use Rattle.column_sets.proofs.sets.first_set.Given as goal

-- the test refuses the sets before this one
abbrev pub invariant-loop-set : goal.invariant-loop-set
invariant-loop-set g l = (X : ℕ) → X < l.set → goal.F-post g l.test X false
