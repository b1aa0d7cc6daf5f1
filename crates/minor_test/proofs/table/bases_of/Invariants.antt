use Rattle.std.proofs.Common.{◌↔◌, ◌<◌, ℕ, IsTrue}
use Rattle.matroid_theory.specs.Matroid.{members, IsBasis}
use Rattle.matroid_theory.specs.Tables.{has}
use Rattle.minor_test.proofs.table.bases_of.Given as goal

-- the bases before this set
abbrev pub invariant-loop-set : goal.invariant-loop-set
invariant-loop-set l = (X : ℕ) → IsTrue (has l.table.words X) ↔ ((X < l.set) × IsBasis l.rep 0 (members X))
