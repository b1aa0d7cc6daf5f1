use Rattle.std.proofs.Common.{ℕ, ◌<◌}
use Rattle.matroid_theory.specs.Connection.{IsRank}
use Rattle.connectivity.proofs.LeftOut.{without}
use Rattle.connectivity.proofs.cosimplicity.keeps_rank_with_earlier.Given as goal

-- leaving out this column and one before keeps the rank
abbrev pub invariant-loop-i : goal.invariant-loop-i
invariant-loop-i l = (i : ℕ) → i < l.i → IsRank l.rep (without i l.fn.j) l.rep.rank
