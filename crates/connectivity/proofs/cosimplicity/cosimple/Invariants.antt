use Rattle.std.proofs.Common.{ℕ, ◌<◌, ◌≤◌}
use Rattle.matroid_theory.specs.Connection.{IsRank}
use Rattle.connectivity.proofs.LeftOut.{without}
use Rattle.connectivity.proofs.cosimplicity.cosimple.Given as goal

-- leaving out one of these columns, alone or with one before it, keeps the rank
abbrev pub invariant-loop-j : goal.invariant-loop-j
invariant-loop-j l = (j : ℕ) → j < l.j → (i : ℕ) → i ≤ j → IsRank l.rep (without i j) l.rep.rank
