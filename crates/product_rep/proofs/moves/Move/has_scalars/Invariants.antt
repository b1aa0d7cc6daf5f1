use Rattle.std.proofs.Common.{◌<◌, ℕ}
use Rattle.product_rep.specs.Valid.{IsScalar}
use Rattle.product_rep.proofs.moves.Move.has_scalars.Given as goal

-- the scalars of the columns before this one are codes other than 0
abbrev pub invariant-loop-j : goal.invariant-loop-j
invariant-loop-j l = (j : ℕ) → j < l.j → IsScalar l.self l.factor j
