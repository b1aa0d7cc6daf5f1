use Rattle.std.proofs.Common.{◌<◌, ℕ}
use Rattle.product_rep.specs.Valid.{IsFactorPart}
use Rattle.product_rep.proofs.moves.Move.has_factors.Given as goal

-- the factors before this one have their matrices and scalars
abbrev pub invariant-loop-factor : goal.invariant-loop-factor
invariant-loop-factor l = (f : ℕ) → f < l.factor → IsFactorPart l.self f
