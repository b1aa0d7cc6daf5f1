use Rattle.std.proofs.Common.{◌<◌, ℕ}
use Rattle.product_rep.specs.Valid.{IsLabel}
use Rattle.product_rep.proofs.moves.Move.has_labels.Given as goal

-- the columns before this one come from one column and go to one
abbrev pub invariant-loop-j : goal.invariant-loop-j
invariant-loop-j l = (j : ℕ) → j < l.j → IsLabel l.self j
