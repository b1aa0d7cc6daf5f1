use Rattle.std.proofs.Common.{◌≢◌, ◌<◌, ℕ, slice_index}
use Rattle.product_rep.proofs.moves.Move.place.Given as goal

-- no column before this one comes from column j
abbrev pub invariant-loop-k : goal.invariant-loop-k
invariant-loop-k l = (i : ℕ) → i < l.k → slice_index l.self.labels i ≢ l.j
