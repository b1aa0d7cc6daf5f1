use Rattle.std.proofs.Common.{◌≡◌, ◌<◌, ℕ, slice_index}
use Rattle.product_rep.proofs.moves.Move.has_no_power.Given as goal

-- the powers of the factors before this one are 0
abbrev pub invariant-loop-factor : goal.invariant-loop-factor
invariant-loop-factor l = (f : ℕ) → f < l.factor → slice_index l.self.powers f ≡ 0
