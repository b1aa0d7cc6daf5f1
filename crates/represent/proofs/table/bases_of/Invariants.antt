use Rattle.std.proofs.Common.{◌↔◌, ◌<◌, ℕ}
use Rattle.std.specs.List.{Contains}
use Rattle.matroid_theory.specs.Matroid.{members, IsBasis}
use Rattle.represent.proofs.table.bases_of.Given as goal

-- the bases before this set
abbrev pub invariant-loop-set : goal.invariant-loop-set
invariant-loop-set l = (X : ℕ) → Contains l.table X ↔ ((X < l.set) × IsBasis l.rep 0 (members X))
