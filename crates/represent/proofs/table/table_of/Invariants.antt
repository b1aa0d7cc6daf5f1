use Rattle.std.proofs.Common.{◌↔◌, ℕ, take}
use Rattle.std.specs.List.{Contains}
use Rattle.represent.proofs.table.table_of.Given as goal

-- the masks before this one
abbrev pub invariant-loop-mask : goal.invariant-loop-mask
invariant-loop-mask l = (X : ℕ) → Contains l.table X ↔ Contains (take l.mask-index l.masks) X
