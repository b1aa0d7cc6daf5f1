use Rattle.std.proofs.Common.{◌↔◌, ℕ, IsTrue, take}
use Rattle.std.specs.List.{Contains}
use Rattle.matroid_theory.specs.Tables.{has}
use Rattle.minor_test.proofs.table.table_of.Given as goal

-- the masks before this one
abbrev pub invariant-loop-mask : goal.invariant-loop-mask
invariant-loop-mask l = (X : ℕ) → IsTrue (has l.table.words X) ↔ Contains (take l.mask-index l.masks) X
