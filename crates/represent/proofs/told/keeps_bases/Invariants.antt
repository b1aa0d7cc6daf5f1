use Rattle.std.proofs.Common.{ℕ, ◌-◌, ◌<◌}
use Rattle.column_sets.specs.Sets.{IsSetOfSize}
use Rattle.represent.specs.Sought.{matroid_of}
use Rattle.represent.specs.Kept.{KeepsWith}
use Rattle.represent.proofs.told.keeps_bases.Given as goal

-- the sets with fewer of the later columns are bases exactly where they should be
abbrev pub invariant-loop-count : goal.invariant-loop-count
invariant-loop-count l = (count later : ℕ) → count < l.count → IsSetOfSize (l.place.column - l.target.rank) count later
    → KeepsWith (matroid_of l.target) l.matrix l.place later
