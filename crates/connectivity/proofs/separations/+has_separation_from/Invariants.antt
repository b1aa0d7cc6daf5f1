use Rattle.std.proofs.Common.{◌-◌}
use Rattle.matroid_theory.specs.Rep.{size}
use Rattle.connectivity.proofs.separations.+has_separation_from.Given as goal

-- the columns that are left
abbrev pub decreases-has_separation_from : goal.decreases-has_separation_from
decreases-has_separation_from l = size l.rep.now - l.next
