use Rattle.extension.specs.Planes.{ArePlanes}
use Rattle.extension.proofs.planes.first_planes.Given as goal

-- the planes cover the sets before this one
abbrev pub invariant-loop-set : goal.invariant-loop-set
invariant-loop-set l = ArePlanes l.rep l.list.items l.set
