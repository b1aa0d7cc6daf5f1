use Rattle.std.proofs.Common.{◌<◌, ℕ}
use Rattle.extension.specs.Planes.{LiesOnIn}
use Rattle.extension.proofs.planes.lies_on.Given as goal

-- in the factors before this one the column lies on the plane
abbrev pub invariant-loop-factor : goal.invariant-loop-factor
invariant-loop-factor l = (f : ℕ) → f < l.factor → LiesOnIn l.rep l.normals l.j f
