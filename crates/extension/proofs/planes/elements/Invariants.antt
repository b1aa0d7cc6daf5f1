use Rattle.std.proofs.Common.{◌≡◌, ◌<◌, ℕ, true}
use Rattle.matroid_theory.specs.Matroid.{members}
use Rattle.extension.specs.Planes.{LiesOn}
use Rattle.extension.proofs.planes.elements.Given as goal

-- those of the columns before this one
abbrev pub invariant-loop-j : goal.invariant-loop-j
invariant-loop-j l = (j : ℕ) → members l.elements j ≡ true → (j < l.j) × LiesOn l.rep l.normals j
