use Rattle.std.proofs.Common.{◌<◌, ◌↔◌, ℕ}
use Rattle.matroid_theory.specs.Rep.{size}
use Rattle.matroid_theory.specs.Level.{followed_by}
use Rattle.extension.specs.Planes.{LiesOnIn}
use Rattle.extension.proofs.agreement.is_alike_at.Given as goal

-- the factors before this one are as the first
abbrev pub invariant-loop-factor : goal.invariant-loop-factor
invariant-loop-factor l = (f : ℕ) → f < l.factor →
    (LiesOnIn (followed_by l.rep l.new.items) l.plane.normals.items (size l.rep) 0
    ↔ LiesOnIn (followed_by l.rep l.new.items) l.plane.normals.items (size l.rep) f)
