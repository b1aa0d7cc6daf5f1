use Rattle.std.proofs.Common.{◌≡◌, map}
use Rattle.std.specs.List.{range_with_len}
use Rattle.matroid_theory.specs.Rep.{size, matrix}
use Rattle.matroid_theory.specs.Level.{followed_by}
use Rattle.extension.proofs.admissible.part.Given as goal

-- the rows before this one
abbrev pub invariant-loop-i : goal.invariant-loop-i
invariant-loop-i l = l.part.items ≡ map (λ i. matrix (followed_by l.rep l.column.items) l.factor i (size l.rep)) (range_with_len 0 l.i)
