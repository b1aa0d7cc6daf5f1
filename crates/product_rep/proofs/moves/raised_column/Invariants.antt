use Rattle.std.proofs.Common.{◌≡◌, map, take}
use Rattle.matroid_theory.specs.Field.{raised}
use Rattle.product_rep.proofs.moves.raised_column.Given as goal

abbrev pub invariant-loop-code : goal.invariant-loop-code
invariant-loop-code l = l.image.items ≡ map (raised l.field l.power) (take l.code-index l.code-items)
