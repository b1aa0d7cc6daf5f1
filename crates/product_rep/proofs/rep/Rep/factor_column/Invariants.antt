use Rattle.std.proofs.Common.{◌≡◌, map}
use Rattle.std.specs.List.{range_with_len}
use Rattle.matroid_theory.specs.Rep.{matrix}
use Rattle.product_rep.proofs.rep.Rep.factor_column.Given as goal

abbrev pub invariant-loop-i : goal.invariant-loop-i
invariant-loop-i l = l.column.items ≡ map (λ i. matrix l.self l.factor i l.j) (range_with_len 0 l.i)
