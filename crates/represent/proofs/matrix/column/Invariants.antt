use Rattle.std.proofs.Common.{◌≡◌, map, length}
use Rattle.std.specs.List.{range_with_len}
use Rattle.represent.specs.Filled.{entry}
use Rattle.represent.proofs.matrix.column.Given as goal

abbrev pub invariant-loop-i : goal.invariant-loop-i
invariant-loop-i l = record {
  rows : length l.column.items ≡ l.i;
  codes : l.column.items ≡ map (λ i. entry l.rank l.codes.items i l.j)
      (range_with_len 0 l.i);
}
