use Rattle.std.proofs.Common.{◌≡◌, ◌≤◌, ◌^◌, ◌*◌, map}
use Rattle.std.specs.Prelude.{sum}
use Rattle.std.specs.List.{range_with_len}
use Rattle.request_reader.proofs.ColumnCounts.{columns_of_support}
use Rattle.request_reader.proofs.columns.column_count.Given as goal

abbrev pub invariant-loop-s : goal.invariant-loop-s
invariant-loop-s l =
    record {
      counted : l.count ≡ sum (map (columns_of_support l.rank l.factors) (range_with_len 1 l.s));
      few : l.count ≤ l.s * 2 ^ 60;
    }
