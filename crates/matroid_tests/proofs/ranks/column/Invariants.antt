use Rattle.std.proofs.Common.{◌≡◌, ◌<◌, ℕ, length, slice_index}
use Rattle.matroid_tests.proofs.ranks.column.Given as goal

abbrev pub invariant-loop-code : goal.invariant-loop-code
invariant-loop-code g l =
    record {
      count : length l.column.items ≡ l.code-index;
      below : (i : ℕ) → i < l.code-index → slice_index l.column.items i < l.fn.field;
    }
