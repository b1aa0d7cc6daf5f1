use Rattle.std.proofs.Common.{◌≡◌, ◌<◌, ℕ, length, slice_index}
use Rattle.elimination.specs.Columns.{matrix_of}
use Rattle.elimination.proofs.solutions.equation.Given as goal

abbrev pub invariant-loop-column : goal.invariant-loop-column
invariant-loop-column l =
    record {
      count : length l.codes.items ≡ l.column-index;
      done : (j : ℕ) → j < l.column-index → slice_index l.codes.items j ≡ matrix_of l.columns l.row j;
    }
