use Rattle.std.proofs.Common.{◌≡◌, ◌<◌, ℕ, length}
use Rattle.elimination.specs.Columns.{column, IsColumn}
use Rattle.matroid_tests.proofs.ranks.columns.Given as goal

abbrev pub invariant-loop-codes : goal.invariant-loop-codes
invariant-loop-codes g l =
    record {
      count : length l.list.items ≡ l.codes-index;
      done : (j : ℕ) → j < l.codes-index → IsColumn l.fn.field g.row.N (column l.list.items j);
    }
