use Rattle.std.proofs.Common.{◌≡◌, ◌<◌, ℕ, length}
use Rattle.matroid_theory.specs.Rep.{column_of}
use Rattle.elimination.specs.Columns.{column}
use Rattle.bases.proofs.factor.FactorColumns.of.Given as goal

-- the columns before this one
abbrev pub invariant-loop-j : goal.invariant-loop-j
invariant-loop-j l =
    record {
      count : length l.columns.items ≡ l.j;
      columns : (k : ℕ) → k < l.j → column l.columns.items k ≡ column_of l.rep l.factor k;
    }
