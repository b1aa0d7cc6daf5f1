use Rattle.std.proofs.Common.{◌≡◌, ◌<◌, ℕ, length, slice_index}
use Rattle.matroid_theory.specs.Rep.{column_of}
use Rattle.elimination.specs.Columns.{column}
use Rattle.canonical_form.proofs.coordinates.picked.Given as goal

abbrev pub invariant-loop-j : goal.invariant-loop-j
invariant-loop-j l =
    record {
      count : length l.list.items ≡ l.j-index;
      columns : (i : ℕ) → i < l.j-index → column l.list.items i ≡ column_of l.rep l.factor (slice_index l.columns i);
    }
