use Rattle.std.proofs.Common.{◌≡◌, ◌<◌, ◌+◌, ◌*◌, ℕ, length, slice_index}
use Rattle.matroid_theory.specs.Matrix.{unit}
use Rattle.product_rep.proofs.rep.unit_column.Given as goal

abbrev pub invariant-loop-i : goal.invariant-loop-i
invariant-loop-i l =
    record {
      rows : length l.column.items ≡ l.i * l.count;
      codes : (k f : ℕ) → k < l.i → f < l.count → slice_index l.column.items (k * l.count + f) ≡ unit k l.j;
    }
