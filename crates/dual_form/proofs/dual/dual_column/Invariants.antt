use Rattle.std.proofs.Common.{◌≡◌, ◌<◌, ◌/◌, ◌%◌, ℕ, length, slice_index}
use Rattle.dual_theory.specs.Dual.{dual_matrix}
use Rattle.dual_form.proofs.dual.dual_column.Given as goal

abbrev pub invariant-loop-place : goal.invariant-loop-place
invariant-loop-place l =
    record {
      rows : length l.column.items ≡ l.place;
      codes : (k : ℕ) → k < l.place → slice_index l.column.items k ≡ dual_matrix l.rep (k % l.count) (k / l.count) l.j;
    }
