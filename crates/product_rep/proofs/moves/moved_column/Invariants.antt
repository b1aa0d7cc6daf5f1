use Rattle.std.proofs.Common.{◌≡◌, ◌<◌, ◌/◌, ◌%◌, ℕ, length, slice_index}
use Rattle.matroid_theory.specs.Rep.{matrix, shape}
use Rattle.matroid_theory.specs.Move.{moved, move_of}
use Rattle.product_rep.proofs.moves.moved_column.Given as goal

abbrev pub invariant-loop-place : goal.invariant-loop-place
invariant-loop-place l =
    record {
      rows : length l.column.items ≡ l.place;
      codes : (k : ℕ) → k < l.place → slice_index l.column.items k ≡ moved (shape l.rep) (matrix l.rep) (move_of l.step) (k % l.count) (k / l.count) l.j;
    }
