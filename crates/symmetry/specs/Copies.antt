-- What is kept of a move beside it.
use Rattle.std.specs.Prelude.{ℕ, ◌<◌, ◌*◌, ◌≡◌, List, length, slice_index}
use Rattle.matroid_theory.specs.Move.{MoveTable, row_place}

-- the factors, the rank, the powers and the matrices of the move
pub record HasCopies (t : MoveTable) (factors : List ℕ) (rank : ℕ) (powers rows : List ℕ) : Type 0 where
  pub same_factors : factors ≡ t.shape.factors
  pub ranks : rank ≡ t.shape.rank
  pub powers_length : length powers ≡ length t.shape.factors
  pub rows_length : length rows ≡ length t.shape.factors * t.shape.rank * t.shape.rank
  pub powers_are : (f : ℕ) → f < length t.shape.factors → slice_index powers f ≡ slice_index t.powers f
  pub rows_are : (f i k : ℕ) → f < length t.shape.factors → i < t.shape.rank → k < t.shape.rank →
      slice_index rows (row_place t.shape f i k) ≡ slice_index t.rows (row_place t.shape f i k)
