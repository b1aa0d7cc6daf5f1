-- The table of a move's entries, and what it keeps.
use Rattle.std.specs.Prelude.{ℕ, ◌*◌, ◌<◌, ◌≤◌, ◌≡◌, length, slice_index}
use Rattle.matroid_theory.specs.Field.{IsFactors, degree}
use Rattle.matroid_theory.specs.Matrix.{unit}
use Rattle.matroid_theory.specs.Rep.{Shape}
use Rattle.matroid_theory.specs.Move.{MoveTable, row_place, scalar_place}
use Rattle.product_rep.specs.declared.moves.Move.TheInside.{Inside}

abbrev pub table : Inside → MoveTable
table a = record {
  shape = record { factors = a.factors; rank = a.rank; size = a.size };
  powers = a.powers.items;
  rows = a.rows.items;
  back = a.back.items;
  scalars = a.scalars.items;
  labels = a.labels.items;
}

-- the lists are as long as the shape says, and their entries are powers below the degrees, codes and columns
pub record KeepsMove (t : MoveTable) : Type 0 where
  pub fields : IsFactors t.shape.factors
  pub rank_positive : 0 < t.shape.rank
  pub rank_most : t.shape.rank ≤ 6
  pub size_most : t.shape.size ≤ 16
  pub powers : length t.powers ≡ length t.shape.factors
  pub rows : length t.rows ≡ length t.shape.factors * t.shape.rank * t.shape.rank
  pub back : length t.back ≡ length t.shape.factors * t.shape.rank * t.shape.rank
  pub scalars : length t.scalars ≡ length t.shape.factors * t.shape.size
  pub labels : length t.labels ≡ t.shape.size
  pub powers_below : (f : ℕ) → f < length t.shape.factors → slice_index t.powers f < degree (slice_index t.shape.factors f)
  pub row_codes : (f i k : ℕ) → f < length t.shape.factors → i < t.shape.rank → k < t.shape.rank →
      slice_index t.rows (row_place t.shape f i k) < slice_index t.shape.factors f
  pub back_codes : (f i k : ℕ) → f < length t.shape.factors → i < t.shape.rank → k < t.shape.rank →
      slice_index t.back (row_place t.shape f i k) < slice_index t.shape.factors f
  pub scalar_codes : (f j : ℕ) → f < length t.shape.factors → j < t.shape.size →
      slice_index t.scalars (scalar_place t.shape f j) < slice_index t.shape.factors f
  pub label_columns : (j : ℕ) → j < t.shape.size → slice_index t.labels j < t.shape.size

-- the entries of the move of representations of this shape that changes nothing: powers 0, unit matrices, scalars 1 and each column's own label
pub record IsIdentityTable (S : Shape) (t : MoveTable) : Type 0 where
  pub powers : (f : ℕ) → f < length S.factors → slice_index t.powers f ≡ 0
  pub rows : (f i k : ℕ) → f < length S.factors → i < S.rank → k < S.rank → slice_index t.rows (row_place t.shape f i k) ≡ unit i k
  pub back : (f i k : ℕ) → f < length S.factors → i < S.rank → k < S.rank → slice_index t.back (row_place t.shape f i k) ≡ unit i k
  pub scalars : (f j : ℕ) → f < length S.factors → j < S.size → slice_index t.scalars (scalar_place t.shape f j) ≡ 1
  pub labels : (j : ℕ) → j < S.size → slice_index t.labels j ≡ j
