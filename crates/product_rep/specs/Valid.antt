-- What makes a table a move, entry by entry.
use Rattle.std.specs.Prelude.{ℕ, ◌+◌, ◌*◌, ◌<◌, ◌≤◌, ◌≡◌, ◌≢◌, List, length, slice_index}
use Rattle.matroid_theory.specs.Matrix.{Matrix, matrix_product, unit}
use Rattle.matroid_theory.specs.Move.{MoveTable, move_of}

-- the scalar of column j in factor f is a code that isn't 0
pub record IsScalar (t : MoveTable) (f j : ℕ) : Type 0 where
  pub below : (move_of t).scalar f j < slice_index t.shape.factors f
  pub nonzero : (move_of t).scalar f j ≢ 0

-- column j comes from a column, and the column that comes from it is found again
pub record IsLabel (t : MoveTable) (j : ℕ) : Type 0 where
  pub below : (move_of t).label j < t.shape.size
  pub inverse_below : (move_of t).place j < t.shape.size
  pub there : (move_of t).place ((move_of t).label j) ≡ j
  pub back : (move_of t).label ((move_of t).place j) ≡ j

-- the matrix of factor f in a list of matrices of r rows
abbrev pub block : ℕ → ℕ → List ℕ → Matrix
block r f xs i k = slice_index xs ((f * r + i) * r + k)

-- the list has that matrix
pub record HasBlock (r f : ℕ) (xs : List ℕ) : Type 0 where
  pub rank : r ≤ 6
  pub factor : f < 3
  pub places : (i k : ℕ) → i < r → k < r → (f * r + i) * r + k < length xs

-- its row i, and all of it, has codes of GF(q)
abbrev pub AreRowCodes : ℕ → ℕ → Matrix → ℕ → Type 0
AreRowCodes q r A i = (k : ℕ) → k < r → A i k < q

abbrev pub AreCodes : ℕ → ℕ → Matrix → Type 0
AreCodes q r A = (i : ℕ) → i < r → AreRowCodes q r A i

-- row i of the product, and all of it, is that of the identity matrix
abbrev pub IsUnitRow : ℕ → ℕ → Matrix → Matrix → ℕ → Type 0
IsUnitRow q r A B i = (j : ℕ) → j < r → matrix_product q r A B i j ≡ unit i j

abbrev pub AreUnitRows : ℕ → ℕ → Matrix → Matrix → Type 0
AreUnitRows q r A B = (i : ℕ) → i < r → IsUnitRow q r A B i

-- matrices of codes that are inverse to each other
pub record AreInverseCodes (q r : ℕ) (A B : Matrix) : Type 0 where
  pub codes : AreCodes q r A
  pub back_codes : AreCodes q r B
  pub right : AreUnitRows q r A B
  pub left : AreUnitRows q r B A

-- what a move has in factor f
pub record IsFactorPart (t : MoveTable) (f : ℕ) : Type 0 where
  pub matrices : AreInverseCodes (slice_index t.shape.factors f) t.shape.rank ((move_of t).rows f) ((move_of t).back f)
  pub scalars : (j : ℕ) → j < t.shape.size → IsScalar t f j
