-- The columns that the matrix of a move carries to each other.
use Rattle.std.specs.Prelude.{ℕ, ◌+◌, ◌*◌, ◌<◌, ◌≡◌, ◌≢◌, List, length, slice_index}
use Rattle.matroid_theory.specs.Field.{times, raised}
use Rattle.matroid_theory.specs.Matrix.{combination}
use Rattle.matroid_theory.specs.Rep.{IsProductColumn}
use Rattle.matroid_theory.specs.Move.{MoveTable, move_of}

-- the code at row i and of factor f of a column
abbrev pub code_at : List ℕ → List ℕ → ℕ → ℕ → ℕ
code_at factors v f i = slice_index v (i * length factors + f)

-- the code at row i and of factor f of the matrix times the raised column
abbrev pub mapped : MoveTable → List ℕ → ℕ → ℕ → ℕ
mapped t v f i =
    let q = slice_index t.shape.factors f in
    combination q t.shape.rank ((move_of t).rows f) (λ k. raised q ((move_of t).power f) (code_at t.shape.factors v f k)) i

-- in each factor the first code that isn't 0 is 1
abbrev pub HasLeadOnes : List ℕ → ℕ → List ℕ → Type 0
HasLeadOnes factors rank v = (f i : ℕ) → f < length factors → i < rank → ((k : ℕ) → k < i → code_at factors v f k ≡ 0) → code_at factors v f i ≢ 0
    → code_at factors v f i ≡ 1

-- a code that isn't 0 and makes the first code of factor f that isn't 0 a 1
pub record IsLeadScalar (factors : List ℕ) (rank : ℕ) (v : List ℕ) (f scalar : ℕ) : Type 0 where
  pub code : scalar < slice_index factors f
  pub nonzero : scalar ≢ 0
  pub one : (i : ℕ) → i < rank → ((k : ℕ) → k < i → code_at factors v f k ≡ 0) → code_at factors v f i ≢ 0 →
      times (slice_index factors f) scalar (code_at factors v f i) ≡ 1

-- such a code for each factor
pub record AreLeadScalars (factors : List ℕ) (rank : ℕ) (v scalars : List ℕ) : Type 0 where
  pub number : length scalars ≡ length factors
  pub each : (f : ℕ) → f < length factors → IsLeadScalar factors rank v f (slice_index scalars f)

-- u is the image of v under the move: in each factor the matrix times the raised column, scaled so that its first code that isn't 0 is 1
pub record IsImageBy (t : MoveTable) (v u : List ℕ) : Type 0 where
  pub column : IsProductColumn t.shape.factors t.shape.rank u
  pub scaled : HasLeadOnes t.shape.factors t.shape.rank u
  pub scalar : ℕ → ℕ
  pub scalar_code : (f : ℕ) → f < length t.shape.factors → scalar f < slice_index t.shape.factors f
  pub scalar_nonzero : (f : ℕ) → f < length t.shape.factors → scalar f ≢ 0
  pub codes : (f i : ℕ) → f < length t.shape.factors → i < t.shape.rank →
      code_at t.shape.factors u f i ≡ times (slice_index t.shape.factors f) (scalar f) (mapped t v f i)
