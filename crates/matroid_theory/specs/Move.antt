-- Moves, which take a representation to an equivalent one.
use Rattle.std.specs.Prelude.{ℕ, ◌<◌, ◌≡◌, ◌≢◌, ◌+◌, ◌*◌, ◌==◌, List, length, slice_index, unwrap_or}
use Rattle.std.specs.List.{position}
use Rattle.matroid_theory.specs.declared.Mode.{Mode}
use Rattle.matroid_theory.specs.declared.Mode.TheVariants.{Linear, Semilinear}
use Rattle.matroid_theory.specs.Field.{times, raised, degree}
use Rattle.matroid_theory.specs.Matrix.{Matrix, combination, AreInverse}
use Rattle.matroid_theory.specs.Rep.{Rep, count, size, matrix, IsShaped, Shape, shape}

-- for each factor a power of the Frobenius automorphism, a matrix with its inverse and a scalar for each column, and
-- one relabelling of the columns with its inverse
pub record Move : Type 0 where
  pub power : ℕ → ℕ
  pub rows : ℕ → Matrix
  pub back : ℕ → Matrix
  pub scalar : ℕ → ℕ → ℕ
  pub label : ℕ → ℕ
  pub place : ℕ → ℕ

-- p is a permutation of the numbers below n, and u its inverse
pub record ArePermutation (n : ℕ) (p u : ℕ → ℕ) : Type 0 where
  pub below : (j : ℕ) → j < n → p j < n
  pub inverse_below : (j : ℕ) → j < n → u j < n
  pub there : (j : ℕ) → j < n → u (p j) ≡ j
  pub back : (j : ℕ) → j < n → p (u j) ≡ j

abbrev pub AllowsPower : Mode → ℕ → Type 0
AllowsPower Linear t = t ≡ 0
AllowsPower Semilinear t = Unit {0}

-- a move of the mode for representations of this shape
pub record IsMove (mode : Mode) (S : Shape) (m : Move) : Type 0 where
  pub powers : (f : ℕ) → f < length S.factors → m.power f < degree (slice_index S.factors f)
  pub allowed : (f : ℕ) → f < length S.factors → AllowsPower mode (m.power f)
  pub codes : (f i k : ℕ) → f < length S.factors → i < S.rank → k < S.rank → m.rows f i k < slice_index S.factors f
  pub back_codes : (f i k : ℕ) → f < length S.factors → i < S.rank → k < S.rank → m.back f i k < slice_index S.factors f
  pub inverse : (f : ℕ) → f < length S.factors → AreInverse (slice_index S.factors f) S.rank (m.rows f) (m.back f)
  pub scalars : (f j : ℕ) → f < length S.factors → j < S.size → m.scalar f j < slice_index S.factors f
  pub nonzero : (f j : ℕ) → f < length S.factors → j < S.size → m.scalar f j ≢ 0
  pub labels : ArePermutation S.size m.label m.place

-- the code at row i of column j in factor f after the move: the scalar times the matrix times the raised column of that label
abbrev pub moved : Shape → (ℕ → Matrix) → Move → ℕ → Matrix
moved S A m f i j =
    let q = slice_index S.factors f in
    times q (m.scalar f j) (combination q S.rank (m.rows f) (λ k. raised q (m.power f) (A f k (m.label j))) i)

-- the move takes M to N
pub record TakesTo (M : Rep) (m : Move) (N : Rep) : Type 0 where
  pub same_shape : shape N ≡ shape M
  pub shaped : IsShaped N
  pub codes : (f i j : ℕ) → f < count M → i < M.rank → j < size M → matrix N f i j ≡ moved (shape M) (matrix M) m f i j

-- some move of the mode takes M to N
pub record AreEquivalent (mode : Mode) (M N : Rep) : Type 0 where
  pub shaped : IsShaped M
  pub move : Move
  pub valid : IsMove mode (shape M) move
  pub takes : TakesTo M move N

-- a move as a program keeps it: for a shape, all powers, matrices, inverses and scalars in one list each, factor by factor, and the labels
pub record MoveTable : Type 0 where
  pub shape : Shape
  pub powers : List ℕ
  pub rows : List ℕ
  pub back : List ℕ
  pub scalars : List ℕ
  pub labels : List ℕ

-- the place of row i, column k of factor f, and of column j of factor f
abbrev pub row_place : Shape → ℕ → ℕ → ℕ → ℕ
row_place S f i k = (f * S.rank + i) * S.rank + k

abbrev pub scalar_place : Shape → ℕ → ℕ → ℕ
scalar_place S f j = f * S.size + j

-- the move that a table stands for; a column goes to the first place whose label it is
abbrev pub move_of : MoveTable → Move
move_of t = record {
  power = slice_index t.powers;
  rows = λ f i k. slice_index t.rows (row_place t.shape f i k);
  back = λ f i k. slice_index t.back (row_place t.shape f i k);
  scalar = λ f j. slice_index t.scalars (scalar_place t.shape f j);
  label = slice_index t.labels;
  place = λ j. unwrap_or (position (λ l. l == j) t.labels) 0;
}
