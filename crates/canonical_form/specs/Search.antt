-- What the search for a form goes through: ordered bases, and scalars of the rows.
use Rattle.std.specs.Prelude.{ℕ, ◌+◌, ◌*◌, ◌/◌, ◌%◌, ◌<◌, ◌≡◌, ◌≢◌, ◌↔◌, List, [], length, drop, slice_index, slice_index_or, true, Option}
use Rattle.std.specs.List.{Contains}
use Rattle.std.specs.List.Sorted.{IsStrictlyIncreasing, IsPermutation, IsSorted}
use Rattle.std.specs.Option.{MatchOption}
use Rattle.std.specs.Cmp.Lexicographic.{slice_cmp}
use Rattle.std.specs.Ordering.{nat_cmp}
use Rattle.std.specs.declared.cmp.Ordering.{Ordering}
use Rattle.std.specs.declared.cmp.Ordering.TheVariants.{Greater}
use Rattle.matroid_theory.specs.declared.Mode.TheVariants.{Linear}
use Rattle.matroid_theory.specs.Field.{times, inverse}
use Rattle.matroid_theory.specs.Matrix.{Matrix, combination, IsIndependent}
use Rattle.matroid_theory.specs.Rep.{Rep, shape, count, size, order, matrix, IsStandard, IsProductColumn}
use Rattle.matroid_theory.specs.Move.{Move, IsMove, TakesTo, AreEquivalent}

-- the linear move m takes M to the standard representation N
pub record Reaches (M : Rep) (m : Move) (N : Rep) : Type 0 where
  pub valid : IsMove Linear (shape M) m
  pub takes : TakesTo M m N
  pub standard : IsStandard N

-- the first columns of what the move makes come from these columns, in this order
abbrev pub PicksFirst : List ℕ → Move → Type 0
PicksFirst columns m = (i : ℕ) → i < length columns → m.label i ≡ slice_index columns i

-- nothing is reached whose first columns come from these
abbrev pub NoneBegins : Rep → List ℕ → Type 0
NoneBegins M columns = (m : Move) (N : Rep) → Reaches M m N → ¬ (PicksFirst columns m)

-- what the move multiplies row i of factor f by, against row 0
abbrev pub row_scalar : Rep → Move → ℕ → ℕ → ℕ
row_scalar M m f i = times (order M f) (m.scalar f 0) (inverse (order M f) (m.scalar f i))

-- these are the first of its row scalars, row by row, and factor by factor within a row
abbrev pub HasScalars : Rep → List ℕ → Move → Type 0
HasScalars M scalars m = (e : ℕ) → e < length scalars → row_scalar M m (e % count M) (e / count M) ≡ slice_index scalars e

-- the columns after the unit columns, and the order of such lists
abbrev pub later : Rep → List (List ℕ)
later N = drop N.rank N.columns

abbrev pub columns_cmp : List (List ℕ) → List (List ℕ) → Ordering
columns_cmp = slice_cmp (slice_cmp nat_cmp)

-- the matrix of these columns of factor f
abbrev pub chosen : Rep → List ℕ → ℕ → Matrix
chosen M columns f i l = matrix M f i (slice_index columns l)

-- columns of M that are independent in every factor
pub record AreIndependentColumns (M : Rep) (columns : List ℕ) : Type 0 where
  pub below : (l : ℕ) → l < length columns → slice_index columns l < size M
  pub independent : (f : ℕ) → f < count M → IsIndependent (order M f) M.rank (length columns) (chosen M columns f) (λ _. true)

-- rank many of them, in this order
pub record IsOrderedBasis (M : Rep) (columns : List ℕ) : Type 0 where
  pub are_independent : AreIndependentColumns M columns
  pub full : length columns ≡ M.rank

-- a scalar for each row of each factor, none of them 0
pub record AreScalars (M : Rep) (scalars : List ℕ) : Type 0 where
  pub column : IsProductColumn M.factors M.rank scalars
  pub nonzero : (i f : ℕ) → i < M.rank → f < count M → slice_index scalars (i * count M + f) ≢ 0

-- the columns of M that aren't in the basis, rising
pub record AreOthers (M : Rep) (basis others : List ℕ) : Type 0 where
  pub rising : IsStrictlyIncreasing others
  pub exact : (k : ℕ) → Contains others k ↔ ((k < size M) × ¬ (Contains basis k))

-- c has, in each factor, the coordinates of column k of M in the ordered basis
pub record AreCoordinates (M : Rep) (basis : List ℕ) (k : ℕ) (c : List ℕ) : Type 0 where
  pub column : IsProductColumn M.factors M.rank c
  pub combined : (f i : ℕ) → f < count M → i < M.rank →
      combination (order M f) M.rank (chosen M basis f) (λ l. slice_index c (l * count M + f)) i ≡ matrix M f i k

-- v is c with its rows multiplied by the scalars, and then each factor scaled so that its first code that isn't 0 is 1
pub record IsScaled (M : Rep) (scalars c v : List ℕ) : Type 0 where
  pub column : IsProductColumn M.factors M.rank v
  pub scale : ℕ → ℕ
  pub scale_code : (f : ℕ) → f < count M → scale f < order M f
  pub scale_nonzero : (f : ℕ) → f < count M → scale f ≢ 0
  pub entries : (i f : ℕ) → i < M.rank → f < count M →
      slice_index v (i * count M + f) ≡ times (order M f) (scale f)
      (times (order M f) (slice_index scalars (i * count M + f)) (slice_index c (i * count M + f)))
  pub leads : (i f : ℕ) → i < M.rank → f < count M → ((k : ℕ) → k < i → slice_index v (k * count M + f) ≡ 0) →
      slice_index v (i * count M + f) ≢ 0 → slice_index v (i * count M + f) ≡ 1

-- the coordinates of the other columns
pub record AreOtherCoordinates (M : Rep) (basis : List ℕ) (coordinates : List (List ℕ)) : Type 0 where
  pub others : List ℕ
  pub are_others : AreOthers M basis others
  pub count_is : length coordinates ≡ length others
  pub each : (t : ℕ) → t < length others → AreCoordinates M basis (slice_index others t) (slice_index_or coordinates t [])

-- the other columns in the ordered basis, scaled, in rising order
pub record IsCandidate (M : Rep) (basis scalars : List ℕ) (columns : List (List ℕ)) : Type 0 where
  pub coordinates : List (List ℕ)
  pub are_coordinates : AreOtherCoordinates M basis coordinates
  pub scaled : List (List ℕ)
  pub count_is : length scaled ≡ length coordinates
  pub each : (t : ℕ) → t < length coordinates → IsScaled M scalars (slice_index_or coordinates t []) (slice_index_or scaled t [])
  pub permuted : IsPermutation scaled columns
  pub rising : IsSorted (slice_cmp nat_cmp) columns

-- the later columns of a standard representation equivalent to M
pub record AreOfClass (M : Rep) (columns : List (List ℕ)) : Type 0 where
  pub member : Rep
  pub standard : IsStandard member
  pub equivalent : AreEquivalent Linear M member
  pub later_are : later member ≡ columns

-- what was found, if anything was, is not above N
abbrev pub IsNotAbove : Option (List (List ℕ)) → Rep → Type 0
IsNotAbove found N = MatchOption found ⊥ (λ columns. columns_cmp columns (later N) ≢ Greater)
