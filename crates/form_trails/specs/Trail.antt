-- What the search for a least form has chosen: elements for the last rows, and the elements of the first later columns.
use Rattle.std.specs.Prelude.{ℕ, ◌+◌, ◌<◌, ◌≤◌, ◌≡◌, ◌≢◌, ◌⊎◌, true}
use Rattle.matroid_theory.specs.declared.Mode.TheVariants.{Linear}
use Rattle.matroid_theory.specs.Field.{times, inverse}
use Rattle.matroid_theory.specs.Matrix.{combination, IsIndependent}
use Rattle.matroid_theory.specs.Rep.{Rep, shape, count, size, order, matrix}
use Rattle.matroid_theory.specs.Move.{Move, ArePermutation, IsMove, TakesTo}
use Rattle.matroid_theory.specs.Order.{IsForm}

-- the linear move m takes M to N, which is a form
pub record ReachesForm (M : Rep) (m : Move) (N : Rep) : Type 0 where
  pub valid : IsMove Linear (shape M) m
  pub takes : TakesTo M m N
  pub form : IsForm Linear N

-- an order of all elements, a scalar for each row of each factor, and the codes of the columns that are placed after
-- the unit columns, by number, factor and row.
--     Only the elements of the last rows and those of the columns placed are chosen; the others stand in any order.
pub record Trail : Type 0 where
  pub label : ℕ → ℕ
  pub place : ℕ → ℕ
  pub scalar : ℕ → ℕ → ℕ
  pub columns : ℕ → ℕ → ℕ → ℕ

-- c has, by factor and row, the coordinates of element x at the scaled elements of the rows, up to a scalar in each factor
pub record AreCoordinates (M : Rep) (d : Trail) (x : ℕ) (c : ℕ → ℕ → ℕ) : Type 0 where
  pub codes : (f i : ℕ) → f < count M → i < M.rank → c f i < order M f
  pub scale : ℕ → ℕ
  pub scale_code : (f : ℕ) → f < count M → scale f < order M f
  pub scale_nonzero : (f : ℕ) → f < count M → scale f ≢ 0
  pub combined : (f i : ℕ) → f < count M → i < M.rank →
      combination (order M f) M.rank (λ i l. matrix M f i (d.label l)) (λ l. times (order M f) (d.scalar f l) (c f l)) i
      ≡ times (order M f) (scale f) (matrix M f i x)

-- they are 0 in the rows before k
abbrev pub AreZeroBefore : Rep → ℕ → (ℕ → ℕ → ℕ) → Type 0
AreZeroBefore M k c = (f i : ℕ) → f < count M → i < k → c f i ≡ 0

-- the move chooses the same elements for the rows from k on and for the first s later columns
pub record Follows (M : Rep) (d : Trail) (k s : ℕ) (m : Move) : Type 0 where
  pub same : (p : ℕ) → k ≤ p → p < M.rank + s → m.label p ≡ d.label p

-- what the move multiplies row i of factor f by, against the trail
abbrev pub row_factor : Rep → Trail → Move → ℕ → ℕ → ℕ
row_factor M d m f i = times (order M f) (inverse (order M f) (m.scalar f i)) (d.scalar f i)

-- the first rank elements are a basis in every factor
pub record IsOrdered (M : Rep) (d : Trail) : Type 0 where
  pub labels : ArePermutation (size M) d.label d.place
  pub room : M.rank ≤ size M
  pub independent : (f : ℕ) → f < count M → IsIndependent (order M f) M.rank M.rank (λ i l. matrix M f i (d.label l)) (λ _. true)
  pub scalar_code : (f i : ℕ) → f < count M → i < M.rank → d.scalar f i < order M f
  pub scalar_nonzero : (f i : ℕ) → f < count M → i < M.rank → d.scalar f i ≢ 0

-- the first s later columns
pub record ArePlaced (M : Rep) (k s : ℕ) (groups : ℕ → ℕ) (d : Trail) : Type 0 where
  pub room : M.rank + s ≤ size M
  pub coordinates : (j : ℕ) → j < s → AreCoordinates M d (d.label (M.rank + j)) (d.columns j)
  pub zeros : (j : ℕ) → j < s → AreZeroBefore M k (d.columns j)
  pub in_one_group : (j f g i l : ℕ) → j < s → f < count M → g < count M → i < M.rank → l < M.rank → d.columns j f i ≢ 0 →
      d.columns j g l ≢ 0 → groups i ≡ groups l

-- what holds of each form that a move with these choices reaches: the rows of a group have one factor, and the first later columns are these
pub record Determines (M : Rep) (k s : ℕ) (groups : ℕ → ℕ) (d : Trail) : Type 0 where
  pub tied : (m : Move) (N : Rep) → ReachesForm M m N → Follows M d k s m →
      (f i l : ℕ) → f < count M → k ≤ i → i < M.rank → k ≤ l → l < M.rank → groups i ≡ groups l → row_factor M d m f i ≡ row_factor M d m f l
  pub begins : (m : Move) (N : Rep) → ReachesForm M m N → Follows M d k s m →
      (j f i : ℕ) → j < s → f < count M → i < M.rank → matrix N f i (M.rank + j) ≡ d.columns j f i

-- the trail from row k on with s columns placed, and the groups of rows
pub record IsTrail (M : Rep) (k s : ℕ) (groups : ℕ → ℕ) (d : Trail) : Type 0 where
  pub rows : k ≤ M.rank
  pub ordered : IsOrdered M d
  pub placed : ArePlaced M k s groups d
  pub determines : Determines M k s groups d
  -- a row before k is in a group of its own, unless no scalars but 1 are there
  pub fresh : (i l : ℕ) → i < k → l < M.rank → groups i ≡ groups l → (i ≡ l) ⊎ ((f : ℕ) → f < count M → order M f ≡ 2)

-- group g has a row in which the codes aren't 0
abbrev pub IsMet : Rep → (ℕ → ℕ) → (ℕ → ℕ → ℕ) → ℕ → Type 0
IsMet M groups c g = (i : ℕ) × (i < M.rank) × (groups i ≡ g) × ((f : ℕ) → f < count M → c f i ≢ 0)

-- the groups that the column with these codes meets become one
pub record TiesGroups (M : Rep) (k : ℕ) (groups : ℕ → ℕ) (c : ℕ → ℕ → ℕ) (more : ℕ → ℕ) : Type 0 where
  pub kept : (i l : ℕ) → i < M.rank → l < M.rank → groups i ≡ groups l → more i ≡ more l
  pub merged : (i l : ℕ) → k ≤ i → i < M.rank → k ≤ l → l < M.rank → more i ≡ more l →
      (groups i ≡ groups l) ⊎ (IsMet M groups c (groups i) × IsMet M groups c (groups l))
  pub together : (f g i l : ℕ) → f < count M → g < count M → i < M.rank → l < M.rank → c f i ≢ 0 → c g l ≢ 0 → more i ≡ more l
  pub fresh : (i l : ℕ) → i < k → l < M.rank → more i ≡ more l → (i ≡ l) ⊎ ((f : ℕ) → f < count M → order M f ≡ 2)
