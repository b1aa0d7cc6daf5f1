-- Planes: what tells, by one sum of products for each factor, whether a new column extends a set of columns to a basis.
use Rattle.std.specs.Prelude.{ℕ, ◌+◌, ◌^◌, ◌<◌, ◌≤◌, ◌≡◌, ◌≢◌, ◌↔◌, ◌⊎◌, List, length, slice_index, true, Option, Some, None}
use Rattle.std.specs.List.{All, Contains}
use Rattle.arrayvec.specs.ArrayVec.{ArrayVec}
use Rattle.matroid_theory.specs.Field.{times}
use Rattle.matroid_theory.specs.Matrix.{Matrix, sum_below, size_below}
use Rattle.matroid_theory.specs.Rep.{Rep, size, count, order, matrix}
use Rattle.matroid_theory.specs.Matroid.{members, IsIndependentIn}
use Rattle.matroid_theory.specs.Level.{followed_by}
use Rattle.elimination.specs.Columns.{column, IsColumn}
use Rattle.extension.specs.declared.planes.Plane.{Plane}
use Rattle.extension.specs.declared.planes.Planes.{Planes}

-- the sum of the products of a row of r coefficients and column j
abbrev pub product : ℕ → ℕ → List ℕ → Matrix → ℕ → ℕ
product q r row A j = sum_below q r (λ i. times q (slice_index row i) (A i j))

-- r coefficients, not all of them 0
pub record IsNormal (q r : ℕ) (row : List ℕ) : Type 0 where
  pub codes : IsColumn q r row
  pub place : ℕ
  pub place_below : place < r
  pub nonzero : slice_index row place ≢ 0

-- in one factor column j lies on the plane with that normal
abbrev pub LiesOnIn : Rep → List (ArrayVec ℕ) → ℕ → ℕ → Type 0
LiesOnIn M normals j f = product (order M f) M.rank (column normals f) (matrix M f) j ≡ 0

-- in every factor column j lies on the plane with these normals
abbrev pub LiesOn : Rep → List (ArrayVec ℕ) → ℕ → Type 0
LiesOn M normals j = (f : ℕ) → f < count M → LiesOnIn M normals j f

-- X is a set of one column fewer than the rank
pub record IsPlaneSet (M : Rep) (X : ℕ) : Type 0 where
  pub below : X < 2 ^ size M
  pub full : size_below (size M) (members X) + 1 ≡ M.rank

-- each column in X is an element of the plane
abbrev pub IsWithin : Rep → ℕ → Plane → Type 0
IsWithin M X plane = (j : ℕ) → j < size M → members X j ≡ true → members plane.elements j ≡ true

-- a plane with a normal in each factor that is 0 after the plane's rows, and on which its elements lie, among them an independent set
-- of one column fewer than the rank
pub record IsPlane (M : Rep) (plane : Plane) : Type 0 where
  pub normals : (f : ℕ) → f < count M → IsNormal (order M f) M.rank (column plane.normals.items f)
  pub zeros : (f i : ℕ) → f < count M → plane.rows ≤ i → i < M.rank → slice_index (column plane.normals.items f) i ≡ 0
  pub count : length plane.normals.items ≡ count M
  pub lies_on : (j : ℕ) → j < size M → members plane.elements j ≡ true → LiesOn M plane.normals.items j
  pub rows_most : plane.rows ≤ M.rank
  pub set : ℕ
  pub is_set : IsPlaneSet M set
  pub independent : IsIndependentIn M 0 (members set)
  pub within : IsWithin M set plane

-- X is dependent, or its columns are elements of one of the planes
abbrev pub IsCovered : Rep → List Plane → ℕ → Type 0
IsCovered M planes X = (¬ (IsIndependentIn M 0 (members X))) ⊎ ((plane : Plane) × Contains planes plane × IsWithin M X plane)

-- planes that cover all sets of one column fewer than the rank whose masks are below a number
pub record ArePlanes (M : Rep) (planes : List Plane) (from : ℕ) : Type 0 where
  pub each : All (IsPlane M) planes
  pub covered : (X : ℕ) → X < from → IsPlaneSet M X → IsCovered M planes X

-- what is kept of the planes: nothing where there is one factor
abbrev pub KnowsPlanes : Rep → Option Planes → Type 0
KnowsPlanes M None = count M ≡ 1
KnowsPlanes M (Some planes) = ArePlanes M planes.list.items planes.from

-- M followed by v: v lies on the plane in every factor, or in none
abbrev pub IsAlikeAt : Rep → List ℕ → Plane → Type 0
IsAlikeAt M v plane = (f : ℕ) → f < count M →
    (LiesOnIn (followed_by M v) plane.normals.items (size M) 0 ↔ LiesOnIn (followed_by M v) plane.normals.items (size M) f)
