-- Sets of columns, by their masks.
use Rattle.std.specs.Prelude.{ℕ, ◌<◌, ◌^◌, ◌≡◌, ◌↔◌, ◌⊎◌, Bool, true, false, List, Option, IsNone, IfSome}
use Rattle.std.specs.List.{Contains}
use Rattle.std.specs.List.Sorted.{IsStrictlyIncreasing}
use Rattle.matroid_theory.specs.Matrix.{size_below}
use Rattle.matroid_theory.specs.Matroid.{members}

-- X is a set of k of the first n columns
pub record IsSetOfSize (n k X : ℕ) : Type 0 where
  pub below : X < 2 ^ n
  pub elements : size_below n (members X) ≡ k

-- the rising list of the sets of the first n columns that P holds of
pub record AreMasks (n : ℕ) (P : ℕ → Type 0) (masks : List ℕ) : Type 0 where
  pub rising : IsStrictlyIncreasing masks
  pub exact : (X : ℕ) → Contains masks X ↔ ((X < 2 ^ n) × P X)

-- a rising list of sets of k of the first n columns: each was taken by a test, and each that isn't listed was refused
pub record AreTaken (n k : ℕ) (answers : ℕ → Bool → Type 0) (masks : List ℕ) : Type 0 where
  pub rising : IsStrictlyIncreasing masks
  pub taken : (X : ℕ) → Contains masks X → IsSetOfSize n k X × answers X true
  pub complete : (X : ℕ) → IsSetOfSize n k X → Contains masks X ⊎ answers X false

-- r is the first number in D that a test takes, if there is one: all others in D, or those before it, were refused
pub record IsFirstTaken (D : ℕ → Type 0) (answers : ℕ → Bool → Type 0) (r : Option ℕ) : Type 0 where
  pub none : IsNone r → (X : ℕ) → D X → answers X false
  pub taken : IfSome r (λ X. D X × answers X true)
  pub before : IfSome r (λ X. (Y : ℕ) → Y < X → D Y → answers Y false)
