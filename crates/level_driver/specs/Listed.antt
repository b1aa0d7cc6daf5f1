-- Which forms of a level a request lists.
use Rattle.std.specs.Prelude.{◌≡◌, ℕ, ◌<◌, List, length, slice_get, IsTrue, IfSome, Some}
use Rattle.matroid_theory.specs.Rep.{Rep}
use Rattle.matroid_theory.specs.Minor.{Matroid, IsMatroidOf, AreIsomorphicBy, IsMinor}
use Rattle.matroid_theory.specs.Connection.{IsConnected, Is3Connected, IsCosimple}
use Rattle.matroid_theory.specs.Level.{Family, Filters, IsLevel, IsListed}
use Rattle.formats.specs.Request.{Request}
use Rattle.formats.specs.Levels.{Grows, Keeps}

-- these forms of a level are those that the request lists
abbrev pub AreListed : Request → List Rep → List Rep → Type 0
AreListed q forms shown = (n : ℕ) (family : Family) (filters : Filters) → Grows q family → Keeps q filters →
    IsLevel family n forms → IsListed family n filters shown

-- the representation passes the filters that look at it alone
pub record PassesAlone (filters : Filters) (M : Rep) : Type 0 where
  pub connected : IsTrue filters.connected → IsConnected M
  pub three : IsTrue filters.three → Is3Connected M
  pub cosimple : IsTrue filters.cosimple → IsCosimple M
  pub has : IfSome filters.has (λ N. IsMinor N M)

-- the matroid of each form, in their order
pub record AreMatroidsOf (forms : List Rep) (matroids : List Matroid) : Type 0 where
  pub number : length matroids ≡ length forms
  pub each : (k : ℕ) (M : Rep) (N : Matroid) → slice_get forms k ≡ Some M → slice_get matroids k ≡ Some N → IsMatroidOf M N

abbrev pub AreIsomorphic : Matroid → Matroid → Type 0
AreIsomorphic M N = (p : ℕ → ℕ) × (u : ℕ → ℕ) × AreIsomorphicBy M N p u

-- no matroid before matroid i is isomorphic to it
abbrev pub IsFirst : List Matroid → ℕ → Type 0
IsFirst matroids i = (j : ℕ) (M N : Matroid) → j < i → slice_get matroids j ≡ Some M → slice_get matroids i ≡ Some N → ¬ (AreIsomorphic M N)
