-- Sets of masks as tables of bits.
use Rattle.std.specs.Prelude.{ℕ, ◌<◌, ◌^◌, ◌↔◌, List, Option, IsTrue}
use Rattle.std.specs.List.{Contains}
use Rattle.matroid_theory.specs.Rep.{Rep, size}
use Rattle.matroid_theory.specs.Matroid.{members, IsBasis}
use Rattle.matroid_theory.specs.Tables.{has}
use Rattle.matroid_theory.specs.Minor.{Matroid}
use Rattle.minor_test.specs.Twins.{AreTwinsOf}

-- the masks of the bases of M, and those in a list
pub record HasBases (M : Rep) (words : List ℕ) : Type 0 where
  pub exact : (X : ℕ) → X < 2 ^ size M → IsTrue (has words X) ↔ IsBasis M 0 (members X)

pub record HasMasks (masks words : List ℕ) : Type 0 where
  pub exact : (X : ℕ) → X < 2 ^ 16 → IsTrue (has words X) ↔ Contains masks X

-- the masks of the bases of N, and twins of its elements
pub record IsReady (N : Matroid) (words : List ℕ) (twins : List (Option ℕ)) : Type 0 where
  pub has_bases : HasMasks N.bases words
  pub has_twins : AreTwinsOf N twins
