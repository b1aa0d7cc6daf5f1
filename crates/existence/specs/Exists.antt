-- What there is: forms of classes, levels, tries, and matroids that are given.
use Rattle.std.specs.Prelude.{ℕ, ◌<◌, ◌≡◌, List, length, true, false, None}
use Rattle.std.specs.List.{Contains}
use Rattle.matroid_theory.specs.declared.Mode.{Mode}
use Rattle.matroid_theory.specs.Rep.{Rep}
use Rattle.matroid_theory.specs.Move.{AreEquivalent}
use Rattle.matroid_theory.specs.Order.{IsForm}
use Rattle.matroid_theory.specs.Minor.{Matroid, HaveSameMatroid}
use Rattle.matroid_theory.specs.Given.{Given, IsGivenBy, column_length, matrix_of_lists}
use Rattle.matroid_theory.specs.Level.{Family, Filters, IsMember, IsLevel, IsListed, IsTry, IsTryFor, IsCount}

-- a form of the class of M
abbrev pub HasForm : Mode → Rep → Type 0
HasForm mode M = (N : Rep) × IsForm mode N × AreEquivalent mode M N

-- the level of a size, and what is listed of it
abbrev pub HasLevel : Family → ℕ → Type 0
HasLevel q n = (forms : List Rep) × IsLevel q n forms

abbrev pub HasListedForms : Family → ℕ → Filters → Type 0
HasListedForms q n filters = (forms : List Rep) × IsListed q n filters forms

-- one member of size n from each class of equivalent members
pub record HasOneOfEachClass (q : Family) (n : ℕ) (forms : List Rep) : Type 0 where
  pub members : (M : Rep) → Contains forms M → IsMember q n M
  pub each : (M : Rep) → IsMember q n M → (N : Rep) × Contains forms N × AreEquivalent q.mode M N
  pub one : (M N : Rep) → Contains forms M → Contains forms N → AreEquivalent q.mode M N → M ≡ N

-- the filter for distinct matroids, and no other
abbrev pub distinct_alone : Filters
distinct_alone = record { connected = false; three = false; cosimple = false; distinct = true; has = None }

-- one member of size n for each matroid of members, up to relabelling
pub record HasOneOfEachMatroid (q : Family) (n : ℕ) (forms : List Rep) : Type 0 where
  pub members : (M : Rep) → Contains forms M → IsMember q n M
  pub each : (M : Rep) → IsMember q n M → (N : Rep) × Contains forms N × HaveSameMatroid N M
  pub one : (M N : Rep) → Contains forms M → Contains forms N → HaveSameMatroid M N → M ≡ N

-- the number of the tries of a size
abbrev pub HasTryCount : Family → ℕ → Type 0
HasTryCount q n = (tried : ℕ) × IsCount (IsTry q n) tried

-- some try of size n has the form N
abbrev pub HasTry : Family → ℕ → Rep → Type 0
HasTry q n N = (try : Rep × List ℕ) × IsTryFor q n N try

-- the matroid that is given so
abbrev pub HasMatroid : Given → Type 0
HasMatroid given = (N : Matroid) × IsGivenBy given N

-- the entries of the columns are codes of the field of order q
abbrev pub AreCodes : ℕ → List (List ℕ) → Type 0
AreCodes q columns = (i j : ℕ) → i < column_length columns → j < length columns → matrix_of_lists columns i j < q
