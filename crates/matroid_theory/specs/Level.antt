-- Members, levels, what is listed, and tries.
use Rattle.std.specs.Prelude.{ℕ, ◌+◌, ◌*◌, ◌<◌, ◌≡◌, ◌≢◌, ◌↔◌, List, [], ◌∷◌, ◌++◌, length, slice_index, Bool, IsTrue, Option, IfSome}
use Rattle.std.specs.List.{All, AllPairs, Contains}
use Rattle.std.specs.declared.cmp.Ordering.TheVariants.{Less}
use Rattle.matroid_theory.specs.Rep.{Rep, IsProductColumn, size}
use Rattle.matroid_theory.specs.Matroid.{IsRepresentation, IsSimple}
use Rattle.matroid_theory.specs.declared.Mode.{Mode}
use Rattle.matroid_theory.specs.Move.{AreEquivalent}
use Rattle.matroid_theory.specs.Order.{rep_cmp, IsForm}
use Rattle.matroid_theory.specs.Minor.{Matroid, IsMinor, HaveSameMatroid}
use Rattle.matroid_theory.specs.Connection.{IsConnected, Is3Connected, IsCosimple}

-- what a request grows
pub record Family : Type 0 where
  pub factors : List ℕ
  pub rank : ℕ
  pub mode : Mode
  pub forbidden : List Matroid

-- a representation of the family's factors and rank, of size n, that is simple and has no forbidden minor
pub record IsMember (q : Family) (n : ℕ) (M : Rep) : Type 0 where
  pub same_factors : M.factors ≡ q.factors
  pub ranks : M.rank ≡ q.rank
  pub sizes : size M ≡ n
  pub representation : IsRepresentation M
  pub simple : IsSimple M
  pub avoids : All (λ N. ¬ (IsMinor N M)) q.forbidden

-- a form of the family
pub record IsLevelForm (q : Family) (n : ℕ) (M : Rep) : Type 0 where
  pub form : IsForm q.mode M
  pub member : IsMember q n M

-- the strictly rising list of exactly the representations with P
pub record IsRisingList (P : Rep → Type 0) (forms : List Rep) : Type 0 where
  pub rising : AllPairs (λ M N. rep_cmp M N ≡ Less) forms
  pub exact : (M : Rep) → Contains forms M ↔ P M

-- the level of size n
abbrev pub IsLevel : Family → ℕ → List Rep → Type 0
IsLevel q n forms = IsRisingList (IsLevelForm q n) forms

pub record Filters : Type 0 where
  pub connected : Bool
  pub three : Bool
  pub cosimple : Bool
  pub distinct : Bool
  pub has : Option Matroid

-- a form of the level passes every filter
pub record Passes (q : Family) (n : ℕ) (filters : Filters) (M : Rep) : Type 0 where
  pub connected : IsTrue filters.connected → IsConnected M
  pub three : IsTrue filters.three → Is3Connected M
  pub cosimple : IsTrue filters.cosimple → IsCosimple M
  pub has : IfSome filters.has (λ N. IsMinor N M)
  pub distinct : IsTrue filters.distinct → (N : Rep) → IsLevelForm q n N → rep_cmp N M ≡ Less → ¬ (HaveSameMatroid N M)

-- the forms of the level of size n that pass every filter, in the same order
abbrev pub IsListed : Family → ℕ → Filters → List Rep → Type 0
IsListed q n filters forms = IsRisingList (λ M. IsLevelForm q n M × Passes q n filters M) forms

-- a column of all factors is normalised: it isn't zero, all factors have the same support, and its first nonzero entry is 1 in every factor
pub record IsNormalised (factors : List ℕ) (rank : ℕ) (v : List ℕ) : Type 0 where
  pub is_column : IsProductColumn factors rank v
  pub lead : ℕ
  pub lead_below : lead < rank
  pub zeros : (i f : ℕ) → i < lead → f < length factors → slice_index v (i * length factors + f) ≡ 0
  pub ones : (f : ℕ) → f < length factors → slice_index v (lead * length factors + f) ≡ 1
  pub support : (i f g : ℕ) → i < rank → f < length factors → g < length factors → slice_index v (i * length factors + f) ≡ 0 →
      slice_index v (i * length factors + g) ≡ 0

-- P followed by the column v
abbrev pub followed_by : Rep → List ℕ → Rep
followed_by P v = record P { columns = P.columns ++ v ∷ [] }

-- a try of size n: a form P of its level and a normalised column v such that P followed by v is a member of size n
pub record IsTry (q : Family) (n : ℕ) (try : Rep × List ℕ) : Type 0 where
  pub parent : IsLevelForm q (size try.0) try.0
  pub column : IsNormalised q.factors q.rank try.1
  pub member : IsMember q n (followed_by try.0 try.1)

-- a try whose form is N
pub record IsTryFor (q : Family) (n : ℕ) (N : Rep) (try : Rep × List ℕ) : Type 0 where
  pub is_try : IsTry q n try
  pub form : IsForm q.mode N
  pub equivalent : AreEquivalent q.mode (followed_by try.0 try.1) N

-- the number of the values with P: the length of a list without repeats that has exactly these
pub record IsCount {X : Type 0} (P : X → Type 0) (n : ℕ) : Type 0 where
  pub list : List X
  pub apart : AllPairs (λ x y. x ≢ y) list
  pub exact : (x : X) → Contains list x ↔ P x
  pub number : length list ≡ n
