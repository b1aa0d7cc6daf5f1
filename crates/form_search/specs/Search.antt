-- The states of the search, and what it has found.
use Rattle.std.specs.Prelude.{ℕ, ◌+◌, ◌-◌, ◌<◌, ◌≤◌, ◌≡◌, ◌≢◌, ◌⊎◌, Bool, true, false, List, length, map, slice_index, Option, IfSome}
use Rattle.std.specs.List.{range_with_len}
use Rattle.std.specs.Option.{MatchOption}
use Rattle.std.specs.Cmp.Lexicographic.{slice_cmp}
use Rattle.std.specs.Ordering.{nat_cmp}
use Rattle.std.specs.declared.cmp.Ordering.TheVariants.{Greater}
use Rattle.matroid_theory.specs.declared.Mode.TheVariants.{Linear}
use Rattle.matroid_theory.specs.Rep.{Rep, count, size, matrix, IsStandard}
use Rattle.matroid_theory.specs.Move.{Move, AreEquivalent}
use Rattle.form_trails.specs.Trail.{ReachesForm, Trail, AreCoordinates, AreZeroBefore, Follows, IsTrail}
use Rattle.form_trails.specs.Least.{number}

-- elements with their codes by factor and row: those of the numbers below a number that pass a test
pub record Entries : Type 0 where
  pub total : ℕ
  pub there : ℕ → Bool
  pub element : ℕ → ℕ
  pub codes : ℕ → ℕ → ℕ → ℕ

-- one of them
pub record IsThere (E : Entries) (e : ℕ) : Type 0 where
  pub below : e < E.total
  pub passes : E.there e ≡ true

-- the codes are coordinates of an element that is neither in a row from k on nor among the first s later columns
pub record IsEntry (M : Rep) (k s : ℕ) (d : Trail) (x : ℕ) (c : ℕ → ℕ → ℕ) : Type 0 where
  pub below : x < size M
  pub coordinates : AreCoordinates M d x c
  pub unsettled : (d.place x < k) ⊎ (M.rank + s ≤ d.place x)

pub record AreEntries (M : Rep) (k s : ℕ) (d : Trail) (E : Entries) : Type 0 where
  pub each : (e : ℕ) → IsThere E e → IsEntry M k s d (E.element e) (E.codes e)
  pub apart : (e g : ℕ) → IsThere E e → IsThere E g → E.element e ≡ E.element g → e ≡ g

-- x is one of their elements
abbrev pub HasElement : Entries → ℕ → Type 0
HasElement E x = (e : ℕ) × IsThere E e × (E.element e ≡ x)

-- the first codes that aren't 0 are ones in every factor, in a row before k
pub record IsLed (M : Rep) (k : ℕ) (c : ℕ → ℕ → ℕ) : Type 0 where
  pub lead : ℕ
  pub lead_before : lead < k
  pub zeros : (f i : ℕ) → f < count M → i < lead → c f i ≡ 0
  pub ones : (f : ℕ) → f < count M → c f lead ≡ 1

-- these are the numbers of the columns placed
abbrev pub AreNumbers : Rep → Trail → List ℕ → Type 0
AreNumbers M d settled = (j : ℕ) → j < length settled → slice_index settled j ≡ number M (d.columns j)

-- before an element is chosen for the row before k: the frame has all elements outside the flat of those of the rows from k on
pub record IsFrame (M : Rep) (k : ℕ) (groups : ℕ → ℕ) (settled : List ℕ) (E : Entries) (d : Trail) : Type 0 where
  pub trail : IsTrail M k (length settled) groups d
  pub numbers : AreNumbers M d settled
  pub entries : AreEntries M k (length settled) d E
  pub led : (e : ℕ) → IsThere E e → IsLed M k (E.codes e)
  pub whole : (p : ℕ) → p < size M → (p < k) ⊎ (M.rank + length settled ≤ p) → HasElement E (d.label p)

-- while the elements are placed that the element of row k brings into the flat: the open ones in the layer, and the elements outside
pub record IsPlacing (M : Rep) (k : ℕ) (groups : ℕ → ℕ) (settled : List ℕ) (layer rest : Entries) (d : Trail) : Type 0 where
  pub trail : IsTrail M k (length settled) groups d
  pub numbers : AreNumbers M d settled
  pub inside : AreEntries M k (length settled) d layer
  pub zeros : (e : ℕ) → IsThere layer e → AreZeroBefore M k (layer.codes e)
  pub others : AreEntries M k (length settled) d rest
  pub outside : (e : ℕ) → IsThere rest e → (f : ℕ) × (i : ℕ) × (f < count M) × (i < k) × (rest.codes e f i ≢ 0)
  pub whole : (p : ℕ) → p < size M → (p < k) ⊎ (M.rank + length settled ≤ p) → HasElement layer (d.label p) ⊎ HasElement rest (d.label p)

-- the numbers of the columns after the unit columns
abbrev pub numbers_of : Rep → Rep → List ℕ
numbers_of M N = map (λ j. number M (λ f i. matrix N f i (M.rank + j))) (range_with_len 0 (size M - M.rank))

-- the numbers of a standard representation equivalent to M
pub record AreOfClass (M : Rep) (numbers : List ℕ) : Type 0 where
  pub member : Rep
  pub standard : IsStandard member
  pub equivalent : AreEquivalent Linear M member
  pub numbers_are : numbers_of M member ≡ numbers

-- something was found, and it is not above these
abbrev pub IsAtMost : Option (List ℕ) → List ℕ → Type 0
IsAtMost found numbers = MatchOption found ⊥ (λ least. slice_cmp nat_cmp least numbers ≢ Greater)

-- what was found is not above any form that a move reaches that follows the trail
abbrev pub Covers : Rep → Trail → ℕ → ℕ → Option (List ℕ) → Type 0
Covers M d k s found = (m : Move) (N : Rep) → ReachesForm M m N → Follows M d k s m → IsAtMost found (numbers_of M N)

-- the list begins with these
pub record BeginsWith (settled numbers : List ℕ) : Type 0 where
  pub room : length settled ≤ length numbers
  pub same : (j : ℕ) → j < length settled → slice_index settled j ≡ slice_index numbers j

-- at the first place where they differ the list has the greater number
pub record IsBelow (settled numbers : List ℕ) : Type 0 where
  pub place : ℕ
  pub settled_has : place < length settled
  pub numbers_have : place < length numbers
  pub same : (j : ℕ) → j < place → slice_index settled j ≡ slice_index numbers j
  pub less : slice_index settled place < slice_index numbers place

-- how what is settled stands to what was found: level with its first numbers, or else already below it, if there is anything
abbrev pub Stands : Bool → Option (List ℕ) → List ℕ → Type 0
Stands true found settled = MatchOption found ⊥ (λ least. BeginsWith settled least)
Stands false found settled = IfSome found (λ least. IsBelow settled least)

-- what a part of the search made of what was found: it is still of the class and not above what it was, and where it
-- was replaced it begins with what was settled
pub record Improves (M : Rep) (old new : Option (List ℕ)) (settled : List ℕ) (replaced : Bool) : Type 0 where
  pub sound : IfSome new (AreOfClass M)
  pub lower : (numbers : List ℕ) → IsAtMost old numbers → IsAtMost new numbers
  pub kept : replaced ≡ false → new ≡ old
  pub begins : replaced ≡ true → MatchOption new ⊥ (λ least. BeginsWith settled least)
