-- The program's states as those of the search.
use Rattle.std.specs.Prelude.{ℕ, suc, [], ◌∷◌, ◌*◌, ◌/◌, ◌%◌, ◌<◌, ◌≤◌, ◌≡◌, ◌≢◌, Bool, true, false, List, slice_index, slice_index_or, Option}
use Rattle.std.specs.Option.{MatchOption}
use Rattle.matroid_theory.specs.Rep.{Rep, count, size, order, KeepsLimits, IsStandard}
use Rattle.matroid_theory.specs.Matroid.{Agrees}
use Rattle.form_trails.specs.Least.{number, scaled, MakesOnes}
use Rattle.form_trails.specs.Pivot.{pivoted}
use Rattle.form_search.specs.Search.{Entries, IsThere}
use Rattle.matroid_theory.specs.Field.{times}
use Rattle.form_trails.specs.Numbers.{weighed}
use Rattle.form_states.specs.Codes.{AreColumnCodes, code}
use Rattle.form_states.specs.Groups.{AreGroupFactors}

-- the fields, and the numbers of factors, rows and columns, that a search may have
pub record AreLimits (fields : List ℕ) (factors rank total : ℕ) : Type 0 where
  pub scalars : (f : ℕ) → f < 3 → 1 < slice_index fields f
  pub small : (f : ℕ) → f < 3 → slice_index fields f < 16
  pub one : 1 ≤ factors
  pub few : factors ≤ 3
  pub low : rank ≤ 6
  pub sixteen : total ≤ 16

-- what the program knows of a standard representation whose factors agree
pub record IsShapeOf (M : Rep) (fields : List ℕ) (factors rank total : ℕ) : Type 0 where
  pub fields_are : (f : ℕ) → f < count M → slice_index fields f ≡ order M f
  pub limits : AreLimits fields factors rank total
  pub factors_are : factors ≡ count M
  pub rank_is : rank ≡ M.rank
  pub total_is : total ≡ size M
  pub is_rep : KeepsLimits M
  pub standard : IsStandard M
  pub agrees : Agrees M

-- sixteen columns of codes
abbrev pub AreColumns : List ℕ → List (List (List ℕ)) → Type 0
AreColumns fields columns = (e : ℕ) → e < 16 → AreColumnCodes fields (slice_index_or columns e [])

-- the groups have numbers below 6
abbrev pub AreGroups : List ℕ → Type 0
AreGroups groups = (i : ℕ) → i < 6 → slice_index groups i < 6

-- the elements of a representation that are marked, with their columns
abbrev pub entries_of : Rep → List (List (List ℕ)) → List Bool → Entries
entries_of M columns marks = record {
  total = size M;
  there = λ e. slice_index_or marks e false;
  element = λ e. e;
  codes = λ e. code
      (slice_index_or columns e []);
}

-- the elements that are marked, with their columns' rows multiplied by the scalars
abbrev pub scaled_entries : Rep → (ℕ → ℕ → ℕ → ℕ) → List (List ℕ) → List Bool → Entries
scaled_entries M codes scalars marks = record {
  total = size M;
  there = λ e. slice_index_or marks e false;
  element = λ e. e;
  codes = λ e f i. times
      (order M f) (code scalars f i) (codes e f i);
}

-- the open ones of a layer
abbrev pub layer_of : Rep → List (List (List ℕ)) → List (List ℕ) → List Bool → Entries
layer_of M layer scalars marks = scaled_entries M (λ e. code (slice_index_or layer e [])) scalars marks

-- those outside, whose columns a pivot makes of the frame's: minus is the negative of the chosen column, and p the first row where that isn't 0
abbrev pub rest_of : Rep → ℕ → List (List (List ℕ)) → ℕ → List (List ℕ) → List (List ℕ) → List Bool → Entries
rest_of M k columns p minus scalars marks = scaled_entries M (λ e. pivoted M p k (code minus) (code (slice_index_or columns e []))) scalars marks

-- the number of the column whose groups are scaled so that each begins with 1
pub record IsLeastNumber (M : Rep) (groups : ℕ → ℕ) (c : ℕ → ℕ → ℕ) (n : ℕ) : Type 0 where
  pub own : ℕ → ℕ → ℕ
  pub ones : MakesOnes M groups c own
  pub number_is : n ≡ number M (scaled M groups own c)

-- those of the entries
abbrev pub AreLeastNumbers : Rep → (ℕ → ℕ) → Entries → List ℕ → Type 0
AreLeastNumbers M groups E numbers = (e : ℕ) → IsThere E e → IsLeastNumber M groups (E.codes e) (slice_index numbers e)

-- low is the least of them
pub record IsLeastOf (E : Entries) (numbers : List ℕ) (low : ℕ) : Type 0 where
  pub least : (e : ℕ) → IsThere E e → low ≤ slice_index numbers e
  pub at : ℕ
  pub there : IsThere E at
  pub reached : slice_index numbers at ≡ low

-- how many marks there are
abbrev pub marked : List Bool → ℕ
marked [] = 0
marked (true ∷ marks) = suc (marked marks)
marked (false ∷ marks) = marked marks

-- element e is another than b, is there, and its column has the rows of the base before row end
abbrev pub HasHead : ℕ → List (List (List ℕ)) → List Bool → List (List ℕ) → ℕ → ℕ → ℕ → Type 0
HasHead factors columns there base end b e = (slice_index_or there e false ≡ true) × (e ≢ b) ×
    ((f i : ℕ) → f < factors → i < end → code (slice_index_or columns e []) f i ≡ code base f i)

-- or hasn't
abbrev pub HasOtherHead : ℕ → List (List (List ℕ)) → List Bool → List (List ℕ) → ℕ → ℕ → ℕ → Type 0
HasOtherHead factors columns there base end b e = (slice_index_or there e false ≡ true) × (e ≢ b) ×
    (((f i : ℕ) → f < factors → i < end → code (slice_index_or columns e []) f i ≡ code base f i) → ⊥)

-- the number of a column with its groups scaled, as the program makes it
pub record IsScaledNumber (fields : List ℕ) (groups : ℕ → ℕ) (factors rank : ℕ) (c : ℕ → ℕ → ℕ) (n : ℕ) : Type 0 where
  pub own : ℕ → ℕ → ℕ
  pub own_code : (f g : ℕ) → f < 3 → g < 6 → own f g < slice_index fields f
  pub own_factors : AreGroupFactors fields factors groups rank c own
  pub number_is : n ≡ weighed (λ e. times (slice_index fields (e % factors)) (own (e % factors) (groups (e / factors))) (c (e % factors) (e / factors)))
      (rank * factors)

-- the least of the numbers that are marked below total
abbrev pub IsLeastMarked : List Bool → List ℕ → ℕ → Option ℕ → Type 0
IsLeastMarked marks numbers total found =
    MatchOption found ((e : ℕ) → e < total → slice_index_or marks e false ≡ true → ⊥)
    (λ low. ((e : ℕ) → e < total → slice_index_or marks e false ≡ true → low ≤ slice_index numbers e) ×
    ((e : ℕ) × (e < total) × (slice_index_or marks e false ≡ true) × (slice_index numbers e ≡ low)))
