-- What the steps of the search make of the states.
use Rattle.std.specs.Prelude.{ℕ, ◌+◌, ◌*◌, ◌/◌, ◌%◌, ◌<◌, ◌≤◌, ◌≡◌, ◌≢◌, ◌↔◌, ◌∷◌, [], ◌++◌, Bool, List, length, slice_index, slice_index_or, suc, true, false}
use Rattle.matroid_theory.specs.Field.{plus, times}
use Rattle.matroid_theory.specs.Rep.{Rep}
use Rattle.matroid_theory.specs.Move.{Move}
use Rattle.matroid_theory.specs.Exchange.{exchange}
use Rattle.form_trails.specs.Numbers.{weighed}
use Rattle.form_trails.specs.Trail.{Trail, Follows}
use Rattle.form_search.specs.Search.{Entries, IsThere, IsFrame, IsPlacing}
use Rattle.form_states.specs.Codes.{AreColumnCodes, code, cleared_code, IsNormalisedFrom}
use Rattle.form_states.specs.Groups.{AreGroupFactors}
use Rattle.form_states.specs.States.{AreColumns, AreGroups, HasHead, HasOtherHead, IsLeastNumber, IsScaledNumber}

-- a state is the frame's with the element chosen for row k: for each trail that the frame describes there is one that the state describes and that each form
-- follows which has the element in row k
abbrev pub Chooses : Rep → ℕ → Entries → List ℕ → ℕ → Entries → Entries → List ℕ → Type 0
Chooses M k E groups b layer rest more =
    (d : Trail) (settled : List ℕ) → IsFrame M (suc k) (slice_index groups) settled E d →
    (d' : Trail) × IsPlacing M k (slice_index more) settled layer rest d'
    × ((m : Move) → Follows M d (suc k) (length settled) m → m.label k ≡ b → Follows M d' k (length settled) m)

-- the same where an open element is placed
abbrev pub Places : Rep → ℕ → List ℕ → Entries → Entries → ℕ → Entries → Entries → List ℕ → Type 0
Places M k groups layer rest e layer_after rest_after more =
    (d : Trail) (settled : List ℕ) (low : ℕ) → IsPlacing M k (slice_index groups) settled layer rest d →
    IsLeastNumber M (slice_index groups) (layer.codes e) low →
    (d' : Trail) × IsPlacing M k (slice_index more) (settled ++ low ∷ []) layer_after rest_after d'
    × ((m : Move) → Follows M d k (length settled) m → m.label (M.rank + length settled) ≡ e → Follows M d' k (length (settled ++ low ∷ [])) m)

-- where no element is open, a frame has the elements outside
abbrev pub Leads : Rep → ℕ → List ℕ → Entries → Entries → Entries → Type 0
Leads M k groups layer rest E =
    (d : Trail) (settled : List ℕ) → IsPlacing M k (slice_index groups) settled layer rest d →
    ((e : ℕ) → IsThere layer e → ⊥) → IsFrame M k (slice_index groups) settled E d

-- element b is chosen for row k: its column's first row that isn't 0 is p, minus is the negative of the column, of the class are the others with the same
-- rows up to k, and the rest are those with other rows
pub record IsRow (fields : List ℕ) (factors rank total k : ℕ) (columns : List (List (List ℕ))) (there : List Bool) (b p : ℕ) (minus : List (List ℕ))
    (class rest : List Bool) : Type 0 where
  pub before : (i : ℕ) → i < p → code (slice_index_or columns b []) 0 i ≡ 0
  pub p_most : p ≤ k
  pub nonzero : code (slice_index_or columns b []) 0 p ≢ 0
  pub minus_codes : AreColumnCodes fields minus
  pub opposite : (f i : ℕ) → f < factors → i < rank → plus (slice_index fields f) (code (slice_index_or columns b []) f i) (code minus f i) ≡ 0
  pub same : (e : ℕ) → e < total → (slice_index_or class e false ≡ true) ↔ HasHead factors columns there (slice_index_or columns b []) (k + 1) b e
  pub other : (e : ℕ) → e < total → (slice_index_or rest e false ≡ true) ↔ HasOtherHead factors columns there (slice_index_or columns b []) (k + 1) b e

-- the columns of the class after the pivot
abbrev pub ArePivoted : List ℕ → ℕ → ℕ → ℕ → ℕ → List (List (List ℕ)) → ℕ → List (List ℕ) → List Bool → List (List (List ℕ)) → Type 0
ArePivoted fields factors rank total k columns p minus class layer =
    (e : ℕ) → e < total → slice_index_or class e false ≡ true → (f i : ℕ) → f < factors → i < rank →
    code (slice_index_or layer e []) f i ≡ cleared_code fields p (code minus) (code (slice_index_or columns e [])) f (exchange p k i)

-- the columns of the rest after the pivot, with their rows multiplied, normalised
abbrev pub AreNext : List ℕ → ℕ → ℕ → ℕ → ℕ → List (List (List ℕ)) → ℕ → List (List ℕ) → List (List ℕ) → List Bool → List (List (List ℕ)) → Type 0
AreNext fields factors rank total k columns p minus by rest after =
    (e : ℕ) → e < total → slice_index_or rest e false ≡ true → IsNormalisedFrom fields factors rank
    (λ f i. times (slice_index fields f) (code by f i) (cleared_code fields p (code minus) (code (slice_index_or columns e [])) f (exchange p k i)))
    (code (slice_index_or after e []))

-- the codes of a state
pub record AreStateCodes (fields : List ℕ) (rank : ℕ) (columns : List (List (List ℕ))) (p : ℕ) (minus : List (List ℕ)) (layer : List (List (List ℕ)))
    (scalars : List (List ℕ)) (groups : List ℕ) : Type 0 where
  pub columns_are : AreColumns fields columns
  pub p_below : p < rank
  pub minus_are : AreColumnCodes fields minus
  pub layer_are : AreColumns fields layer
  pub scalars_are : AreColumnCodes fields scalars
  pub groups_are : AreGroups groups

-- each column that isn't 0 in row k, nor in any row after it where the first codes of two columns differ, has a greater number
abbrev pub AreAbove : ℕ → ℕ → ℕ → List (List ℕ) → List (List ℕ) → ℕ → Type 0
AreAbove factors rank k column base low = (c : ℕ → ℕ → ℕ) → ((f : ℕ) → f < factors → c f k ≢ 0) →
    ((i : ℕ) → k < i → i < rank → code column 0 i ≢ code base 0 i → (f : ℕ) → f < factors → c f i ≢ 0) →
    low < weighed (λ e. c (e % factors) (e / factors)) (rank * factors)

-- the numbers of the open columns of the layer, with their rows multiplied by the scalars and their groups scaled
abbrev pub AreNumbered : List ℕ → ℕ → ℕ → ℕ → List (List (List ℕ)) → List (List ℕ) → List Bool → List ℕ → List ℕ → Type 0
AreNumbered fields factors rank total layer scalars marks groups numbers = (e : ℕ) → e < total → slice_index_or marks e false ≡ true →
    IsScaledNumber fields (slice_index groups) factors rank
    (λ f i. times (slice_index fields f) (code scalars f i) (code (slice_index_or layer e []) f i)) (slice_index numbers e)

-- the scalars are multiplied by the factors of the groups that make ones of a column with these codes
pub record AreScaled (fields : List ℕ) (factors : ℕ) (groups : ℕ → ℕ) (rank : ℕ) (c : ℕ → ℕ → ℕ) (scalars after : List (List ℕ)) : Type 0 where
  pub own : ℕ → ℕ → ℕ
  pub own_code : (f g : ℕ) → f < 3 → g < 6 → own f g < slice_index fields f
  pub own_factors : AreGroupFactors fields factors groups rank c own
  pub products : (f i : ℕ) → f < factors → i < rank → code after f i ≡ times (slice_index fields f) (own f (groups i)) (code scalars f i)
