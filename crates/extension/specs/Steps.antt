-- The steps from one normalised column to the next, and what the columns of a representation keep.
use Rattle.std.specs.Prelude.{ℕ, ◌+◌, ◌*◌, ◌^◌, ◌↔◌, ◌/◌, ◌%◌, ◌<◌, ◌≤◌, ◌≡◌, ◌≢◌, ◌⊎◌, List, [], length, slice_index, Bool, ◌==◌, ◌||◌}
use Rattle.std.specs.Cmp.Lexicographic.{slice_cmp}
use Rattle.std.specs.Ordering.{nat_cmp}
use Rattle.std.specs.declared.cmp.Ordering.TheVariants.{Less, Greater}
use Rattle.matroid_theory.specs.Rep.{Rep, size, count, KeepsLimits, IsStandard}
use Rattle.matroid_theory.specs.Matrix.{size_below}
use Rattle.matroid_theory.specs.Matroid.{members, IsIndependentIn, Agrees, IsSimple}
use Rattle.matroid_theory.specs.Level.{IsNormalised, followed_by}
use Rattle.extension.specs.Admissible.{ColumnsAfter, IsAdmissible}

-- a normalised column, or none yet
abbrev pub IsStart : List ℕ → ℕ → List ℕ → Type 0
IsStart factors rank v = (v ≡ []) ⊎ IsNormalised factors rank v

-- what the columns of a representation keep
pub record KeepsColumns (columns : ColumnsAfter) : Type 0 where
  pub is_rep : KeepsLimits columns.parent
  pub standard : IsStandard columns.parent
  pub simple : IsSimple columns.parent
  pub agrees : Agrees columns.parent
  pub room : size columns.parent < 16
  pub start : IsStart columns.parent.factors columns.parent.rank columns.last

-- the code at a place can be made greater by one: its row isn't the lead, and it is 0 and the first of its row, or not the greatest of its factor
pub record CanRise (factors : List ℕ) (lead : ℕ) (v : List ℕ) (place : ℕ) : Type 0 where
  pub apart : place / length factors ≢ lead
  pub first : slice_index v place ≡ 0 → place % length factors ≡ 0
  pub below : slice_index v place ≢ 0 → slice_index v place + 1 < slice_index factors (place % length factors)

-- the last place below a width where the code can rise
pub record IsLastRise (factors : List ℕ) (width lead : ℕ) (v : List ℕ) (place : ℕ) : Type 0 where
  pub place_below : place < width
  pub can_rise : CanRise factors lead v place
  pub last : (p : ℕ) → place < p → p < width → ¬ (CanRise factors lead v p)

-- the first row that isn't zero, or the rank where there is none
pub record IsLead (count rank : ℕ) (v : List ℕ) (lead : ℕ) : Type 0 where
  pub most : lead ≤ rank
  pub zeros : (i : ℕ) → i < lead → slice_index v (i * count) ≡ 0
  pub nonzero : lead < rank → slice_index v (lead * count) ≢ 0

-- v with the code at a place greater by one, the codes after it in its row 1, and those of the later rows 0
pub record IsRaised (count width place : ℕ) (v raised : List ℕ) : Type 0 where
  pub rows : length raised ≡ width
  pub before : (p : ℕ) → p < place → slice_index raised p ≡ slice_index v p
  pub at : slice_index raised place ≡ slice_index v place + 1
  pub in_row : (p : ℕ) → place < p → p < width → p / count ≡ place / count → slice_index raised p ≡ 1
  pub later_rows : (p : ℕ) → place < p → p < width → p / count ≢ place / count → slice_index raised p ≡ 0

-- two columns of so many codes a row have the same codes in the first rows
abbrev pub AgreeOnRows : ℕ → ℕ → List ℕ → List ℕ → Type 0
AgreeOnRows count rows u v = (p : ℕ) → p < rows * count → slice_index u p ≡ slice_index v p

-- v is the first normalised column after u of those that differ from u in the first rows
pub record IsNextNormalised (factors : List ℕ) (rank rows : ℕ) (u v : List ℕ) : Type 0 where
  pub normalised : IsNormalised factors rank v
  pub after : slice_cmp nat_cmp u v ≡ Less
  pub first : (w : List ℕ) → IsNormalised factors rank w → ¬ (AgreeOnRows (length factors) rows u w) → slice_cmp nat_cmp u w ≡ Less →
      slice_cmp nat_cmp v w ≢ Greater

-- no normalised column that differs from u in the first rows comes after u
abbrev pub IsLastNormalised : List ℕ → ℕ → ℕ → List ℕ → Type 0
IsLastNormalised factors rank rows u = (w : List ℕ) → IsNormalised factors rank w → ¬ (AgreeOnRows (length factors) rows u w) →
    ¬ (slice_cmp nat_cmp u w ≡ Less)

-- none of the columns that agree with v on the first rows is admissible
pub record IsRefused (M : Rep) (v : List ℕ) (rows : ℕ) : Type 0 where
  pub most : rows ≤ M.rank
  pub none : (w : List ℕ) → IsAdmissible M w → ¬ (AgreeOnRows (count M) rows v w)

-- a set of the columns of M with one column more
abbrev pub with_new : Rep → (ℕ → Bool) → ℕ → Bool
with_new M S j = (j == size M) || S j

-- each set of one column fewer than the rank is, with the column v after those of M, independent in every factor or in none
abbrev pub IsAlikeWith : Rep → List ℕ → Type 0
IsAlikeWith M v = (X f : ℕ) → X < 2 ^ size M → size_below (size M) (members X) + 1 ≡ M.rank → f < count M →
    (IsIndependentIn (followed_by M v) 0 (with_new M (members X)) ↔ IsIndependentIn (followed_by M v) f (with_new M (members X)))
