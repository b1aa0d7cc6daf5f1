-- The columns that may follow a representation, and how they are gone through.
use Rattle.std.specs.Prelude.{ℕ, ◌+◌, ◌*◌, ◌^◌, ◌≡◌, ◌≢◌, ◌↔◌, List, [], ◌∷◌, length, Option, Some, None}
use Rattle.std.specs.List.{AllPairs, Contains}
use Rattle.arrayvec.specs.ArrayVec.{ArrayVec}
use Rattle.std.specs.Cmp.Lexicographic.{slice_cmp}
use Rattle.std.specs.Ordering.{nat_cmp}
use Rattle.std.specs.declared.cmp.Ordering.TheVariants.{Less, Greater}
use Rattle.matroid_theory.specs.Rep.{Rep}
use Rattle.matroid_theory.specs.Matroid.{Agrees, IsSimple}
use Rattle.matroid_theory.specs.Level.{IsNormalised, followed_by}

-- a normalised column such that M followed by it is simple and its factors agree
pub record IsAdmissible (M : Rep) (v : List ℕ) : Type 0 where
  pub normalised : IsNormalised M.factors M.rank v
  pub simple : IsSimple (followed_by M v)
  pub agrees : Agrees (followed_by M v)

-- a representation, and the column after which its columns are still to come; no column stands before the empty one
pub record ColumnsAfter : Type 0 where
  pub parent : Rep
  pub last : List ℕ

-- v is the first admissible column after the last one
pub record IsNextColumn (columns : ColumnsAfter) (v : List ℕ) : Type 0 where
  pub admissible : IsAdmissible columns.parent v
  pub after : slice_cmp nat_cmp columns.last v ≡ Less
  pub first : (w : List ℕ) → IsAdmissible columns.parent w → slice_cmp nat_cmp columns.last w ≡ Less → slice_cmp nat_cmp v w ≢ Greater

-- no admissible column comes after the last one
abbrev pub IsLastColumn : ColumnsAfter → Type 0
IsLastColumn columns = (w : List ℕ) → IsAdmissible columns.parent w → ¬ (slice_cmp nat_cmp columns.last w ≡ Less)

-- what a step makes of the columns: it gives the next column, which becomes the last one, or there is none and nothing changes
abbrev pub GivesNext : ColumnsAfter → Option (ArrayVec ℕ) → ColumnsAfter → Type 0
GivesNext before None after = IsLastColumn before × (after ≡ before)
GivesNext before (Some v) after = IsNextColumn before v.items × (after ≡ record { parent = before.parent; last = v.items })

-- the strictly rising list of exactly the admissible columns up to the last one
pub record AreColumnsUpTo (M : Rep) (last : List ℕ) (vs : List (List ℕ)) : Type 0 where
  pub rising : AllPairs (λ v w. slice_cmp nat_cmp v w ≡ Less) vs
  pub exact : (w : List ℕ) → Contains vs w ↔ (IsAdmissible M w × (slice_cmp nat_cmp w last ≢ Greater))

-- the strictly rising list of exactly the admissible columns
pub record AreAdmissible (M : Rep) (vs : List (List ℕ)) : Type 0 where
  pub rising : AllPairs (λ v w. slice_cmp nat_cmp v w ≡ Less) vs
  pub exact : (w : List ℕ) → Contains vs w ↔ IsAdmissible M w

-- the number whose digits in base 13 the codes are
abbrev pub value : List ℕ → ℕ
value [] = 0
value (code ∷ codes) = code * 13 ^ length codes + value codes

-- a number above those of all normalised columns, which have at most 18 codes, the first of them 0 or 1
abbrev pub above_values : ℕ
above_values = 2 * 13 ^ 17
