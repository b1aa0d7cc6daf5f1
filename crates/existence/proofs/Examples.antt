-- Worked examples: the laws at rank 3 over GF(2).
use Rattle.std.proofs.Common.{◌≡◌, ℕ, zero, suc, ◌+◌, ◌*◌, ◌<◌, refl, arith, Bool, ◌||◌, List, [], ◌∷◌, length, slice_index, lit<, lit≤}
use Rattle.std.specs.Bool.{◌==◌}
use Rattle.std.specs.List.{slice_index_or}
use Rattle.matroid_theory.specs.declared.Mode.TheVariants.{Linear}
use Rattle.matroid_theory.specs.Field.{IsOrder, plus, times, poly, characteristic, degree, remainder}
use Rattle.matroid_theory.specs.Matrix.{unit}
use Rattle.matroid_theory.specs.Rep.{Rep, order, matrix, IsShaped, IsStandard, IsProductColumn}
use Rattle.matroid_theory.specs.Matroid.{members, IsIndependentIn, IsBasis, IsSimple}
use Rattle.matroid_theory.specs.Level.{Family, IsMember, IsLevelForm, IsLevel, IsNormalised, IsTry, followed_by}
use Rattle.matroid_laws.proofs.First.{first_level}
use Rattle.matroid_laws.proofs.Followed.{shaped_pushed}
use Rattle.matroid_laws.proofs.Levels.{rising_list_unique}
use Rattle.matroid_laws.proofs.Tries.{independent_by_test}
use Rattle.existence.specs.Exists.{HasLevel, HasTryCount}
use Rattle.existence.proofs.Classes.{one_of_each_class}

-- the columns 100 010 001
abbrev pub unit3 : Rep
unit3 = record { factors = 2 ∷ []; rank = 3; columns = (1 ∷ 0 ∷ 0 ∷ []) ∷ (0 ∷ 1 ∷ 0 ∷ []) ∷ (0 ∷ 0 ∷ 1 ∷ []) ∷ [] }

-- the simple binary matroids of rank 3
abbrev pub binary3 : Family
binary3 = record { factors = 2 ∷ []; rank = 3; mode = Linear; forbidden = [] }

entries : (i j : ℕ) → i < 3 → j < 3 → matrix unit3 0 i j ≡ unit i j
entries zero zero l m = refl
entries zero (suc zero) l m = refl
entries zero (suc (suc zero)) l m = refl
entries (suc zero) zero l m = refl
entries (suc zero) (suc zero) l m = refl
entries (suc zero) (suc (suc zero)) l m = refl
entries (suc (suc zero)) zero l m = refl
entries (suc (suc zero)) (suc zero) l m = refl
entries (suc (suc zero)) (suc (suc zero)) l m = refl
entries (suc (suc (suc i))) j l m = absurd (omega arith)
entries i (suc (suc (suc j))) l m = absurd (omega arith)

codes : (i j : ℕ) → i < 3 → j < 3 → matrix unit3 0 i j < 2
codes zero zero l m = lit< tt
codes zero (suc zero) l m = lit< tt
codes zero (suc (suc zero)) l m = lit< tt
codes (suc zero) zero l m = lit< tt
codes (suc zero) (suc zero) l m = lit< tt
codes (suc zero) (suc (suc zero)) l m = lit< tt
codes (suc (suc zero)) zero l m = lit< tt
codes (suc (suc zero)) (suc zero) l m = lit< tt
codes (suc (suc zero)) (suc (suc zero)) l m = lit< tt
codes (suc (suc (suc i))) j l m = absurd (omega arith)
codes i (suc (suc (suc j))) l m = absurd (omega arith)

unit3_shaped : IsShaped unit3
unit3_shaped = record { orders = one; lengths = all; codes = of_factor }
  where
    one : (f : ℕ) → f < 1 → IsOrder (order unit3 f)
    one zero l = record { listed = (0, omega arith, refl) }
    one (suc f) l = absurd (omega arith)

    all : (j : ℕ) → j < 3 → length (slice_index_or unit3.columns j []) ≡ 3
    all zero l = refl
    all (suc zero) l = refl
    all (suc (suc zero)) l = refl
    all (suc (suc (suc j))) l = absurd (omega arith)

    of_factor : (f i j : ℕ) → f < 1 → i < 3 → j < 3 → matrix unit3 f i j < order unit3 f
    of_factor zero i j l m n = codes i j m n
    of_factor (suc f) i j l m n = absurd (omega arith)

unit3_standard : IsStandard unit3
unit3_standard = record { room = lit≤ tt; units = of_factor }
  where
    of_factor : (f i j : ℕ) → f < 1 → i < 3 → j < 3 → matrix unit3 f i j ≡ unit i j
    of_factor zero i j l m n = entries i j m n
    of_factor (suc f) i j l m n = absurd (omega arith)

-- its first level is the identity matrix
pub level3 : IsLevel binary3 3 (unit3 ∷ [])
level3 = first_level unit3 unit3_shaped unit3_standard refl (lit< tt) binary3 refl refl (λ k d l. absurd (omega arith))

-- and that is the level that the law gives
level_of_law : (w : HasLevel binary3 3) → w.0 ≡ unit3 ∷ []
level_of_law w = rising_list_unique (IsLevelForm binary3 3) w.0 (unit3 ∷ []) w.1 level3

-- ---- a try of size 4: the identity matrix and the column 011

abbrev column011 : List ℕ
column011 = 0 ∷ 1 ∷ 1 ∷ []

abbrev unit4 : Rep
unit4 = followed_by unit3 column011

is_column : IsProductColumn (2 ∷ []) 3 column011
is_column = record { rows = refl; codes = small }
  where
    small : (i f : ℕ) → i < 3 → f < 1 → slice_index column011 (i * 1 + f) < slice_index (2 ∷ []) f
    small zero zero l m = lit< tt
    small (suc zero) zero l m = lit< tt
    small (suc (suc zero)) zero l m = lit< tt
    small (suc (suc (suc i))) f l m = absurd (omega arith)
    small i (suc f) l m = absurd (omega arith)

normalised : IsNormalised (2 ∷ []) 3 column011
normalised = record { is_column = is_column; lead = 1; lead_below = lit< tt; zeros = before; ones = first; support = same }
  where
    before : (i f : ℕ) → i < 1 → f < 1 → slice_index column011 (i * 1 + f) ≡ 0
    before zero zero l m = refl
    before (suc i) f l m = absurd (omega arith)
    before i (suc f) l m = absurd (omega arith)

    first : (f : ℕ) → f < 1 → slice_index column011 (1 * 1 + f) ≡ 1
    first zero l = refl
    first (suc f) l = absurd (omega arith)

    same : (i f g : ℕ) → i < 3 → f < 1 → g < 1 → slice_index column011 (i * 1 + f) ≡ 0 → slice_index column011 (i * 1 + g) ≡ 0
    same i zero zero l m n z = z
    same i (suc f) g l m n z = absurd (omega arith)
    same i f (suc g) l m n z = absurd (omega arith)

-- any two of the four columns are independent
pairs_independent : (i j : ℕ) → i < 4 → j < 4 → IsIndependentIn unit4 0 (λ k. (k == i) || (k == j))
unfolding plus times poly characteristic degree remainder
pairs_independent i j l m = by i j l m
  where
    by : (i j : ℕ) → i < 4 → j < 4 → IsIndependentIn unit4 0 (λ k. (k == i) || (k == j))
    by zero zero l m = independent_by_test 2 3 4 (matrix unit4 0) (λ k. (k == 0) || (k == 0)) refl
    by zero (suc zero) l m = independent_by_test 2 3 4 (matrix unit4 0) (λ k. (k == 0) || (k == 1)) refl
    by zero (suc (suc zero)) l m = independent_by_test 2 3 4 (matrix unit4 0) (λ k. (k == 0) || (k == 2)) refl
    by zero (suc (suc (suc zero))) l m = independent_by_test 2 3 4 (matrix unit4 0) (λ k. (k == 0) || (k == 3)) refl
    by (suc zero) zero l m = independent_by_test 2 3 4 (matrix unit4 0) (λ k. (k == 1) || (k == 0)) refl
    by (suc zero) (suc zero) l m = independent_by_test 2 3 4 (matrix unit4 0) (λ k. (k == 1) || (k == 1)) refl
    by (suc zero) (suc (suc zero)) l m = independent_by_test 2 3 4 (matrix unit4 0) (λ k. (k == 1) || (k == 2)) refl
    by (suc zero) (suc (suc (suc zero))) l m = independent_by_test 2 3 4 (matrix unit4 0) (λ k. (k == 1) || (k == 3)) refl
    by (suc (suc zero)) zero l m = independent_by_test 2 3 4 (matrix unit4 0) (λ k. (k == 2) || (k == 0)) refl
    by (suc (suc zero)) (suc zero) l m = independent_by_test 2 3 4 (matrix unit4 0) (λ k. (k == 2) || (k == 1)) refl
    by (suc (suc zero)) (suc (suc zero)) l m = independent_by_test 2 3 4 (matrix unit4 0) (λ k. (k == 2) || (k == 2)) refl
    by (suc (suc zero)) (suc (suc (suc zero))) l m = independent_by_test 2 3 4 (matrix unit4 0) (λ k. (k == 2) || (k == 3)) refl
    by (suc (suc (suc zero))) zero l m = independent_by_test 2 3 4 (matrix unit4 0) (λ k. (k == 3) || (k == 0)) refl
    by (suc (suc (suc zero))) (suc zero) l m = independent_by_test 2 3 4 (matrix unit4 0) (λ k. (k == 3) || (k == 1)) refl
    by (suc (suc (suc zero))) (suc (suc zero)) l m = independent_by_test 2 3 4 (matrix unit4 0) (λ k. (k == 3) || (k == 2)) refl
    by (suc (suc (suc zero))) (suc (suc (suc zero))) l m = independent_by_test 2 3 4 (matrix unit4 0) (λ k. (k == 3) || (k == 3)) refl
    by (suc (suc (suc (suc i)))) j l m = absurd (omega arith)
    by i (suc (suc (suc (suc j)))) l m = absurd (omega arith)

unit4_basis : IsBasis unit4 0 (members 7)
unfolding plus times poly characteristic degree remainder
unit4_basis = record { full = refl; independent = independent_by_test 2 3 4 (matrix unit4 0) (members 7) refl }

unit4_member : IsMember binary3 4 unit4
unit4_member = record {
  same_factors = refl;
  ranks = refl;
  sizes = refl;
  representation = record { some = lit< tt; shaped = shaped_pushed unit3 column011 unit3_shaped is_column; agrees = record { some = one; same = other } };
  simple = simple;
  avoids = λ k d l. absurd (omega arith);
}
  where
    one : (f : ℕ) → f < 1 → (S : ℕ → Bool) × IsBasis unit4 f S
    one zero l = (members 7, unit4_basis)
    one (suc f) l = absurd (omega arith)

    other : (f g : ℕ) → f < 1 → g < 1 → (S : ℕ → Bool) → IsBasis unit4 f S → IsBasis unit4 g S
    other zero zero l m S b = b
    other (suc f) g l m S b = absurd (omega arith)
    other f (suc g) l m S b = absurd (omega arith)

    simple : IsSimple unit4
    simple zero i j l m n = pairs_independent i j m n
    simple (suc f) i j l m n = absurd (omega arith)

try4 : IsTry binary3 4 (unit3, column011)
try4 = record { parent = (let e = level3.exact unit3 in e.0 (0, omega arith, refl)); column = normalised; member = unit4_member }

-- so the level of size 4 isn't empty, nor is the number of tries 0
level4_some : (forms : List Rep) → IsLevel binary3 4 forms → 0 < length forms
level4_some forms level =
    let w = one_of_each_class binary3 4 forms level in
    let N = w.each unit4 unit4_member in
    let c = N.1 in
    let l = c.1 in
    omega arith

tries4_some : (w : HasTryCount binary3 4) → 0 < w.0
tries4_some w =
    let n = w.1 in
    let e = n.exact (unit3, column011) in
    let c = e.1 try4 in
    let l = c.1 in
    let number : length n.list ≡ w.0 = n.number in
    omega arith
