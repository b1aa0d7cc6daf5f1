-- The first elements of a named matroid are a base of it.
use Rattle.std.proofs.Common.{◌≡◌, ℕ, zero, suc, ◌-◌, ◌^◌, ◌<◌, ◌≤◌, refl, sym, ◌∙◌, ap, subst, arith, Bool, true, not, lit<, List, [], ◌∷◌, map, take, length, slice_index}
use Rattle.std.specs.Bool.{nat_lt}
use Rattle.std.specs.List.{Contains, list_all, range_with_len, slice_index_or}
use Rattle.std.proofs.lemmas.Bool.{and_parts, ltb-true}
use Rattle.std.proofs.lemmas.List.{get_or-take}
use Rattle.std.proofs.lemmas.List.FromFn.{get_or-map-range_with_len}
use Rattle.std.proofs.lemmas.Nat.{pow_pos}
use Rattle.std.proofs.Math.Nat.{pow-le-pow_right}
use Rattle.matroid_theory.specs.Field.{IsField, plus, times, poly, characteristic, degree, remainder}
use Rattle.matroid_theory.specs.Matrix.{unit, combination, size_below, AreCoefficients, IsIndependent}
use Rattle.matroid_theory.specs.Matroid.{members}
use Rattle.matroid_theory.specs.Minor.{Matroid}
use Rattle.matroid_theory.specs.Given.{Given, AllSets, ColumnsOver, DualOfColumns, elements, column_length, matrix_of_lists, IsColumnBasis, IsGivenBasis, IsGivenBy}
use Rattle.matrix_lemmas.proofs.Sums.{sum_same}
use Rattle.matrix_lemmas.proofs.FieldLaws.{field_laws}
use Rattle.matrix_lemmas.proofs.Masks.{size-same, IsIndependent-same}
use Rattle.matrix_lemmas.proofs.Bases.{set_bound}
use Rattle.matroid_laws.proofs.Rest.{size_front}
use Rattle.matrix_lemmas.proofs.Units.{units_independent}
use Rattle.formats.specs.Minors.{k4_columns, fano_columns, k5_columns, given_as}
use Rattle.formats.specs.Statement.{MinorName, Uniform, Fano, FanoDual, NonFano, KFour, KFive, ByMatrix, IsMinorName, minor_words}
use Rattle.dual_theory.proofs.Searches.{first_members}

-- where a set of r of the elements, the first ones, is a base as it is given, its mask is among the bases
first_listed : (given : Given) (N : Matroid) (r : ℕ) → IsGivenBy given N → r ≤ elements given
    → IsGivenBasis given (members (2 ^ r - 1)) → Contains N.bases (2 ^ N.rank - 1)
first_listed given N r g room basis = subst (λ (k : ℕ). Contains N.bases (2 ^ k - 1)) rank listed
  where
    within : r ≤ N.size
    within = let e : N.size ≡ elements given = g.sizes in omega arith

    listed : Contains N.bases (2 ^ r - 1)
    listed = (g.exact (2 ^ r - 1)).1 (
      (let l : 2 ^ r ≤ 2 ^ N.size = pow-le-pow_right (lit< tt) within in let p : 0 < 2 ^ r = pow_pos r in omega arith),
      basis,
    )

    rank : r ≡ N.rank
    rank =
        sym (size_front r N.size within) ∙ size-same N.size (λ j. nat_lt j r) (members (2 ^ r - 1)) (λ j l. sym (first_members N.size r within j l))
        ∙ g.ranks (2 ^ r - 1) listed

-- ---- columns

-- codes that a test has passed
passed : (q : ℕ) → 0 < q → (codes : List ℕ) → list_all (λ code. nat_lt code q) codes ≡ true → (i : ℕ) → slice_index codes i < q
passed q p [] t i = p
passed q p (code ∷ codes) t zero = ltb-true code q (and_parts (nat_lt code q) (list_all (λ code. nat_lt code q) codes) t).0
passed q p (code ∷ codes) t (suc i) = passed q p codes (and_parts (nat_lt code q) (list_all (λ code. nat_lt code q) codes) t).1 i

all_passed : (q : ℕ) → 0 < q → (columns : List (List ℕ)) → list_all (λ column. list_all (λ code. nat_lt code q) column) columns ≡ true
    → (i j : ℕ) → matrix_of_lists columns i j < q
all_passed q p [] t i j = p
all_passed q p (column ∷ columns) t i zero =
    passed q p column (and_parts (list_all (λ code. nat_lt code q) column) (list_all (λ column. list_all (λ code. nat_lt code q) column) columns) t).0 i
all_passed q p (column ∷ columns) t i (suc j) =
    all_passed q p columns (and_parts (list_all (λ code. nat_lt code q) column) (list_all (λ column. list_all (λ code. nat_lt code q) column) columns) t).1 i j

-- the first r unit columns
abbrev unit_columns : ℕ → List (List ℕ)
unit_columns r = map (λ j. map (λ i. unit i j) (range_with_len 0 r)) (range_with_len 0 r)

module _ (q : ℕ) (F : IsField q) (columns : List (List ℕ)) (codes : list_all (λ column. list_all (λ code. nat_lt code q) column) columns ≡ true) where
  code_at : (i j : ℕ) → matrix_of_lists columns i j < q
  code_at = let G = F in let t = G.two in all_passed q (omega arith) columns codes

  -- an independent set of as many columns as there are rows is a base
  square_basis : (S : ℕ → Bool) → size_below (length columns) S ≡ column_length columns
      → IsIndependent q (column_length columns) (length columns) (matrix_of_lists columns) S → IsColumnBasis q columns S
  square_basis S full d = record {
    independent = d;
    greatest = record {
      reached = (S, record { within = λ j l e. refl; elements = refl; independent = d });
      greatest = λ m I part.
          let b : size_below (length columns) I ≤ column_length columns =
          set_bound q F (column_length columns) (length columns) (matrix_of_lists columns) (λ i j _ _. code_at i j) I part.independent in
          let e : size_below (length columns) I ≡ m = part.elements in
          omega arith;
    };
  }

  -- so the first columns are one, where they are the unit columns
  front_basis : column_length columns ≤ length columns → take (column_length columns) columns ≡ unit_columns (column_length columns)
      → IsColumnBasis q columns (members (2 ^ column_length columns - 1))
  front_basis room begins =
      square_basis (members (2 ^ column_length columns - 1))
      (sym (size-same (length columns) (λ j. nat_lt j (column_length columns)) (members (2 ^ column_length columns - 1)) same)
      ∙ size_front (column_length columns) (length columns) room)
      (IsIndependent-same q (column_length columns) (length columns) (matrix_of_lists columns)
      (λ j. nat_lt j (column_length columns)) (members (2 ^ column_length columns - 1)) same
      (units_independent q F (column_length columns) (length columns) (matrix_of_lists columns) room units))
    where
      same : (j : ℕ) → j < length columns → nat_lt j (column_length columns) ≡ members (2 ^ column_length columns - 1) j
      same j l = sym (first_members (length columns) (column_length columns) room j l)

      units : (i j : ℕ) → i < column_length columns → j < column_length columns → matrix_of_lists columns i j ≡ unit i j
      units i j l m =
          ap (λ (column : List ℕ). slice_index column i) (sym (get_or-take (column_length columns) columns j [] m)
          ∙ ap (λ (columns : List (List ℕ)). slice_index_or columns j []) begins
          ∙ get_or-map-range_with_len (λ j. map (λ i. unit i j) (range_with_len 0 (column_length columns))) 0 (column_length columns) j j [] m (omega arith))
          ∙ get_or-map-range_with_len (λ i. unit i j) 0 (column_length columns) i i 0 l (omega arith)

  first_of_columns : (N : Matroid) → column_length columns ≤ length columns → take (column_length columns) columns ≡ unit_columns (column_length columns)
      → IsGivenBy (ColumnsOver q columns) N → Contains N.bases (2 ^ N.rank - 1)
  first_of_columns N room begins g = first_listed (ColumnsOver q columns) N (column_length columns) g room (front_basis room begins)

-- ---- the last three columns of the Fano matroid

two : IsField 2
two = field_laws 2 (record { listed = (0, lit< tt, refl) })

-- coefficients of these three columns alone
unfoldable pick : ℕ → ℕ → ℕ → ℕ → ℕ
pick x y z (suc (suc (suc (suc zero)))) = x
pick x y z (suc (suc (suc (suc (suc zero))))) = y
pick x y z (suc (suc (suc (suc (suc (suc zero)))))) = z
pick x y z j = 0

not_zero : suc zero ≡ zero → ⊥
not_zero e = omega arith

-- their combination is zero for no others than 0
only_zero : (x y z : ℕ) → x < 2 → y < 2 → z < 2 →
    ((i : ℕ) → i < 3 → combination 2 7 (matrix_of_lists fano_columns) (pick x y z) i ≡ 0) → (x ≡ 0) × (y ≡ 0) × (z ≡ 0)
unfolding pick plus times poly characteristic degree remainder
only_zero zero zero zero l m n h = (refl, refl, refl)
only_zero zero zero (suc zero) l m n h = absurd (not_zero (h 0 (lit< tt)))
only_zero zero (suc zero) zero l m n h = absurd (not_zero (h 0 (lit< tt)))
only_zero zero (suc zero) (suc zero) l m n h = absurd (not_zero (h 2 (lit< tt)))
only_zero (suc zero) zero zero l m n h = absurd (not_zero (h 0 (lit< tt)))
only_zero (suc zero) zero (suc zero) l m n h = absurd (not_zero (h 1 (lit< tt)))
only_zero (suc zero) (suc zero) zero l m n h = absurd (not_zero (h 1 (lit< tt)))
only_zero (suc zero) (suc zero) (suc zero) l m n h = absurd (not_zero (h 0 (lit< tt)))
only_zero (suc (suc x)) y z l m n h = absurd (omega arith)
only_zero x (suc (suc y)) z l m n h = absurd (omega arith)
only_zero x y (suc (suc z)) l m n h = absurd (omega arith)

-- so they are independent: the dual's first four elements leave them out
last_independent : IsIndependent 2 3 7 (matrix_of_lists fano_columns) (λ j. not (members 15 j))
unfolding pick
last_independent = record { only_zero = λ a c z j l. all a c z j l }
  where
    same : (a : ℕ → ℕ) → AreCoefficients 2 7 (λ j. not (members 15 j)) a → (j : ℕ) → j < 7 → a j ≡ pick (a 4) (a 5) (a 6) j
    same a c zero l = c.outside 0 (lit< tt) refl
    same a c (suc zero) l = c.outside 1 (lit< tt) refl
    same a c (suc (suc zero)) l = c.outside 2 (lit< tt) refl
    same a c (suc (suc (suc zero))) l = c.outside 3 (lit< tt) refl
    same a c (suc (suc (suc (suc zero)))) l = refl
    same a c (suc (suc (suc (suc (suc zero))))) l = refl
    same a c (suc (suc (suc (suc (suc (suc zero)))))) l = refl
    same a c (suc (suc (suc (suc (suc (suc (suc j))))))) l = absurd (omega arith)

    zeros : (a : ℕ → ℕ) → AreCoefficients 2 7 (λ j. not (members 15 j)) a → ((i : ℕ) → i < 3 → combination 2 7 (matrix_of_lists fano_columns) a i ≡ 0)
        → (a 4 ≡ 0) × (a 5 ≡ 0) × (a 6 ≡ 0)
    zeros a c z = only_zero (a 4) (a 5) (a 6) (c.codes 4 (lit< tt)) (c.codes 5 (lit< tt)) (c.codes 6 (lit< tt)) (λ i l.
        sum_same 2 two 7 (λ j. times 2 (matrix_of_lists fano_columns i j) (pick (a 4) (a 5) (a 6) j)) (λ j. times 2 (matrix_of_lists fano_columns i j) (a j))
        (λ j m. ap (times 2 (matrix_of_lists fano_columns i j)) (sym (same a c j m)))
        ∙ z i l)

    none : (x y z : ℕ) → x ≡ 0 → y ≡ 0 → z ≡ 0 → (j : ℕ) → pick x y z j ≡ 0
    none x y z e f g (suc (suc (suc (suc zero)))) = e
    none x y z e f g (suc (suc (suc (suc (suc zero))))) = f
    none x y z e f g (suc (suc (suc (suc (suc (suc zero)))))) = g
    none x y z e f g zero = refl
    none x y z e f g (suc zero) = refl
    none x y z e f g (suc (suc zero)) = refl
    none x y z e f g (suc (suc (suc zero))) = refl
    none x y z e f g (suc (suc (suc (suc (suc (suc (suc j))))))) = refl

    all : (a : ℕ → ℕ) → AreCoefficients 2 7 (λ j. not (members 15 j)) a → ((i : ℕ) → i < 3 → combination 2 7 (matrix_of_lists fano_columns) a i ≡ 0)
        → (j : ℕ) → j < 7 → a j ≡ 0
    all a c z j l = let w = zeros a c z in same a c j l ∙ none (a 4) (a 5) (a 6) w.0 w.1 w.2 j

-- ---- names

pub named_first : (name : MinorName) (N : Matroid) (text : List ℕ) → IsMinorName name → minor_words name ≡ text ∷ [] → IsGivenBy (given_as name) N
    → Contains N.bases (2 ^ N.rank - 1)
named_first (Uniform rank size) N text m w g =
    first_listed (AllSets rank size) N rank g m.low
    (size-same size (members (2 ^ rank - 1)) (λ j. nat_lt j rank) (first_members size rank m.low) ∙ size_front rank size m.low)
named_first Fano N text m w g = first_of_columns 2 two fano_columns refl N (omega arith) refl g
named_first FanoDual N text m w g =
    first_listed (DualOfColumns 2 fano_columns) N 4 g (omega arith) (square_basis 2 two fano_columns refl (λ j. not (members 15 j)) refl last_independent)
named_first NonFano N text m w g = first_of_columns 3 (field_laws 3 (record { listed = (1, lit< tt, refl) })) fano_columns refl N (omega arith) refl g
named_first KFour N text m w g = first_of_columns 2 two k4_columns refl N (omega arith) refl g
named_first KFive N text m w g = first_of_columns 2 two k5_columns refl N (omega arith) refl g
named_first (ByMatrix order columns) N text m w g = let e = ap (λ (words : List (List ℕ)). length words) w in absurd (omega arith)
