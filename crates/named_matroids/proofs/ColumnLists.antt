-- Columns as lists of codes.
use Rattle.std.proofs.Common.{◌≡◌, ◌&&◌, ℕ, zero, suc, eqb-true, ◌<◌, sym, ◌∙◌, ap, subst, arith, Bool, true, List, [], ◌∷◌, length}
use Rattle.std.specs.List.{slice_index, slice_index_or, list_all, AllByRecursion}
use Rattle.std.proofs.Math.ListN.{get_or-map}
use Rattle.std.proofs.lemmas.List.{length-map}
use Rattle.std.specs.Bool.{◌==◌, nat_lt}
use Rattle.std.proofs.lemmas.Bool.Decides.{nat_tests}
use Rattle.std.proofs.lemmas.List.Folds.{list_all-map}
use Rattle.arrayvec.specs.ArrayVec.{ArrayVec}
use Rattle.matroid_theory.specs.Matrix.{IsIndependent, IsRankOf}
use Rattle.matroid_theory.specs.Given as given
use Rattle.matrix_lemmas.proofs.FieldLaws.{both_left, both_right}
use Rattle.formats.specs.Statement.{IsMatrix}
use Rattle.elimination.specs.Columns.{column, matrix_of, height, AreColumns}
use Rattle.small_lists.specs.Lists.{lists}
use Rattle.named_matroids.specs.Listed.{are_codes}

pub column_codes : (columns : List (ArrayVec ℕ)) (j : ℕ) → slice_index_or (lists columns) j [] ≡ column columns j
column_codes columns j = get_or-map (λ (c : ArrayVec ℕ). c.items) columns j (record { items = [] })

pub length_codes : (columns : List (ArrayVec ℕ)) → length (lists columns) ≡ length columns
length_codes columns = length-map columns (λ (c : ArrayVec ℕ). c.items)

pub same_matrix : (columns : List (ArrayVec ℕ)) → given.matrix_of_lists (lists columns) ≡ matrix_of columns
same_matrix columns = λ t i j. slice_index (column_codes columns j t) i

pub same_height : (columns : List (ArrayVec ℕ)) → given.column_length (lists columns) ≡ height columns
same_height columns = ap (λ (c : List ℕ). length c) (column_codes columns 0)

-- what is given by the codes is what the columns are
pub independent_codes : (q : ℕ) (columns : List (ArrayVec ℕ)) (S : ℕ → Bool) →
    IsIndependent q (given.column_length (lists columns)) (length (lists columns))
    (given.matrix_of_lists (lists columns)) S ≡ IsIndependent q (height columns) (length columns) (matrix_of columns) S
independent_codes q columns S = λ t. IsIndependent q (same_height columns t) (length_codes columns t) (same_matrix columns t) S

pub rank_codes : (q : ℕ) (columns : List (ArrayVec ℕ)) (S : ℕ → Bool) (k : ℕ) →
    IsRankOf q (given.column_length (lists columns)) (length (lists columns)) (given.matrix_of_lists (lists columns)) S k ≡ IsRankOf q
    (height columns) (length columns) (matrix_of columns) S k
rank_codes q columns S k = λ t. IsRankOf q (same_height columns t) (length_codes columns t) (same_matrix columns t) S k

each : {X : Type 0} (p : X → Bool) (xs : List X) (d : X) → list_all p xs ≡ true → (j : ℕ) → j < length xs → p (slice_index_or xs j d) ≡ true
each p [] d h j l = absurd (omega arith)
each p (x ∷ xs) d h zero l = both_left (p x) (list_all p xs) h
each p (x ∷ xs) d h (suc j) l = each p xs d (both_right (p x) (list_all p xs) h) j (omega arith)

test_lt : (x y : ℕ) → nat_lt x y ≡ true → x < y
test_lt x y e = grind (arith, nat_tests)

-- what the test of a table says
pub tested_columns : (q rows : ℕ) (columns : List (ArrayVec ℕ)) → are_codes q rows (lists columns) ≡ true → AreColumns q (height columns) columns
tested_columns q rows columns t j l = record {
  rows = rows_at j l ∙ sym (rows_at 0 (omega arith));
  below = λ i m. test_lt (slice_index (column columns j) i) q
      (each (λ code. nat_lt code q) (column columns j) 0 (both_right (length (column columns j) == rows) _ (test_at j l)) i
      (let e : length (column columns j) ≡ length (column columns 0) = rows_at j l ∙ sym (rows_at 0 (omega arith)) in omega arith));
}
  where
    test_at : (j : ℕ) → j < length columns → ((length (column columns j) == rows) && list_all (λ code. nat_lt code q) (column columns j)) ≡ true
    test_at = each (λ (c : ArrayVec ℕ). (length c.items == rows) && list_all (λ code. nat_lt code q) c.items) columns (record { items = [] })
        (sym (list_all-map (λ codes. (length codes == rows) && list_all (λ code. nat_lt code q) codes) (λ (c : ArrayVec ℕ). c.items) columns) ∙ t)

    rows_at : (j : ℕ) → j < length columns → length (column columns j) ≡ rows
    rows_at j l = eqb-true (length (column columns j)) rows (both_left (length (column columns j) == rows) _ (test_at j l))

all_at : {X : Type 0} (P : X → Type 0) (xs : List X) (d : X) → AllByRecursion P xs → (j : ℕ) → j < length xs → P (slice_index_or xs j d)
all_at P [] d all j l = absurd (omega arith)
all_at P (x ∷ xs) d all zero l = all.0
all_at P (x ∷ xs) d all (suc j) l = all_at P xs d all.1 j (omega arith)

-- the columns of a matrix
matrix_columns : (q : ℕ) (columns : List (ArrayVec ℕ)) → IsMatrix q (lists columns) → AreColumns q (height columns) columns
matrix_columns q columns m j l = record {
  rows = rows_at j l ∙ sym (rows_at 0 (omega arith));
  below = λ i k. all_at (λ code. code < q) (column columns j) 0 (codes_at j l) i
      (let e : length (column columns j) ≡ length (column columns 0) = rows_at j l ∙ sym (rows_at 0 (omega arith)) in omega arith);
}
  where
    rows_at : (j : ℕ) → j < length columns → length (column columns j) ≡ m.height.0
    rows_at j l =
        subst (λ (c : List ℕ). length c ≡ m.height.0) (column_codes columns j)
        (all_at (λ (c : List ℕ). length c ≡ m.height.0) (lists columns) [] m.height.3 j
        (let e : length (lists columns) ≡ length columns = length_codes columns in omega arith))

    codes_at : (j : ℕ) → j < length columns → AllByRecursion (λ code. code < q) (column columns j)
    codes_at j l =
        subst (λ (c : List ℕ). AllByRecursion (λ code. code < q) c) (column_codes columns j)
        (all_at (λ (c : List ℕ). AllByRecursion (λ code. code < q) c) (lists columns) [] m.entries j
        (let e : length (lists columns) ≡ length columns = length_codes columns in omega arith))

-- the same for other names of the order and of the list
pub named_matrix : (q order : ℕ) (v : List (ArrayVec ℕ)) (columns : List (List ℕ)) → q ≡ order → lists v ≡ columns →
    IsMatrix order columns → AreColumns q (height v) v
named_matrix q order v columns e f m = subst (λ (q : ℕ). AreColumns q (height v) v) (sym e) (matrix_columns order v (subst (IsMatrix order) (sym f) m))
