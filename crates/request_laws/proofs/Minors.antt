-- Each minor that a line can name has its matroid.
use Rattle.std.proofs.Common.{◌≡◌, ℕ, zero, suc, ◌<◌, refl, arith, true, List, [], ◌∷◌, length, slice_index}
use Rattle.std.specs.Bool.{nat_lt}
use Rattle.std.specs.List.{AllByRecursion, list_all}
use Rattle.std.proofs.lemmas.Bool.{ltb-true}
use Rattle.matroid_theory.specs.Field.{IsOrder}
use Rattle.matroid_theory.specs.Minor.{Matroid}
use Rattle.matroid_theory.specs.Given.{IsGivenBy, column_length, matrix_of_lists}
use Rattle.matrix_lemmas.proofs.FieldLaws.{field_laws, both_left, both_right}
use Rattle.formats.specs.Statement.{MinorName, Uniform, Fano, FanoDual, NonFano, KFour, KFive, ByMatrix, IsMinorName}
use Rattle.formats.specs.Minors.{given_as, fano_columns, k4_columns, k5_columns}
use Rattle.existence.proofs.Givens.{uniform_given, columns_given, dual_given}

-- codes below q, and 0 past the end of a list
column_code : (q : ℕ) → 0 < q → (column : List ℕ) → AllByRecursion (λ code. code < q) column → (i : ℕ) → slice_index column i < q
column_code q pos [] all i = pos
column_code q pos (x ∷ xs) all zero = all.0
column_code q pos (x ∷ xs) all (suc i) = column_code q pos xs all.1 i

columns_codes : (q : ℕ) → 0 < q → (columns : List (List ℕ)) → AllByRecursion (λ column. AllByRecursion (λ code. code < q) column) columns → (i j : ℕ)
    → matrix_of_lists columns i j < q
columns_codes q pos [] all i j = pos
columns_codes q pos (c ∷ cs) all i zero = column_code q pos c all.0 i
columns_codes q pos (c ∷ cs) all i (suc j) = columns_codes q pos cs all.1 i j

-- the same by a test, for the columns of the names
codes_tested : (q : ℕ) (column : List ℕ) → list_all (λ code. nat_lt code q) column ≡ true → AllByRecursion (λ code. code < q) column
codes_tested q [] t = tt
codes_tested q (x ∷ xs) t = (ltb-true x q (both_left _ _ t), codes_tested q xs (both_right (nat_lt x q) _ t))

columns_tested : (q : ℕ) (columns : List (List ℕ)) → list_all (λ column. list_all (λ code. nat_lt code q) column) columns ≡ true
    → AllByRecursion (λ column. AllByRecursion (λ code. code < q) column) columns
columns_tested q [] t = tt
columns_tested q (c ∷ cs) t = (codes_tested q c (both_left _ _ t), columns_tested q cs (both_right (list_all (λ code. nat_lt code q) c) _ t))

-- the orders of the names
two : IsOrder 2
two = record { listed = (0, omega arith, refl) }

three : IsOrder 3
three = record { listed = (1, omega arith, refl) }

positive : (q : ℕ) → IsOrder q → 0 < q
positive q o = let F = field_laws q o in let t = F.two in omega arith

-- the entries of such columns are codes of the field
over_order : (q : ℕ) (o : IsOrder q) (columns : List (List ℕ)) → AllByRecursion (λ column. AllByRecursion (λ code. code < q) column) columns → (i j : ℕ)
    → i < column_length columns → j < length columns → matrix_of_lists columns i j < q
over_order q o columns all i j _ _ = columns_codes q (positive q o) columns all i j

pub minor_exists : (minor : MinorName) → IsMinorName minor → (N : Matroid) × IsGivenBy (given_as minor) N
minor_exists (Uniform rank size) w = uniform_given rank size w.low
minor_exists Fano w = columns_given 2 two fano_columns (over_order 2 two fano_columns (columns_tested 2 fano_columns refl))
minor_exists FanoDual w = dual_given 2 two fano_columns (over_order 2 two fano_columns (columns_tested 2 fano_columns refl))
minor_exists NonFano w = columns_given 3 three fano_columns (over_order 3 three fano_columns (columns_tested 3 fano_columns refl))
minor_exists KFour w = columns_given 2 two k4_columns (over_order 2 two k4_columns (columns_tested 2 k4_columns refl))
minor_exists KFive w = columns_given 2 two k5_columns (over_order 2 two k5_columns (columns_tested 2 k5_columns refl))
minor_exists (ByMatrix order columns) w = columns_given order w.is_order columns (over_order order w.is_order columns w.entries)
