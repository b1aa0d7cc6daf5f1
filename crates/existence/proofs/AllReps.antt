-- All representations of a shape, as a list.
use Rattle.std.proofs.Common.{◌≡◌, ℕ, ◌+◌, ◌*◌, ◌/◌, ◌%◌, ◌<◌, ◌≤◌, refl, ◌∙◌, ap, subst, arith, List, [], map, length, slice_index}
use Rattle.std.specs.List.{range_with_len}
use Rattle.std.proofs.Math.Nat.{mod-lt}
use Rattle.matroid_theory.specs.Field.{IsOrder}
use Rattle.matroid_theory.specs.Rep.{Rep, Shape, shape, size, IsShaped, IsProductColumn}
use Rattle.matrix_lemmas.proofs.FieldLaws.{order_most}
use Rattle.matroid_laws.proofs.First.{row_below, whole, columns_positive}
use Rattle.existence.proofs.Deciding.{IsIn, place_of}
use Rattle.existence.proofs.Covers.{words, in_words, in_map, in_range}

-- each order is below 16
pub small : (q : ℕ) → IsOrder q → q < 16
small q is = let most : q ≤ 13 = order_most q is in omega arith

-- the columns of a rank over some factors, and more
pub all_columns : List ℕ → ℕ → List (List ℕ)
all_columns factors rank = words (range_with_len 0 16) (rank * length factors)

-- each code of a column is below 16
code_small : (factors : List ℕ) (rank : ℕ) (v : List ℕ) → ((f : ℕ) → f < length factors → IsOrder (slice_index factors f)) → IsProductColumn factors rank v
    → (c : ℕ) → IsIn c v → c < 16
code_small factors rank v orders column c i =
    let at = place_of c 0 v i in
    let k : at.0 < rank * length factors = subst (λ n. at.0 < n) column.rows at.1 in
    let p : 0 < length factors = columns_positive at.0 rank (length factors) k in
    let f : at.0 % length factors < length factors = mod-lt at.0 p in
    let e : slice_index v (at.0 / length factors * length factors + at.0 % length factors) ≡ c = ap (slice_index v) (whole at.0 (length factors) p) ∙ at.2 in
    let b : slice_index v (at.0 / length factors * length factors + at.0 % length factors) < slice_index factors (at.0 % length factors) = column.codes
    (at.0 / length factors) (at.0 % length factors) (row_below at.0 (length factors) rank p k) f in
    let o : slice_index factors (at.0 % length factors) < 16 = small (slice_index factors (at.0 % length factors)) (orders (at.0 % length factors) f) in
    omega arith

-- a column of the rank is in the list
pub in_columns : (factors : List ℕ) (rank : ℕ) (v : List ℕ) → ((f : ℕ) → f < length factors → IsOrder (slice_index factors f))
    → IsProductColumn factors rank v → IsIn v (all_columns factors rank)
unfolding all_columns
in_columns factors rank v orders column =
    in_words (range_with_len 0 16) (rank * length factors) v column.rows (λ c i. in_range 16 0 c (omega arith)
    (let b : c < 16 = code_small factors rank v orders column c i in omega arith))

-- the representation of these columns
abbrev pub rep_of : List ℕ → ℕ → List (List ℕ) → Rep
rep_of factors rank columns = record { factors = factors; rank = rank; columns = columns }

-- the representations of a shape, and more
pub all_reps : List ℕ → ℕ → ℕ → List Rep
all_reps factors rank n = map (rep_of factors rank) (words (all_columns factors rank) n)

-- a shaped representation is in the list of its shape
in_all : (M : Rep) → IsShaped M → IsIn M (all_reps M.factors M.rank (size M))
unfolding all_reps
in_all M s =
    in_map (rep_of M.factors M.rank) M.columns (words (all_columns M.factors M.rank) (size M))
    (in_words (all_columns M.factors M.rank) (size M) M.columns refl (λ column i.
    let at = place_of column [] M.columns i in
    in_columns M.factors M.rank column s.orders
    (subst (IsProductColumn M.factors M.rank) at.2 (record { rows = s.lengths at.0 at.1; codes = λ j f k l. s.codes f j at.0 l k at.1 }))))

-- a shaped representation is among those of its shape
pub in_all_of : (M : Rep) (S : Shape) → IsShaped M → shape M ≡ S → IsIn M (all_reps S.factors S.rank S.size)
in_all_of M S s e = subst (λ (S : Shape). IsIn M (all_reps S.factors S.rank S.size)) e (in_all M s)
