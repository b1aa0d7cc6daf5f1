-- Packings compare as what they pack.
use Rattle.std.proofs.Common.{◌≡◌, ℕ, suc, ◌+◌, ◌-◌, ◌*◌, ◌<◌, ◌≤◌, refl, sym, ◌∙◌, ap, subst, arith, List, [], ◌∷◌, length, take, drop, slice_index, add-zero, length-drop}
use Rattle.std.specs.List.{concat}
use Rattle.std.specs.Cmp.Lexicographic.{slice_cmp}
use Rattle.std.specs.Cmp.{nat_cmp_is}
use Rattle.std.specs.Ordering.{nat_cmp, ordering_then, MatchOrdering}
use Rattle.std.proofs.lemmas.Cmp.{ranked, tied_itself, nat_list_cmp_total}
use Rattle.std.specs.declared.cmp.Ordering.{Ordering}
use Rattle.std.specs.declared.cmp.Ordering.TheVariants.{Less, Equal, Greater}
use Rattle.std.proofs.lemmas.List.{take-append-drop, get_or-take, length-take-le}
use Rattle.matroid_theory.specs.Rep.{Rep, Shape, shape, count, size, matrix, IsShaped, IsStandard}
use Rattle.matroid_theory.specs.Order.{rep_cmp}
use Rattle.matroid_laws.proofs.First.{same_codes}
use Rattle.matroid_laws.proofs.Levels.{columns_total, rep_cmp-equal}
use Rattle.matroid_laws.proofs.Prefix.{slice_cmp-append}
use Rattle.matrix_lemmas.proofs.Orderings.{then_assoc}
use Rattle.form_key.specs.Codes.{AreHalves}
use Rattle.form_key.specs.Packing.{paired, later_codes, packing}
use Rattle.form_key.proofs.Columns.{AreColumns, later_columns, length-later, later_are_codes, codes_are_halves}

-- one byte compares as its two codes
nat_cmp-pair : (a b x y : ℕ) → b < 16 → y < 16 → nat_cmp (a * 16 + b) (x * 16 + y) ≡ ordering_then (nat_cmp a x) (nat_cmp b y)
nat_cmp-pair a b x y l m = sym (by_ranks a b x y (nat_cmp a x) (nat_cmp b y) (ranked a x _ refl) (ranked b y _ refl) l m)
  where
    by_ranks : (a b x y : ℕ) (r s : Ordering) → MatchOrdering r (a < x) (a ≡ x) (x < a) → MatchOrdering s (b < y) (b ≡ y) (y < b) → b < 16 → y < 16
        → ordering_then r s ≡ nat_cmp (a * 16 + b) (x * 16 + y)
    by_ranks a b x y Less s g h l m = nat_cmp_is (a * 16 + b) (x * 16 + y) Less (omega arith)
    by_ranks a b x y Equal Less g h l m = nat_cmp_is (a * 16 + b) (x * 16 + y) Less (omega arith)
    by_ranks a b x y Equal Equal g h l m = nat_cmp_is (a * 16 + b) (x * 16 + y) Equal (omega arith)
    by_ranks a b x y Equal Greater g h l m = nat_cmp_is (a * 16 + b) (x * 16 + y) Greater (omega arith)
    by_ranks a b x y Greater s g h l m = nat_cmp_is (a * 16 + b) (x * 16 + y) Greater (omega arith)

-- bytes compare as their codes
pub slice_cmp-paired : (xs ys : List ℕ) → length xs ≡ length ys → AreHalves xs → AreHalves ys
    → slice_cmp nat_cmp (paired xs) (paired ys) ≡ slice_cmp nat_cmp xs ys
slice_cmp-paired [] [] e h g = refl
slice_cmp-paired [] (y ∷ ys) e h g = absurd (omega arith)
slice_cmp-paired (x ∷ xs) [] e h g = absurd (omega arith)
slice_cmp-paired (x ∷ []) (y ∷ []) e h g =
    (λ i. ordering_then (nat_cmp (sym (add-zero (x * 16)) i) (sym (add-zero (y * 16)) i)) Equal)
    ∙ ap (λ o. ordering_then o Equal) (nat_cmp-pair x 0 y 0 (omega arith) (omega arith))
    ∙ then_assoc (nat_cmp x y) Equal Equal
slice_cmp-paired (x ∷ []) (y ∷ (y' ∷ ys)) e h g = absurd (omega arith)
slice_cmp-paired (x ∷ (x' ∷ xs)) (y ∷ []) e h g = absurd (omega arith)
slice_cmp-paired (x ∷ (x' ∷ xs)) (y ∷ (y' ∷ ys)) e h g =
    (λ i. ordering_then (nat_cmp-pair x x' y y' (h 1 (omega arith)) (g 1 (omega arith)) i)
    (slice_cmp-paired xs ys (omega arith) (λ k l. h (suc (suc k)) (omega arith)) (λ k l. g (suc (suc k)) (omega arith)) i))
    ∙ then_assoc (nat_cmp x y) (nat_cmp x' y') (slice_cmp nat_cmp xs ys)

-- columns compare as their codes, one after the other
slice_cmp-concat : (factors : List ℕ) (rank : ℕ) (xs ys : List (List ℕ)) → length xs ≡ length ys → AreColumns factors rank xs → AreColumns factors rank ys
    → slice_cmp nat_cmp (concat xs) (concat ys) ≡ slice_cmp (slice_cmp nat_cmp) xs ys
slice_cmp-concat factors rank [] [] e h g = refl
slice_cmp-concat factors rank [] (y ∷ ys) e h g = absurd (omega arith)
slice_cmp-concat factors rank (x ∷ xs) [] e h g = absurd (omega arith)
slice_cmp-concat factors rank (x ∷ xs) (y ∷ ys) e h g =
    slice_cmp-append nat_cmp x (concat xs) y (concat ys) ((h 0 (omega arith)).rows ∙ sym (g 0 (omega arith)).rows)
    ∙ ap (ordering_then (slice_cmp nat_cmp x y)) (slice_cmp-concat factors rank xs ys (omega arith) (λ j l. h (suc j) (omega arith))
    (λ j l. g (suc j) (omega arith)))

-- standard representations of one shape have the same unit columns
abbrev unit_part : Rep → Rep
unit_part M = record M { columns = take M.rank M.columns }

unit_matrix : (M : Rep) (f i j : ℕ) → j < M.rank → matrix (unit_part M) f i j ≡ matrix M f i j
unit_matrix M f i j l = ap (λ (v : List ℕ). slice_index v (i * count M + f)) (get_or-take M.rank M.columns j [] l)

unit_size : (M : Rep) → IsStandard M → size (unit_part M) ≡ M.rank
unit_size M u = length-take-le M.rank M.columns u.room

unit_shaped : (M : Rep) → IsShaped M → IsStandard M → IsShaped (unit_part M)
unit_shaped M s u = record {
  orders = s.orders;
  lengths = λ j l. ap (λ (v : List ℕ). length v) (get_or-take M.rank M.columns j [] (inside j l)) ∙ s.lengths j (within j l);
  codes = λ f i j l m n. subst (λ x. x < slice_index M.factors f) (sym (unit_matrix M f i j (inside j n))) (s.codes f i j l m (within j n));
}
  where
    inside : (j : ℕ) → j < size (unit_part M) → j < M.rank
    inside j l = subst (λ n. j < n) (unit_size M u) l

    within : (j : ℕ) → j < size (unit_part M) → j < size M
    within j l = let k : j < M.rank = inside j l in let r : M.rank ≤ size M = u.room in omega arith

same_units : (M N : Rep) → shape M ≡ shape N → IsShaped M → IsShaped N → IsStandard M → IsStandard N → take M.rank M.columns ≡ take N.rank N.columns
same_units M N e s t u v = ap (λ (U : Rep). U.columns) (same_codes (unit_part N) (unit_part M) (unit_shaped N t v) (unit_shaped M s u) shapes codes)
  where
    ranks : M.rank ≡ N.rank
    ranks = ap (λ (x : Shape). x.rank) e

    shapes : shape (unit_part M) ≡ shape (unit_part N)
    shapes = λ k. record { factors = (e k).factors; rank = (e k).rank; size = (unit_size M u ∙ ranks ∙ sym (unit_size N v)) k }

    codes : (f i j : ℕ) → f < count N → i < N.rank → j < size (unit_part N) → matrix (unit_part M) f i j ≡ matrix (unit_part N) f i j
    codes f i j l m n =
        let j' : j < N.rank = subst (λ x. j < x) (unit_size N v) n in
        let here : j < M.rank = subst (λ x. j < x) (sym ranks) j' in
        unit_matrix M f i j here ∙ u.units f i j (subst (λ (x : Shape). f < length x.factors) (sym e) l) (subst (λ x. i < x) (sym ranks) m) here
        ∙ sym (v.units f i j l m j') ∙ sym (unit_matrix N f i j j')

pub packing_order : (M N : Rep) → shape M ≡ shape N → IsShaped M → IsShaped N → IsStandard M → IsStandard N
    → slice_cmp nat_cmp (packing M) (packing N) ≡ rep_cmp M N
packing_order M N e s t u v = bytes ∙ columns ∙ sym behind
  where
    bytes : slice_cmp nat_cmp (packing M) (packing N) ≡ slice_cmp nat_cmp (later_codes M) (later_codes N)
    bytes = slice_cmp-paired (later_codes M) (later_codes N)
        (length-later M s ∙ ap (λ (x : Shape). (x.size - x.rank) * (x.rank * length x.factors)) e ∙ sym (length-later N t))
        (codes_are_halves M.factors (later_codes M) s.orders (later_are_codes M s)) (codes_are_halves N.factors (later_codes N) t.orders (later_are_codes N t))

    columns : slice_cmp nat_cmp (later_codes M) (later_codes N) ≡ slice_cmp (slice_cmp nat_cmp) (drop M.rank M.columns) (drop N.rank N.columns)
    columns = slice_cmp-concat M.factors M.rank (drop M.rank M.columns) (drop N.rank N.columns)
        (length-drop M.rank M.columns ∙ ap (λ (x : Shape). x.size - x.rank) e ∙ sym (length-drop N.rank N.columns))
        (later_columns M s) (subst (λ (x : Shape). AreColumns x.factors x.rank (drop N.rank N.columns)) (sym e) (later_columns N t))

    behind : rep_cmp M N ≡ slice_cmp (slice_cmp nat_cmp) (drop M.rank M.columns) (drop N.rank N.columns)
    behind =
        (λ i. slice_cmp (slice_cmp nat_cmp) (sym (take-append-drop M.rank M.columns) i) (sym (take-append-drop N.rank N.columns) i))
        ∙ slice_cmp-append (slice_cmp nat_cmp) (take M.rank M.columns) (drop M.rank M.columns) (take N.rank N.columns) (drop N.rank N.columns)
        (ap (λ (xs : List (List ℕ)). length xs) (same_units M N e s t u v))
        ∙ ap (λ o. ordering_then o (slice_cmp (slice_cmp nat_cmp) (drop M.rank M.columns) (drop N.rank N.columns)))
        (ap (λ (xs : List (List ℕ)). slice_cmp (slice_cmp nat_cmp) (take M.rank M.columns) xs) (sym (same_units M N e s t u v))
        ∙ tied_itself columns_total (take M.rank M.columns))

pub packing_value : (M N : Rep) → shape M ≡ shape N → IsShaped M → IsShaped N → IsStandard M → IsStandard N → packing M ≡ packing N → M ≡ N
packing_value M N e s t u v same =
    rep_cmp-equal M N e (sym (packing_order M N e s t u v) ∙ ap (slice_cmp nat_cmp (packing M)) (sym same) ∙ tied_itself nat_list_cmp_total (packing M))
