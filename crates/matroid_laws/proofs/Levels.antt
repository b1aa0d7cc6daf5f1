-- Levels and counts are determined.
use Rattle.std.proofs.Common.{[], ◌∷◌, ◌≡◌, ℕ, ◌≤◌, refl, ap, arith, List, length}
use Rattle.std.specs.Cmp.{nat_cmp_total, IsTotalOrder}
use Rattle.std.specs.Cmp.Lexicographic.{slice_cmp, lists_total}
use Rattle.std.specs.Ordering.{nat_cmp, ordering_reverse, ordering_then}
use Rattle.std.specs.declared.cmp.Ordering.{Ordering}
use Rattle.std.specs.declared.cmp.Ordering.TheVariants.{Less, Equal, Greater}
use Rattle.std.proofs.lemmas.Map.Lookups.{exact_unsigned}
use Rattle.matroid_theory.specs.Rep.{Rep, shape}
use Rattle.matroid_theory.specs.Order.{rep_cmp}
use Rattle.matroid_theory.specs.Level.{IsRisingList, IsCount}
use Rattle.matrix_lemmas.proofs.Lists.{rising_unique, distinct_length}

pub columns_total : IsTotalOrder (slice_cmp (slice_cmp nat_cmp))
columns_total = lists_total (lists_total nat_cmp_total)

reversed : (r : Ordering) → r ≡ ordering_reverse r → r ≡ Less → ⊥
reversed Less e h = cc
reversed Equal e h = cc
reversed Greater e h = cc

-- the order is strict
pub rep_cmp-irreflexive : (M : Rep) → ¬ (rep_cmp M M ≡ Less)
rep_cmp-irreflexive M h = let t = columns_total in reversed (rep_cmp M M) (t.antisymm M.columns M.columns) h

pub rep_cmp-transitive : (M N L : Rep) → rep_cmp M N ≡ Less → rep_cmp N L ≡ Less → rep_cmp M L ≡ Less
rep_cmp-transitive M N L h g = let t = columns_total in t.trans M.columns N.columns L.columns h g

pub rep_cmp-reversed : (M N : Rep) → rep_cmp N M ≡ ordering_reverse (rep_cmp M N)
rep_cmp-reversed M N = let t = columns_total in t.antisymm N.columns M.columns

pub then_equal : (r s : Ordering) → ordering_then r s ≡ Equal → (r ≡ Equal) × (s ≡ Equal)
then_equal Less s e = cc
then_equal Equal s e = (refl, e)
then_equal Greater s e = cc

-- lists that compare as equal are equal, where their elements are
slice_cmp-equal : {X : Type 0} (R : X → X → Ordering) → ((x y : X) → R x y ≡ Equal → x ≡ y) → (xs ys : List X) → slice_cmp R xs ys ≡ Equal → xs ≡ ys
slice_cmp-equal R same [] [] e = refl
slice_cmp-equal R same [] (y ∷ ys) e = cc
slice_cmp-equal R same (x ∷ xs) [] e = cc
slice_cmp-equal R same (x ∷ xs) (y ∷ ys) e =
    let both = then_equal (R x y) (slice_cmp R xs ys) e in
    λ i. same x y both.0 i ∷ slice_cmp-equal R same xs ys both.1 i

-- the order is total on one shape
pub rep_cmp-equal : (M N : Rep) → shape M ≡ shape N → rep_cmp M N ≡ Equal → M ≡ N
rep_cmp-equal M N s e =
    let columns = slice_cmp-equal (slice_cmp nat_cmp) (slice_cmp-equal nat_cmp exact_unsigned) M.columns N.columns e in
    λ i. record { factors = (ap (λ t. t.factors) s) i; rank = (ap (λ t. t.rank) s) i; columns = columns i }

-- there is at most one level, and at most one list of what is listed
pub rising_list_unique : (P : Rep → Type 0) (xs ys : List Rep) → IsRisingList P xs → IsRisingList P ys → xs ≡ ys
rising_list_unique P xs ys h g =
    rising_unique (λ M N. rep_cmp M N ≡ Less) rep_cmp-irreflexive rep_cmp-transitive xs ys h.rising g.rising
    (λ M m. let e = h.exact M in let d = g.exact M in d.1 (e.0 m)) (λ M m. let e = h.exact M in let d = g.exact M in e.1 (d.0 m))

-- there is at most one number of tries
pub count_unique : {X : Type 0} (P : X → Type 0) (n m : ℕ) → IsCount P n → IsCount P m → n ≡ m
count_unique P n m h g =
    let a : length h.list ≤ length g.list = distinct_length h.list g.list h.apart (λ x c. let e = h.exact x in let d = g.exact x in d.1 (e.0 c)) in
    let b : length g.list ≤ length h.list = distinct_length g.list h.list g.apart (λ x c. let e = h.exact x in let d = g.exact x in e.1 (d.0 c)) in
    let k : length h.list ≡ n = h.number in
    let l : length g.list ≡ m = g.number in
    omega arith
