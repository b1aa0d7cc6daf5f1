-- The sum and the product of two elements are the only codes that the polynomials allow.
use Rattle.std.proofs.Common.{List, ◌≡◌, ◌↔◌, ℕ, zero, suc, ◌<◌, refl, sym, ◌∙◌, ap, subst, Bool, true, false, ◌||◌, not, eqb-true, eq-eqb, inl, inr, arith}
use Rattle.std.specs.Bool.{◌==◌}
use Rattle.std.proofs.lemmas.Bool.{or_cases}
use Rattle.std.proofs.lemmas.Slice.Eq.{bytes_eq-Decides}
use Rattle.std.specs.Str.{bytes_eq}
use Rattle.matroid_theory.specs.Field.{IsOrder, times, poly, characteristic, degree, remainder, modulus, product_number, multiple_number, IsProduct, IsSum, plus, number, poly_plus}
use Rattle.matrix_lemmas.proofs.FieldLaws.{by_order, each, each_pair, at_pair, all_below, all_below-at, no_way}

abbrev any_below : ℕ → (ℕ → Bool) → Bool
any_below zero p = false
any_below (suc n) p = p n || any_below n p

any_below-at : (n : ℕ) (p : ℕ → Bool) → any_below n p ≡ true → (i : ℕ) × (i < n) × (p i ≡ true)
any_below-at zero p h = cc
any_below-at (suc n) p h =
    elim (or_cases (p n) _ h) [
      | inl e ↦ (n, omega arith, e)
      | inr g ↦ (let r : (i : ℕ) × (i < n) × (p i ≡ true) = any_below-at n p g in (r.0, (let l = r.1 in omega arith), r.2))
    ]

some_factor-test : (q : ℕ) → IsOrder q → each_pair q (λ a b. any_below q (λ m. product_number q a b == multiple_number q (times q a b) m)) ≡ true
unfolding times poly characteristic degree remainder modulus product_number multiple_number
some_factor-test = by_order
    (λ q. each_pair q (λ a b. any_below q (λ m. product_number q a b == multiple_number q (times q a b) m)) ≡ true) refl refl refl
    refl refl refl refl refl refl

only_product-test : (q : ℕ) → IsOrder q →
    each_pair q (λ a b. all_below q (λ c. all_below q (λ m. not (product_number q a b == multiple_number q c m) || (c == times q a b)))) ≡ true
unfolding times poly characteristic degree remainder modulus product_number multiple_number
only_product-test = by_order
    (λ q. each_pair q (λ a b.
    all_below q (λ c. all_below q (λ m. not (product_number q a b == multiple_number q c m) || (c == times q a b)))) ≡ true) refl refl
    refl refl refl refl refl refl refl

pub product_exact : (q : ℕ) → IsOrder q → (a b c : ℕ) → a < q → b < q → c < q → IsProduct q a b c ↔ (c ≡ times q a b)
product_exact q o a b c l m n = (only, (λ e. subst (IsProduct q a b) (sym e) some))
  where
    only : IsProduct q a b c → c ≡ times q a b
    only d =
        let k = d.factor_below in
        elim (or_cases (not (product_number q a b == multiple_number q c d.factor)) _
        (all_below-at q (λ m. not (product_number q a b == multiple_number q c m) || (c == times q a b))
        (all_below-at q (λ c. all_below q (λ m. not (product_number q a b == multiple_number q c m) || (c == times q a b)))
        (at_pair q (λ a b. all_below q
        (λ c. all_below q (λ m. not (product_number q a b == multiple_number q c m) || (c == times q a b))))
        (only_product-test q o) a b l m) c n) d.factor k)) [
          | inl e ↦ absurd (no_way (product_number q a b == multiple_number q c d.factor) (eq-eqb _ _ d.equal) e)
          | inr e ↦ eqb-true c (times q a b) e
        ]

    some : IsProduct q a b (times q a b)
    some =
        let r = any_below-at q (λ m. product_number q a b == multiple_number q (times q a b) m)
        (at_pair q (λ a b. any_below q (λ m. product_number q a b == multiple_number q (times q a b) m)) (some_factor-test q o) a b l m) in
        record { factor = r.0; factor_below = r.1; equal = eqb-true _ _ r.2 }

number-test : (q : ℕ) → IsOrder q → each q (λ c. number (characteristic q) (poly q c) == c) ≡ true
unfolding poly characteristic degree
number-test = by_order (λ q. each q (λ c. number (characteristic q) (poly q c) == c) ≡ true) refl refl refl refl refl refl refl refl refl

sum-test : (q : ℕ) → IsOrder q → each_pair q (λ a b. bytes_eq (poly q (plus q a b)) (poly_plus (characteristic q) (poly q a) (poly q b))) ≡ true
unfolding plus poly characteristic degree
sum-test = by_order (λ q.
    each_pair q (λ a b. bytes_eq (poly q (plus q a b)) (poly_plus (characteristic q) (poly q a) (poly q b))) ≡ true) refl refl refl
    refl refl refl refl refl refl

bytes_same : (xs ys : List ℕ) → bytes_eq xs ys ≡ true → xs ≡ ys
bytes_same xs ys e = let same = bytes_eq-Decides xs ys in same.0 e

pub sum_exact : (q : ℕ) → IsOrder q → (a b c : ℕ) → a < q → b < q → c < q → IsSum q a b c ↔ (c ≡ plus q a b)
unfolding plus
sum_exact q o a b c l m n = (only, (λ e. subst (IsSum q a b) (sym e) some))
  where
    only : IsSum q a b c → c ≡ plus q a b
    only s = sym (eqb-true _ c (all_below-at q (λ c. number (characteristic q) (poly q c) == c) (number-test q o) c n)) ∙ ap (number (characteristic q)) s.equal

    some : IsSum q a b (plus q a b)
    some = record {
      equal = bytes_same
          (poly q (plus q a b)) _ (at_pair q
          (λ a b. bytes_eq (poly q (plus q a b)) (poly_plus (characteristic q) (poly q a) (poly q b))) (sum-test q o) a b l m);
    }
