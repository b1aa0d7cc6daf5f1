-- What the tables hold, by one computed test over each whole table.
use Rattle.std.proofs.Common.{◌≡◌, ◌≢◌, ℕ, ◌<◌, refl, List, [], true, ◌||◌, inl, inr, eqb-true}
use Rattle.std.specs.Bool.{◌==◌}
use Rattle.std.specs.List.{slice_index_or}
use Rattle.std.proofs.lemmas.Bool.{or_cases}
use Rattle.matroid_theory.specs.Field.{IsOrder, plus, times, negative, inverse, frobenius, degree, poly, characteristic, remainder}
use Rattle.matrix_lemmas.proofs.FieldLaws.{by_order, each, each_pair, at_pair, all_below-at}
use Rattle.field_tables.specs.declared.tables.TheConstants.{SUMS, PRODUCTS, NEGATIVES, INVERSES, POWERS, DEGREES}

-- what a table of one code, and one of two codes, holds for an order
abbrev pub place : List (List ℕ) → ℕ → ℕ → ℕ
place T q a = slice_index_or (slice_index_or T q []) a 0

abbrev pub entry : List (List (List ℕ)) → ℕ → ℕ → ℕ → ℕ
entry T q a b = slice_index_or (slice_index_or (slice_index_or T q []) a []) b 0

-- the tests of the tables, each computed by the checker
sums-test : (q : ℕ) → IsOrder q → each_pair q (λ a b. entry SUMS q a b == plus q a b) ≡ true
unfolding plus poly characteristic degree
sums-test = by_order (λ q. each_pair q (λ a b. entry SUMS q a b == plus q a b) ≡ true) refl refl refl refl refl refl refl refl refl

products-test : (q : ℕ) → IsOrder q → each_pair q (λ a b. entry PRODUCTS q a b == times q a b) ≡ true
unfolding times poly characteristic degree remainder
products-test = by_order (λ q. each_pair q (λ a b. entry PRODUCTS q a b == times q a b) ≡ true) refl refl refl refl refl refl refl refl refl

negatives-test : (q : ℕ) → IsOrder q → each q (λ a. place NEGATIVES q a == negative q a) ≡ true
unfolding negative times poly characteristic degree remainder
negatives-test = by_order (λ q. each q (λ a. place NEGATIVES q a == negative q a) ≡ true) refl refl refl refl refl refl refl refl refl

inverses-test : (q : ℕ) → IsOrder q → each q (λ a. (a == 0) || (place INVERSES q a == inverse q a)) ≡ true
unfolding inverse times poly characteristic degree remainder
inverses-test = by_order (λ q. each q (λ a. (a == 0) || (place INVERSES q a == inverse q a)) ≡ true) refl refl refl refl refl refl refl refl refl

powers-test : (q : ℕ) → IsOrder q → each q (λ a. place POWERS q a == frobenius q a) ≡ true
unfolding frobenius times poly characteristic degree remainder
powers-test = by_order (λ q. each q (λ a. place POWERS q a == frobenius q a) ≡ true) refl refl refl refl refl refl refl refl refl

-- what each table holds
pub sums : (q a b : ℕ) → IsOrder q → a < q → b < q → entry SUMS q a b ≡ plus q a b
sums q a b o l m = eqb-true _ _ (at_pair q (λ a b. entry SUMS q a b == plus q a b) (sums-test q o) a b l m)

pub products : (q a b : ℕ) → IsOrder q → a < q → b < q → entry PRODUCTS q a b ≡ times q a b
products q a b o l m = eqb-true _ _ (at_pair q (λ a b. entry PRODUCTS q a b == times q a b) (products-test q o) a b l m)

pub negatives : (q a : ℕ) → IsOrder q → a < q → place NEGATIVES q a ≡ negative q a
negatives q a o l = eqb-true _ _ (all_below-at q (λ a. place NEGATIVES q a == negative q a) (negatives-test q o) a l)

pub inverses : (q a : ℕ) → IsOrder q → a < q → a ≢ 0 → place INVERSES q a ≡ inverse q a
inverses q a o l n =
    elim (or_cases (a == 0) _ (all_below-at q (λ a. (a == 0) || (place INVERSES q a == inverse q a)) (inverses-test q o) a l)) [
      | inl z ↦ absurd (n (eqb-true a 0 z))
      | inr e ↦ eqb-true _ _ e
    ]

pub powers : (q a : ℕ) → IsOrder q → a < q → place POWERS q a ≡ frobenius q a
powers q a o l = eqb-true _ _ (all_below-at q (λ a. place POWERS q a == frobenius q a) (powers-test q o) a l)

pub degrees : (q : ℕ) → IsOrder q → slice_index_or DEGREES q 0 ≡ degree q
unfolding degree
degrees = by_order (λ q. slice_index_or DEGREES q 0 ≡ degree q) refl refl refl refl refl refl refl refl refl
