-- Lists of numbers in rising order, with repeats.
use Rattle.std.proofs.Common.{◌≡◌, ◌≢◌, ℕ, suc, ◌+◌, ◌<◌, ◌≤◌, sym, ◌∙◌, ap, ap₂, refl, arith, true, List, [], ◌∷◌, inl, inr}
use Rattle.std.specs.Bool.{◌==◌}
use Rattle.std.specs.List.{count_by}
use Rattle.std.specs.List.Sorted.{IsNonDecreasing}
use Rattle.std.proofs.lemmas.Bool.{cases_eq, cases_order}
use Rattle.matrix_lemmas.proofs.Sums.{same_number, other_number}
use Rattle.base_iso.proofs.Injections.{count_yes, count_no}

rest : (x : ℕ) (xs : List ℕ) → IsNonDecreasing (x ∷ xs) → IsNonDecreasing xs
rest x xs h i j d l m = h (suc i) (suc j) d (omega arith) (omega arith)

-- a number below the first one is at no place
none_below : (d y : ℕ) (ys : List ℕ) → IsNonDecreasing (y ∷ ys) → d < y → count_by (λ x. x == d) (y ∷ ys) ≡ 0
none_below d y [] h l =
    let n : y ≢ d = omega arith in
    count_no (λ x. x == d) y [] (other_number y d n)
none_below d y (z ∷ ys) h l =
    let n : y ≢ d = omega arith in
    let up : y ≤ z = h 0 1 0 (omega arith) (omega arith) in
    let first : count_by (λ x. x == d) (y ∷ z ∷ ys) ≡ 0 + count_by (λ x. x == d) (z ∷ ys) = count_no (λ x. x == d) y (z ∷ ys) (other_number y d n) in
    let others : count_by (λ x. x == d) (z ∷ ys) ≡ 0 = none_below d z ys (rest y (z ∷ ys) h) (omega arith) in
    omega arith

-- the first number is at some place
some_first : (y : ℕ) (ys : List ℕ) → 0 < count_by (λ x. x == y) (y ∷ ys)
some_first y ys = let e : count_by (λ x. x == y) (y ∷ ys) ≡ 1 + count_by (λ x. x == y) ys = count_yes (λ x. x == y) y ys (same_number y) in omega arith

-- equal numbers in front: equal counts behind
counts_behind : (y d : ℕ) (xs ys : List ℕ) → count_by (λ x. x == d) (y ∷ xs) ≡ count_by (λ x. x == d) (y ∷ ys) →
    count_by (λ x. x == d) xs ≡ count_by (λ x. x == d) ys
counts_behind y d xs ys e = elim (cases_eq y d) [
  | inl s ↦ (let t : (y == d) ≡ true = ap (λ x. y == x) (sym s) ∙ same_number y in
      let p : count_by (λ x. x == d) (y ∷ xs) ≡ 1 + count_by (λ x. x == d) xs = count_yes (λ x. x == d) y xs t in
      let q : count_by (λ x. x == d) (y ∷ ys) ≡ 1 + count_by (λ x. x == d) ys = count_yes (λ x. x == d) y ys t in
      omega arith)
  | inr n ↦ (let p : count_by (λ x. x == d) (y ∷ xs) ≡ 0 + count_by (λ x. x == d) xs = count_no (λ x. x == d) y xs (other_number y d n) in
      let q : count_by (λ x. x == d) (y ∷ ys) ≡ 0 + count_by (λ x. x == d) ys = count_no (λ x. x == d) y ys (other_number y d n) in
      omega arith)
]

-- two such lists that have each number equally often are the same
pub rising_same : (xs ys : List ℕ) → IsNonDecreasing xs → IsNonDecreasing ys → ((d : ℕ) → count_by (λ x. x == d) xs ≡ count_by (λ x. x == d) ys) → xs ≡ ys
rising_same [] [] h k e = refl
rising_same [] (y ∷ ys) h k e = absurd (let s : 0 < count_by (λ x. x == y) (y ∷ ys) = some_first y ys in
    let n : count_by (λ x. x == y) [] ≡ count_by (λ x. x == y) (y ∷ ys) = e y in
    let z : count_by (λ x. x == y) [] ≡ 0 = refl in omega arith)
rising_same (x ∷ xs) [] h k e = absurd (let s : 0 < count_by (λ z. z == x) (x ∷ xs) = some_first x xs in
    let n : count_by (λ z. z == x) (x ∷ xs) ≡ count_by (λ z. z == x) [] = e x in
    let z : count_by (λ z. z == x) [] ≡ 0 = refl in omega arith)
rising_same (x ∷ xs) (y ∷ ys) h k e = elim (cases_order x y) [
  | inl s ↦ ap₂ (λ (z : ℕ) (zs : List ℕ). z ∷ zs) s
      (rising_same xs ys (rest x xs h) (rest y ys k)
      (λ d. counts_behind y d xs ys (ap (λ z. count_by (λ x. x == d) (z ∷ xs)) (sym s) ∙ e d)))
  | inr o ↦ absurd (elim o [
    | inl l ↦ (let s : 0 < count_by (λ z. z == x) (x ∷ xs) = some_first x xs in
        let n : count_by (λ z. z == x) (x ∷ xs) ≡ count_by (λ z. z == x) (y ∷ ys) = e x in
        let z : count_by (λ z. z == x) (y ∷ ys) ≡ 0 = none_below x y ys k l in omega arith)
    | inr l ↦ (let s : 0 < count_by (λ z. z == y) (y ∷ ys) = some_first y ys in
        let n : count_by (λ z. z == y) (x ∷ xs) ≡ count_by (λ z. z == y) (y ∷ ys) = e y in
        let z : count_by (λ z. z == y) (x ∷ xs) ≡ 0 = none_below y x xs h l in omega arith)
  ])
]
