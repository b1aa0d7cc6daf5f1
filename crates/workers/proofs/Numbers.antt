-- Numbers that stand once in a list.
use Rattle.std.proofs.Common.{◌≡◌, ℕ, zero, suc, ◌+◌, ◌<◌, ◌≤◌, ◌==◌, Bool, true, false, List, [], ◌∷◌, ◌++◌, length, refl, ap, sym, ◌∙◌, arith, eqb, eqb-true, Contains, ⊎_elim}
use Rattle.std.specs.List.{list_any, IsDistinct, AllByRecursion}
use Rattle.std.proofs.lemmas.Bool.{false≢true, or_cases}
use Rattle.std.proofs.lemmas.Map.Keys.{IsDistinct-cons}
use Rattle.std.proofs.lemmas.Map.Steps.{length-le_from_distinct_below}
use Rattle.steal_deque.specs.Deque.{one, times}
use Rattle.steal_deque.proofs.Steps.{times-append, times_same}

pub found : (x : ℕ) (xs : List ℕ) → Contains xs x → 0 < times x xs
found x [] (k, l, e) = absurd (omega arith)
found x (y ∷ ys) (zero, l, e) = let s : one (x == y) ≡ 1 = ap (λ z. one (x == z)) e ∙ times_same x in omega arith
found x (y ∷ ys) (suc k, l, e) = let h = found x ys (k, omega arith, e) in omega arith

place_by : (x y : ℕ) (ys : List ℕ) → (0 < times x ys → Contains ys x) → (b : Bool) → (x == y) ≡ b → 0 < one b + times x ys → Contains (y ∷ ys) x
place_by x y ys later true e l = (0, omega arith, sym (eqb-true x y e))
place_by x y ys later false e l = let c = later (omega arith) in (suc c.0, (let m = c.1 in omega arith), c.2)

pub place : (x : ℕ) (xs : List ℕ) → 0 < times x xs → Contains xs x
place x [] l = absurd (omega arith)
place x (y ∷ ys) l = place_by x y ys (λ m. place x ys m) (x == y) refl l

others : (y : ℕ) (ys : List ℕ) → times y ys ≡ 0 → AllByRecursion (λ z. eqb y z ≡ false) ys
others y [] e = tt
others y (z ∷ zs) e = (by_case (y == z) refl e, others y zs (omega arith))
  where
    by_case : (b : Bool) → (y == z) ≡ b → one b + times y zs ≡ 0 → eqb y z ≡ false
    by_case true is e = absurd (omega arith)
    by_case false is e = is

apart : (xs : List ℕ) → ((x : ℕ) → times x xs ≤ 1) → IsDistinct eqb xs
unfolding IsDistinct
apart [] once = tt
apart (y ∷ ys) once =
    IsDistinct-cons eqb y ys (others y ys (let o : one (y == y) + times y ys ≤ 1 = once y in let s = times_same y in omega arith))
    (apart ys (λ x. let o : one (x == y) + times x ys ≤ 1 = once x in omega arith))

among : (q : ℕ) (xs : List ℕ) → list_any (eqb q) xs ≡ true → Contains xs q
among q [] e = absurd (false≢true e)
among q (x ∷ xs) e = ⊎_elim (λ (here : eqb q x ≡ true). (0, omega arith, sym (eqb-true q x here)))
    (λ (there : list_any (eqb q) xs ≡ true). let c = among q xs there in (suc c.0, (let l = c.1 in omega arith), c.2))
    (or_cases (eqb q x) (list_any (eqb q) xs) e)

-- such numbers below n are at most n
pub short : (n : ℕ) (xs : List ℕ) → ((x : ℕ) → Contains xs x → x < n) → ((x : ℕ) → times x xs ≤ 1) → length xs ≤ n
short n xs below once = length-le_from_distinct_below xs n (apart xs once) (λ q any. below q (among q xs any))

none_by : (x : ℕ) (xs : List ℕ) → ¬ (Contains xs x) → times x xs ≡ 0
none_by x xs none = by_number (times x xs) refl
  where
    by_number : (n : ℕ) → times x xs ≡ n → times x xs ≡ 0
    by_number zero e = e
    by_number (suc n) e = absurd (none (place x xs (omega arith)))

-- one more number, which wasn't there
pub once_more : (xs : List ℕ) (p : ℕ) → ((x : ℕ) → times x xs ≤ 1) → ¬ (Contains xs p) → (x : ℕ) → times x (xs ++ p ∷ []) ≤ 1
once_more xs p once none x = by_case (x == p) refl
  where
    sum : times x (xs ++ p ∷ []) ≡ times x xs + times x (p ∷ [])
    sum = times-append x xs (p ∷ [])

    by_case : (b : Bool) → (x == p) ≡ b → times x (xs ++ p ∷ []) ≤ 1
    by_case true e =
        let n : times x xs ≡ 0 = ap (λ y. times y xs) (eqb-true x p e) ∙ none_by p xs none in
        let o : times x (p ∷ []) ≡ 1 + 0 = ap (λ b. one b + 0) e in let s = sum in omega arith
    by_case false e =
        let o : times x (p ∷ []) ≡ 0 + 0 = ap (λ b. one b + 0) e in let s = sum in let h = once x in omega arith
