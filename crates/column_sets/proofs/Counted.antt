-- Of at most 10 elements at most 252 sets have one size.
use Rattle.std.proofs.Common.{◌≡◌, ℕ, zero, suc, ◌+◌, ◌^◌, ◌<◌, ◌≤◌, refl, ◌∙◌, ap, arith, cond, true, inl, inr, eq-eqb, List, [], ◌∷◌, ◌++◌, length, length-append, add-one}
use Rattle.std.specs.Bool.{◌==◌, nat_le}
use Rattle.std.specs.Int.RustNames.{count_ones}
use Rattle.std.proofs.lemmas.Bool.{cases_lt}
use Rattle.std.proofs.lemmas.Bool.Decides.{nat_tests}
use Rattle.std.proofs.Math.Pow.{pow_mono}
use Rattle.matrix_lemmas.proofs.FieldLaws.{all_below, all_below-at}

-- how many masks below m have k ones
unfoldable pub sets_below : ℕ → ℕ → ℕ
sets_below zero k = 0
sets_below (suc m) k = sets_below m k + cond (count_ones m == k) 1 0

pub sets_none : (k : ℕ) → sets_below 0 k ≡ 0
unfolding sets_below
sets_none k = refl

pub sets_more : (m k : ℕ) → count_ones m ≡ k → sets_below (suc m) k ≡ sets_below m k + 1
unfolding sets_below
sets_more m k e = ap (λ b. sets_below m k + cond b 1 0) (eq-eqb (count_ones m) k e)

sets_grow : (m k : ℕ) → sets_below m k ≤ sets_below (suc m) k
unfolding sets_below
sets_grow m k = omega arith

pub sets_most : (m n k : ℕ) → m ≤ n → sets_below m k ≤ sets_below n k
sets_most m zero k l = let e : m ≡ 0 = omega arith in let h : sets_below m k ≡ sets_below 0 k = ap (λ x. sets_below x k) e in omega arith
sets_most m (suc n) k l =
    elim (cases_lt m (suc n)) [
      | inl b ↦ (let h : sets_below m k ≤ sets_below n k = sets_most m n k (omega arith) in
          let g : sets_below n k ≤ sets_below (suc n) k = sets_grow n k in omega arith)
      | inr g ↦ (let e : m ≡ suc n = omega arith in let h : sets_below m k ≡ sets_below (suc n) k = ap (λ x. sets_below x k) e in omega arith)
    ]

counted : all_below 11 (λ k. nat_le (sets_below 1024 k) 252) ≡ true
unfolding sets_below count_ones
counted = refl

test_le : (x y : ℕ) → nat_le x y ≡ true → x ≤ y
test_le x y h = grind (arith, nat_tests)

pub sets_few : (k : ℕ) → k ≤ 10 → sets_below 1024 k ≤ 252
sets_few k l = test_le (sets_below 1024 k) 252 (all_below-at 11 (λ k. nat_le (sets_below 1024 k) 252) counted k (omega arith))

-- there is room for one more mask with k ones
pub room : (n k set len : ℕ) → n ≤ 10 → k ≤ 10 → set < 2 ^ n → count_ones set ≡ k → len ≤ sets_below set k → len < 252
room n k set len small few below ones most =
    let p : 2 ^ n ≤ 2 ^ 10 = pow_mono small in
    let s : suc set ≤ 1024 = omega arith in
    let m : sets_below (suc set) k ≡ sets_below set k + 1 = sets_more set k ones in
    let g : sets_below (suc set) k ≤ sets_below 1024 k = sets_most (suc set) 1024 k s in
    let f : sets_below 1024 k ≤ 252 = sets_few k few in
    omega arith

-- a list that is no longer than there are sets, after the next mask
pub one_more_set : (k m : ℕ) (old new : List ℕ) → new ≡ old ++ m ∷ [] → count_ones m ≡ k → length old ≤ sets_below m k → length new ≤ sets_below (m + 1) k
one_more_set k m old new e ones few =
    let n : length new ≡ length old + 1 = ap (λ (v : List ℕ). length v) e ∙ length-append old (m ∷ []) in
    let s : sets_below (m + 1) k ≡ sets_below (suc m) k = ap (λ x. sets_below x k) (add-one m) in
    let t : sets_below (suc m) k ≡ sets_below m k + 1 = sets_more m k ones in
    omega arith

pub no_more_sets : (k m : ℕ) (old new : List ℕ) → new ≡ old → length old ≤ sets_below m k → length new ≤ sets_below (m + 1) k
no_more_sets k m old new e few =
    let n : length new ≡ length old = ap (λ (v : List ℕ). length v) e in
    let g : sets_below m k ≤ sets_below (m + 1) k = sets_most m (m + 1) k (omega arith) in
    omega arith
