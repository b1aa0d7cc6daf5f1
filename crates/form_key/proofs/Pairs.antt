-- Two codes to a byte: places, and the order.
use Rattle.std.proofs.Common.{◌≡◌, ℕ, zero, suc, ◌+◌, ◌*◌, ◌/◌, ◌%◌, ◌<◌, ◌≤◌, refl, sym, ◌∙◌, subst, arith, List, [], ◌∷◌, ◌++◌, length, take, slice_index, Bool, true, false, cond, eqb}
use Rattle.std.proofs.lemmas.List.{ext_get_or, take_more, take_all}
use Rattle.form_key.specs.Codes.{half_at, AreHalves}
use Rattle.form_key.specs.Packing.{paired}

pub length-paired : (xs : List ℕ) → length (paired xs) ≡ (length xs + 1) / 2
length-paired [] = refl
length-paired (x ∷ []) = refl
length-paired (x ∷ (y ∷ xs)) = let h : length (paired xs) ≡ (length xs + 1) / 2 = length-paired xs in omega arith

-- byte k has the codes 2 k and 2 k + 1
pub paired-at : (xs : List ℕ) (k : ℕ) → slice_index (paired xs) k ≡ slice_index xs (k + k) * 16 + slice_index xs (k + k + 1)
paired-at [] k = refl
paired-at (x ∷ []) zero = omega arith
paired-at (x ∷ []) (suc k) = let e : suc k + suc k ≡ suc (suc (k + k)) = omega arith in let f : suc k + suc k + 1 ≡ suc (suc (k + k + 1)) = omega arith in
    (λ i. slice_index (x ∷ []) (sym e i) * 16 + slice_index (x ∷ []) (sym f i))
paired-at (x ∷ (y ∷ xs)) zero = refl
paired-at (x ∷ (y ∷ xs)) (suc k) = let e : suc k + suc k ≡ suc (suc (k + k)) = omega arith in let f : suc k + suc k + 1 ≡ suc (suc (k + k + 1)) = omega arith in
    paired-at xs k ∙ (λ i. slice_index (x ∷ (y ∷ xs)) (sym e i) * 16 + slice_index (x ∷ (y ∷ xs)) (sym f i))

-- the codes stand in the halves of their bytes
same_either : (b : Bool) (x : ℕ) → cond b x x ≡ x
same_either true x = refl
same_either false x = refl

half_at-none : (k : ℕ) → half_at [] k ≡ 0
half_at-none k = same_either (eqb (k % 2) 0) 0

half_at-next : (b : ℕ) (bytes : List ℕ) (k : ℕ) → half_at (b ∷ bytes) (suc (suc k)) ≡ half_at bytes k
half_at-next b bytes k =
    let m : suc (suc k) % 2 ≡ k % 2 = omega arith in
    let d : suc (suc k) / 2 ≡ suc (k / 2) = omega arith in
    (λ i. cond (eqb (m i) 0) (slice_index (b ∷ bytes) (d i) / 16) (slice_index (b ∷ bytes) (d i) % 16))

pub half_at-paired : (xs : List ℕ) (k : ℕ) → AreHalves xs → half_at (paired xs) k ≡ slice_index xs k
half_at-paired [] k h = half_at-none k
half_at-paired (x ∷ []) zero h = omega arith
half_at-paired (x ∷ []) (suc zero) h = omega arith
half_at-paired (x ∷ []) (suc (suc k)) h = half_at-next (x * 16) [] k ∙ half_at-none k
half_at-paired (x ∷ (y ∷ xs)) zero h = let l : y < 16 = h 1 (omega arith) in omega arith
half_at-paired (x ∷ (y ∷ xs)) (suc zero) h = let l : y < 16 = h 1 (omega arith) in omega arith
half_at-paired (x ∷ (y ∷ xs)) (suc (suc k)) h = half_at-next (x * 16 + y) (paired xs) k ∙ half_at-paired xs k (λ j l. h (suc (suc j)) (omega arith))

-- so a list of halves is read off its bytes
pub halves_of_paired : (xs ys : List ℕ) (n : ℕ) → AreHalves xs → length xs ≡ n → length ys ≡ n
    → ((k : ℕ) → k < n → slice_index ys k ≡ half_at (paired xs) k) → xs ≡ ys
halves_of_paired xs ys n h a b same = ext_get_or 0 xs ys (a ∙ sym b) (λ k l. sym (half_at-paired xs k h) ∙ sym (same k (omega arith)))

-- one more byte, and all of them
pub paired_more : (xs bytes new : List ℕ) (at b : ℕ) → bytes ≡ take at (paired xs) → at < (length xs + 1) / 2
    → b ≡ slice_index xs (at + at) * 16 + slice_index xs (at + at + 1) → new ≡ bytes ++ b ∷ []
    → new ≡ take (at + 1) (paired xs)
paired_more xs bytes new at b so_far l is one =
    one ∙ (λ i. so_far i ++ (is ∙ sym (paired-at xs at)) i ∷ []) ∙ sym (take_more (paired xs) at 0 (subst (λ n. at < n) (sym (length-paired xs)) l))

pub paired_all : (xs bytes : List ℕ) (at : ℕ) → bytes ≡ take at (paired xs) → (length xs + 1) / 2 ≤ at → bytes ≡ paired xs
paired_all xs bytes at so_far l = so_far ∙ take_all at (paired xs) (subst (λ n. n ≤ at) (sym (length-paired xs)) l)
