-- How columns are counted: what the entries of each support come to.
use Rattle.std.proofs.Common.{◌≡◌, ◌∙◌, ℕ, zero, suc, ◌+◌, ◌-◌, ◌*◌, ◌^◌, ◌<◌, ◌≤◌, List, [], ◌∷◌, ◌++◌, map, length, take, refl, sym, ap, subst, arith, lit≤, lit<, add-one, ◌≢◌}
use Rattle.std.specs.Prelude.{sum, slice_index}
use Rattle.std.specs.List.{range_with_len}
use Rattle.std.proofs.Math.Nat.{mul-le-mul, pow-le-pow_left, pow-le-pow_right}
use Rattle.std.proofs.lemmas.Nat.{mul-pow}
use Rattle.std.proofs.lemmas.List.{take_more, map-append}
use Rattle.std.proofs.lemmas.List.FromFn.{map-range_with_len_more}
use Rattle.std.proofs.lemmas.List.Sums.{sum_by_push}
use Rattle.std.proofs.lemmas.Grind.{common_steps, pow_more}
use Rattle.matroid_theory.specs.Field.{IsOrder}
use Rattle.matrix_lemmas.proofs.FieldLaws.{by_order}
use Rattle.formats.specs.Request.{subsets, product_of}

-- how many columns have a support of so many rows
abbrev pub columns_of_support : ℕ → List ℕ → ℕ → ℕ
columns_of_support rank factors s = subsets rank s * product_of (map (λ q. (q - 1) ^ (s - 1)) factors)

one_pow : (k : ℕ) → 1 ^ k ≡ 1
one_pow zero = refl
one_pow (suc k) = let e = one_pow k in grind (arith, pow_more 1 k, add-one k)

-- a product of powers is the power of the product
pub product_powers : (k : ℕ) (xs : List ℕ) → product_of (map (λ q. (q - 1) ^ k) xs) ≡ product_of (map (λ q. q - 1) xs) ^ k
product_powers k [] = sym (one_pow k)
product_powers k (x ∷ xs) = ap (λ (n : ℕ). (x - 1) ^ k * n) (product_powers k xs) ∙ sym (mul-pow (x - 1) (product_of (map (λ q. q - 1) xs)) k)

product-append : (xs : List ℕ) (y : ℕ) → product_of (xs ++ y ∷ []) ≡ product_of xs * y
product-append [] y = omega arith
product-append (x ∷ xs) y = let e = product-append xs y in grind (arith, common_steps)

-- one factor more
pub product_more : (xs : List ℕ) (i : ℕ) → i < length xs →
    product_of (map (λ q. q - 1) (take (i + 1) xs)) ≡ product_of (map (λ q. q - 1) (take i xs)) * (slice_index xs i - 1)
product_more xs i l =
    ap (λ (ys : List ℕ). product_of (map (λ q. q - 1) ys)) (take_more xs i 0 l)
    ∙ ap product_of (map-append (λ (q : ℕ). q - 1) (take i xs) (slice_index xs i ∷ []))
    ∙ product-append (map (λ q. q - 1) (take i xs)) (slice_index xs i - 1)

-- a field has 2 to 13 elements
pub order_range : (q : ℕ) → IsOrder q → (2 ≤ q) × (q ≤ 13)
order_range =
    by_order (λ q. (2 ≤ q) × (q ≤ 13)) (lit≤ tt, lit≤ tt) (lit≤ tt, lit≤ tt) (lit≤ tt, lit≤ tt) (lit≤ tt, lit≤ tt) (lit≤ tt, lit≤ tt)
    (lit≤ tt, lit≤ tt) (lit≤ tt, lit≤ tt) (lit≤ tt, lit≤ tt) (lit≤ tt, lit≤ tt)

-- fields have at most 12 entries each that aren't 0
pub entries_few : (n i : ℕ) → n ≤ 12 ^ i → i ≤ 3 → n ≤ 1728
entries_few n i h l = let p : 12 ^ i ≤ 12 ^ 3 = pow-le-pow_right (lit< tt) l in omega arith

-- one support more
pub count_more : (rank : ℕ) (factors : List ℕ) (s : ℕ) →
    sum (map (columns_of_support rank factors) (range_with_len 1 (s + 1))) ≡ sum
    (map (columns_of_support rank factors) (range_with_len 1 s)) + subsets rank (s + 1) * product_of (map (λ q. q - 1) factors) ^ s
count_more rank factors s =
    let at : s + 1 - 1 ≡ s = omega arith in
    ap sum (map-range_with_len_more (columns_of_support rank factors) 1 s (s + 1) (omega arith))
    ∙ sum_by_push (λ (x : ℕ). x) (map (columns_of_support rank factors) (range_with_len 1 s)) (columns_of_support rank factors (s + 1))
    ∙ ap (λ (k : ℕ). sum (map (columns_of_support rank factors) (range_with_len 1 s)) + subsets rank (s + 1) * product_of (map (λ q. (q - 1) ^ k) factors)) at
    ∙ ap (λ (n : ℕ). sum (map (columns_of_support rank factors) (range_with_len 1 s)) + subsets rank (s + 1) * n) (product_powers s factors)

-- a power of at most 1728 entries is small
pub power_few : (s entries : ℕ) → s ≤ 5 → entries ≤ 1728 → entries ^ s ≤ 1728 ^ 5
power_few s entries l e =
    let p : entries ^ s ≤ 1728 ^ s = pow-le-pow_left e s in
    let q : 1728 ^ s ≤ 1728 ^ 5 = pow-le-pow_right (lit< tt) l in
    omega arith

-- what a support adds is at most 2^60
pub few_more : (s choices below entries : ℕ) → s ≤ 5 → choices ≤ 64 → below ≡ entries ^ s → entries ≤ 1728 → choices * below ≤ 2 ^ 60
few_more s choices below entries l c b e =
    let p : entries ^ s ≤ 1728 ^ 5 = power_few s entries l e in
    let r : below ≤ 1728 ^ 5 = omega arith in
    let q : choices * below ≤ 64 * 1728 ^ 5 = mul-le-mul c r in
    omega arith

-- one factor more, of at most 12 entries
pub twelve_more : (n m i : ℕ) → n ≤ 12 ^ i → m ≤ 12 → n * m ≤ 12 ^ (i + 1)
twelve_more n m i h l = let p : n * m ≤ 12 ^ i * 12 = mul-le-mul h l in omega (arith, pow_more 12 i)

-- the sets that have the first thing, and those that haven't
pub subsets_both : (n k a b : ℕ) → n ≢ 0 → k ≢ 0 → a ≡ subsets (n - 1) (k - 1) → b ≡ subsets (n - 1) k → a + b ≡ subsets n k
subsets_both zero k a b n_some k_some e f = absurd (n_some refl)
subsets_both (suc n) zero a b n_some k_some e f = absurd (k_some refl)
subsets_both (suc n) (suc k) a b n_some k_some e f =
    let m : suc n - 1 ≡ n = omega arith in
    let j : suc k - 1 ≡ k = omega arith in
    λ i. (e ∙ (λ t. subsets (m t) (j t))) i + (f ∙ (λ t. subsets (m t) (suc k))) i

pub two_more : (n a b : ℕ) → n ≢ 0 → a ≤ 2 ^ (n - 1) → b ≤ 2 ^ (n - 1) → a + b ≤ 2 ^ n
two_more zero a b n_some h l = absurd (n_some refl)
two_more (suc n) a b n_some h l =
    let m : suc n - 1 ≡ n = omega arith in
    let h' : a ≤ 2 ^ n = subst (λ (k : ℕ). a ≤ 2 ^ k) m h in
    let l' : b ≤ 2 ^ n = subst (λ (k : ℕ). b ≤ 2 ^ k) m l in
    let p : 2 ^ suc n ≡ 2 ^ n * 2 = ap (λ (k : ℕ). 2 ^ k) (sym (add-one n)) ∙ pow_more 2 n in
    omega arith

-- at rank 6 a support is chosen in at most 64 ways
pub choices_few : (choices rank : ℕ) → choices ≤ 2 ^ rank → rank ≤ 6 → choices ≤ 64
choices_few choices rank h l = let p : 2 ^ rank ≤ 2 ^ 6 = pow-le-pow_right (lit< tt) l in omega arith

-- one step of the count
pub count_step : (rank : ℕ) (factors : List ℕ) (s count choices below entries : ℕ) →
    count ≡ sum (map (columns_of_support rank factors) (range_with_len 1 s)) → choices ≡ subsets rank (s + 1) → below ≡ entries ^ s →
    entries ≡ product_of (map (λ q. q - 1) factors) →
    count + choices * below ≡ sum (map (columns_of_support rank factors) (range_with_len 1 (s + 1)))
count_step rank factors s count choices below entries c h b e =
    (λ i. c i + h i * (b ∙ (λ t. e t ^ s)) i) ∙ sym (count_more rank factors s)

pub few_step : (s count more : ℕ) → count ≤ s * 2 ^ 60 → more ≤ 2 ^ 60 → count + more ≤ (s + 1) * 2 ^ 60
few_step s count more h l = omega arith

pub sum_fits : (s count more : ℕ) → s ≤ 5 → count ≤ s * 2 ^ 60 → more ≤ 2 ^ 60 → count + more < 2 ^ 64
sum_fits s count more l h m = omega arith
