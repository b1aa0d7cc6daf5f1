-- Columns as numbers in base 16: they are in the order of their numbers.
use Rattle.std.proofs.Common.{◌≡◌, ◌≢◌, ℕ, zero, suc, ◌+◌, ◌*◌, ◌/◌, ◌%◌, ◌^◌, ◌<◌, ◌≤◌, refl, sym, ◌∙◌, ap, subst, arith, List, [], ◌∷◌, length, slice_index, inl, inr, lit<}
use Rattle.std.specs.Cmp.Lexicographic.{slice_cmp}
use Rattle.std.specs.Ordering.{nat_cmp, ordering_then, MatchOrdering}
use Rattle.std.specs.declared.cmp.Ordering.{Ordering}
use Rattle.std.specs.declared.cmp.Ordering.TheVariants.{Less, Equal, Greater}
use Rattle.std.proofs.lemmas.Bool.{cases_lt}
use Rattle.std.proofs.lemmas.Cmp.{ranked}
use Rattle.std.proofs.Math.Nat.{mul-le-mul, le_refl, pow-succ'}
use Rattle.std.proofs.lemmas.Nat.{div-mul-add, mod-mul-add}
use Rattle.matroid_laws.proofs.First.{digit_less}
use Rattle.form_trails.specs.Numbers.{value, weighed, weighed_on}

-- each code is a digit
abbrev pub AreDigits : List ℕ → Type 0
AreDigits xs = (p : ℕ) → p < length xs → slice_index xs p < 16

pub rest_digits : (x : ℕ) (xs : List ℕ) → AreDigits (x ∷ xs) → AreDigits xs
rest_digits x xs h p l = h (suc p) (omega arith)

-- one digit more
digit_below : (x n v : ℕ) → x < 16 → v < n → x * n + v < 16 * n
digit_below x n v l m = let h : suc x * n ≤ 16 * n = mul-le-mul (let k : suc x ≤ 16 = omega arith in k) (le_refl n) in omega arith

pub value_below : (xs : List ℕ) → AreDigits xs → value xs < 16 ^ length xs
value_below [] h = lit< tt
value_below (x ∷ xs) h = subst (λ (n : ℕ). x * 16 ^ length xs + value xs < n) (sym (pow-succ' 16 (length xs)))
    (digit_below x (16 ^ length xs) (value xs) (h 0 (omega arith)) (value_below xs (rest_digits x xs h)))

-- the order of columns of one length is that of their values
pub value_ranked : (xs ys : List ℕ) → AreDigits xs → AreDigits ys → length xs ≡ length ys →
    MatchOrdering (slice_cmp nat_cmp xs ys) (value xs < value ys) (value xs ≡ value ys) (value ys < value xs)
value_ranked [] [] h g e = refl
value_ranked [] (y ∷ ys) h g e = absurd (omega arith)
value_ranked (x ∷ xs) [] h g e = absurd (omega arith)
value_ranked (x ∷ xs) (y ∷ ys) h g e = both (nat_cmp x y) (slice_cmp nat_cmp xs ys) (ranked x y (nat_cmp x y) refl)
    (value_ranked xs ys (rest_digits x xs h) (rest_digits y ys g) as_long)
  where
    as_long : length xs ≡ length ys
    as_long = omega arith

    n : 16 ^ length xs ≡ 16 ^ length ys
    n = ap (λ k. 16 ^ k) as_long

    both : (o p : Ordering) → MatchOrdering o (x < y) (x ≡ y) (y < x) → MatchOrdering p (value xs < value ys) (value xs ≡ value ys) (value ys < value xs)
        → MatchOrdering (ordering_then o p) (value (x ∷ xs) < value (y ∷ ys)) (value (x ∷ xs) ≡ value (y ∷ ys)) (value (y ∷ ys) < value (x ∷ xs))
    both Less p a b = subst (λ (k : ℕ). x * 16 ^ length xs + value xs < y * k + value ys) n
        (digit_less x y (16 ^ length xs) (value xs) (value ys) a (value_below xs (rest_digits x xs h)))
    both Equal Less a b = let t : x * 16 ^ length xs ≡ y * 16 ^ length ys = (λ i. a i * n i) in omega arith
    both Equal Equal a b = let t : x * 16 ^ length xs ≡ y * 16 ^ length ys = (λ i. a i * n i) in omega arith
    both Equal Greater a b = let t : x * 16 ^ length xs ≡ y * 16 ^ length ys = (λ i. a i * n i) in omega arith
    both Greater p a b = subst (λ (k : ℕ). y * k + value ys < x * 16 ^ length xs + value xs) n
        (subst (λ (k : ℕ). y * 16 ^ length xs + value ys < x * k + value xs) refl
        (digit_less y x (16 ^ length xs) (value ys) (value xs) a (subst (λ (k : ℕ). value ys < k) (sym n) (value_below ys (rest_digits y ys g)))))

at_most_ranked : (o : Ordering) (a b : ℕ) → MatchOrdering o (a < b) (a ≡ b) (b < a) → o ≢ Greater → a ≤ b
at_most_ranked Less a b h n = omega arith
at_most_ranked Equal a b h n = omega arith
at_most_ranked Greater a b h n = absurd (n refl)

pub value_at_most : (xs ys : List ℕ) → AreDigits xs → AreDigits ys → length xs ≡ length ys → slice_cmp nat_cmp xs ys ≢ Greater → value xs ≤ value ys
value_at_most xs ys h g e = at_most_ranked (slice_cmp nat_cmp xs ys) (value xs) (value ys) (value_ranked xs ys h g e)

same_order : (o p : Ordering) (a b : ℕ) → MatchOrdering o (a < b) (a ≡ b) (b < a) → MatchOrdering p (a < b) (a ≡ b) (b < a) → o ≡ p
same_order Less Less a b h g = refl
same_order Less Equal a b h g = absurd (omega arith)
same_order Less Greater a b h g = absurd (omega arith)
same_order Equal Less a b h g = absurd (omega arith)
same_order Equal Equal a b h g = refl
same_order Equal Greater a b h g = absurd (omega arith)
same_order Greater Less a b h g = absurd (omega arith)
same_order Greater Equal a b h g = absurd (omega arith)
same_order Greater Greater a b h g = refl

pub value_cmp : (xs ys : List ℕ) → AreDigits xs → AreDigits ys → length xs ≡ length ys → slice_cmp nat_cmp xs ys ≡ nat_cmp (value xs) (value ys)
value_cmp xs ys h g e = same_order (slice_cmp nat_cmp xs ys) (nat_cmp (value xs) (value ys)) (value xs) (value ys)
    (value_ranked xs ys h g e) (ranked (value xs) (value ys) (nat_cmp (value xs) (value ys)) refl)

-- equal values have equal codes
pub value_same : (xs ys : List ℕ) → AreDigits xs → AreDigits ys → length xs ≡ length ys → value xs ≡ value ys → xs ≡ ys
value_same [] [] h g e v = refl
value_same [] (y ∷ ys) h g e v = absurd (omega arith)
value_same (x ∷ xs) [] h g e v = absurd (omega arith)
value_same (x ∷ xs) (y ∷ ys) h g e v =
    let m : length xs ≡ length ys = omega arith in
    let n : 16 ^ length xs ≡ 16 ^ length ys = ap (λ k. 16 ^ k) m in
    let first : x ≡ y = heads n in
    let t : x * 16 ^ length xs ≡ y * 16 ^ length ys = (λ i. first i * n i) in
    let rest : value xs ≡ value ys = omega arith in
    λ i. first i ∷ value_same xs ys (rest_digits x xs h) (rest_digits y ys g) m rest i
  where
    heads : 16 ^ length xs ≡ 16 ^ length ys → x ≡ y
    heads n = elim (cases_lt x y) [
      | inl l ↦ (let k : x * 16 ^ length xs + value xs < y * 16 ^ length xs + value ys = digit_less x y (16 ^ length xs) (value xs)
          (value ys) l (value_below xs (rest_digits x xs h)) in
          let t : y * 16 ^ length xs ≡ y * 16 ^ length ys = ap (λ k. y * k) n in absurd (omega arith))
      | inr u ↦ elim (cases_lt y x) [
        | inl l ↦ (let k : y * 16 ^ length ys + value ys < x * 16 ^ length ys + value xs = digit_less y x (16 ^ length ys)
            (value ys) (value xs) l (value_below ys (rest_digits y ys g)) in
            let t : x * 16 ^ length xs ≡ x * 16 ^ length ys = ap (λ k. x * k) n in absurd (omega arith))
        | inr w ↦ omega arith
      ]
    ]

-- ---- places

-- a code that isn't 0 at place p
pub value_from : (p n : ℕ) (xs : List ℕ) → p + n < length xs → length xs ≡ p + (n + 1) → slice_index xs p ≢ 0 → 16 ^ n ≤ value xs
value_from zero n [] l e h = absurd (omega arith)
value_from (suc p) n [] l e h = absurd (omega arith)
value_from zero n (x ∷ xs) l e h =
    let m : length xs ≡ n = omega arith in
    let k : 1 * 16 ^ length xs ≤ x * 16 ^ length xs = mul-le-mul (let k : 1 ≤ x = omega arith in k) (le_refl (16 ^ length xs)) in
    let t : 16 ^ length xs ≡ 16 ^ n = ap (λ k. 16 ^ k) m in omega arith
value_from (suc p) n (x ∷ xs) l e h = let k : 16 ^ n ≤ value xs = value_from p n xs (omega arith) (omega arith) h in omega arith

-- codes that are 0 before place p
pub value_within : (p n : ℕ) (xs : List ℕ) → AreDigits xs → length xs ≡ p + n → ((e : ℕ) → e < p → slice_index xs e ≡ 0) → value xs < 16 ^ n
value_within zero n xs h e z = let m : length xs ≡ n = omega arith in subst (λ (k : ℕ). value xs < 16 ^ k) m (value_below xs h)
value_within (suc p) n [] h e z = absurd (omega arith)
value_within (suc p) n (x ∷ xs) h e z =
    let k : value xs < 16 ^ n = value_within p n xs (rest_digits x xs h) (omega arith) (λ j l. z (suc j) (omega arith)) in
    let f : x ≡ 0 = z 0 (omega arith) in
    let t : x * 16 ^ length xs ≡ 0 * 16 ^ length xs = ap (λ y. y * 16 ^ length xs) f in omega arith

-- ---- digit by digit

weighed_first : (d : ℕ → ℕ) (n : ℕ) → weighed d (suc n) ≡ d 0 * 16 ^ n + weighed (λ k. d (suc k)) n
weighed_first d zero = omega arith
weighed_first d (suc n) =
    let h : weighed d (suc n) ≡ d 0 * 16 ^ n + weighed (λ k. d (suc k)) n = weighed_first d n in
    let p : 16 ^ suc n ≡ 16 * 16 ^ n = pow-succ' 16 n in
    let t : d 0 * 16 ^ suc n ≡ d 0 * (16 * 16 ^ n) = ap (λ k. d 0 * k) p in omega arith

pub weighed_same : (d e : ℕ → ℕ) (n : ℕ) → ((k : ℕ) → k < n → d k ≡ e k) → weighed d n ≡ weighed e n
weighed_same d e zero h = refl
weighed_same d e (suc n) h = λ i. weighed_same d e n (λ k l. h k (omega arith)) i * 16 + h n (omega arith) i

pub value-weighed : (xs : List ℕ) → value xs ≡ weighed (slice_index xs) (length xs)
value-weighed [] = refl
value-weighed (x ∷ xs) = ap (λ v. x * 16 ^ length xs + v) (value-weighed xs) ∙ sym (weighed_first (slice_index (x ∷ xs)) (length xs))

-- numbers with one number have the same digits
pub weighed_injective : (d e : ℕ → ℕ) (n : ℕ) → ((k : ℕ) → k < n → d k < 16) → ((k : ℕ) → k < n → e k < 16) →
    weighed d n ≡ weighed e n → (k : ℕ) → k < n → d k ≡ e k
weighed_injective d e zero a b h k l = absurd (omega arith)
weighed_injective d e (suc n) a b h k l =
    let x : d n < 16 = a n (omega arith) in
    let y : e n < 16 = b n (omega arith) in
    let last : d n ≡ e n = omega arith in
    let rest : weighed d n ≡ weighed e n = omega arith in
    elim (cases_lt k n) [
      | inl q ↦ weighed_injective d e n (λ k l. a k (omega arith)) (λ k l. b k (omega arith)) rest k q
      | inr q ↦ (let z : n ≡ k = omega arith in ap d (sym z) ∙ last ∙ ap e z)
    ]

-- ---- row by row

weighed_add : (d : ℕ → ℕ) (m n : ℕ) → weighed d (m + n) ≡ weighed_on (weighed d m) (λ k. d (m + k)) n
weighed_add d m zero = let e : m + 0 ≡ m = omega arith in ap (weighed d) e
weighed_add d m (suc n) = (let e : m + suc n ≡ suc (m + n) = omega arith in ap (weighed d) e) ∙ ap (λ v. v * 16 + d (m + n)) (weighed_add d m n)

weighed_on_same : (v : ℕ) (d e : ℕ → ℕ) (n : ℕ) → ((k : ℕ) → k < n → d k ≡ e k) → weighed_on v d n ≡ weighed_on v e n
weighed_on_same v d e zero h = refl
weighed_on_same v d e (suc n) h = λ i. weighed_on_same v d e n (λ k l. h k (omega arith)) i * 16 + h n (omega arith) i

-- one more row of codes
pub weighed_row : (c : ℕ → ℕ → ℕ) (count i : ℕ) →
    weighed (λ e. c (e % count) (e / count)) ((i + 1) * count) ≡ weighed_on (weighed (λ e. c (e % count) (e / count)) (i * count))
    (λ f. c f i) count
weighed_row c count i =
    (let e : (i + 1) * count ≡ i * count + count = omega arith in ap (weighed (λ e. c (e % count) (e / count))) e)
    ∙ weighed_add (λ e. c (e % count) (e / count)) (i * count) count
    ∙ weighed_on_same (weighed (λ e. c (e % count) (e / count)) (i * count)) (λ k. c ((i * count + k) % count) ((i * count + k) / count)) (λ f. c f i) count
    (λ k l. (λ t. c (mod-mul-add i count k l t) (div-mul-add i count k l t)))

-- ---- a digit of a number

weighed_split : (d : ℕ → ℕ) (a b : ℕ) → weighed d (a + b) ≡ weighed d a * 16 ^ b + weighed (λ k. d (a + k)) b
weighed_split d a zero = (let e : a + 0 ≡ a = omega arith in ap (weighed d) e) ∙ omega arith
weighed_split d a (suc b) =
    let h : weighed d (a + b) ≡ weighed d a * 16 ^ b + weighed (λ k. d (a + k)) b = weighed_split d a b in
    let p : 16 ^ suc b ≡ 16 * 16 ^ b = pow-succ' 16 b in
    let t : weighed d a * 16 ^ suc b ≡ weighed d a * (16 * 16 ^ b) = ap (λ k. weighed d a * k) p in
    (let e : a + suc b ≡ suc (a + b) = omega arith in ap (weighed d) e) ∙ omega arith

weighed_below : (d : ℕ → ℕ) (n : ℕ) → ((k : ℕ) → k < n → d k < 16) → weighed d n < 16 ^ n
weighed_below d zero h = lit< tt
weighed_below d (suc n) h =
    let l : weighed d n < 16 ^ n = weighed_below d n (λ k m. h k (omega arith)) in
    let x : d n < 16 = h n (omega arith) in
    let p : 16 ^ suc n ≡ 16 * 16 ^ n = pow-succ' 16 n in omega arith

pub digit_of : (d : ℕ → ℕ) (n e m : ℕ) → ((k : ℕ) → k < n → d k < 16) → e < n → n ≡ suc e + m → weighed d n / 16 ^ m % 16 ≡ d e
digit_of d n e m h l z =
    ap (λ n. weighed d n / 16 ^ m % 16) z
    ∙ ap (λ v. v / 16 ^ m % 16) (weighed_split d (suc e) m)
    ∙ ap (λ v. v % 16) (div-mul-add (weighed d (suc e)) (16 ^ m) (weighed (λ k. d (suc e + k)) m)
    (weighed_below (λ k. d (suc e + k)) m (λ k b. h (suc e + k) (omega arith))))
    ∙ mod-mul-add (weighed d e) 16 (d e) (h e l)
