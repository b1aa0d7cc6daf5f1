-- The finite fields GF(q), seen by the codes of their elements.
--     The digits of a code in base p, lowest first, are the coefficients of a polynomial over the integers modulo p.
use Rattle.std.specs.Prelude.{ℕ, zero, suc, ◌+◌, ◌-◌, ◌*◌, ◌/◌, ◌%◌, ◌<◌, ◌≤◌, ◌≡◌, ◌≢◌, List, [], ◌∷◌, map, length, ◌==◌, if◌then◌else◌, slice_index}
use Rattle.std.specs.List.{Contains}

-- the orders of the fields
abbrev pub orders : List ℕ
orders = 2 ∷ 3 ∷ 4 ∷ 5 ∷ 7 ∷ 8 ∷ 9 ∷ 11 ∷ 13 ∷ []

-- q is the order of a field
pub record IsOrder (q : ℕ) : Type 0 where
  pub listed : Contains orders q

-- the p and the k of q = p^k
unfoldable pub characteristic : ℕ → ℕ
characteristic q = if q == 4 then 2 else (if q == 8 then 2 else (if q == 9 then 3 else q))

unfoldable pub degree : ℕ → ℕ
degree q = if q == 4 then 2 else (if q == 8 then 3 else (if q == 9 then 2 else 1))

-- what the power x^k is modulo the modulus, lowest coefficient first: x + 1 for x^2+x+1 and x^3+x+1, 2 for x^2+1
unfoldable pub remainder : ℕ → List ℕ
remainder q = if q == 4 then 1 ∷ 1 ∷ [] else (if q == 8 then 1 ∷ 1 ∷ 0 ∷ [] else (if q == 9 then 2 ∷ 0 ∷ [] else 0 ∷ []))

-- the k lowest digits of a number in base p, and the number of a list of digits
abbrev pub digits : ℕ → ℕ → ℕ → List ℕ
digits p zero a = []
digits p (suc k) a = a % p ∷ digits p k (a / p)

abbrev pub number : ℕ → List ℕ → ℕ
number p [] = 0
number p (d ∷ ds) = d + p * number p ds

-- the sum of polynomials over the integers modulo p, and a multiple of one
abbrev pub poly_plus : ℕ → List ℕ → List ℕ → List ℕ
poly_plus p [] ys = ys
poly_plus p (x ∷ xs) [] = x ∷ xs
poly_plus p (x ∷ xs) (y ∷ ys) = (x + y) % p ∷ poly_plus p xs ys

abbrev pub poly_scaled : ℕ → ℕ → List ℕ → List ℕ
poly_scaled p a xs = map (λ x. a * x % p) xs

-- the top coefficient, and a polynomial without it
abbrev pub top : List ℕ → ℕ
top [] = 0
top (x ∷ []) = x
top (x ∷ (y ∷ ys)) = top (y ∷ ys)

abbrev pub below_top : List ℕ → List ℕ
below_top [] = []
below_top (x ∷ []) = []
below_top (x ∷ (y ∷ ys)) = x ∷ below_top (y ∷ ys)

-- x times a polynomial of degree below k, reduced by the modulus
abbrev pub x_times : ℕ → List ℕ → List ℕ → List ℕ
x_times p rest xs = poly_plus p (0 ∷ below_top xs) (poly_scaled p (top xs) rest)

-- the product of two polynomials, reduced by the modulus: (a + x xs) ys = a ys + x (xs ys)
abbrev pub poly_times : ℕ → List ℕ → List ℕ → List ℕ → List ℕ
poly_times p rest [] ys = []
poly_times p rest (x ∷ []) ys = poly_scaled p x ys
poly_times p rest (x ∷ (x' ∷ xs)) ys = poly_plus p (poly_scaled p x ys) (x_times p rest (poly_times p rest (x' ∷ xs) ys))

-- the polynomial of a code
unfoldable pub poly : ℕ → ℕ → List ℕ
poly q a = digits (characteristic q) (degree q) a

-- the sum and the product of two elements
unfoldable pub plus : ℕ → ℕ → ℕ → ℕ
plus q a b = number (characteristic q) (poly_plus (characteristic q) (poly q a) (poly q b))

unfoldable pub times : ℕ → ℕ → ℕ → ℕ
times q a b = number (characteristic q) (poly_times (characteristic q) (remainder q) (poly q a) (poly q b))

-- the polynomial of c is the sum of those of a and b
pub record IsSum (q a b c : ℕ) : Type 0 where
  pub equal : poly q c ≡ poly_plus (characteristic q) (poly q a) (poly q b)

-- the modulus, lowest coefficient first: x^2+x+1, x^3+x+1 and x^2+1, and x for the residues
unfoldable pub modulus : ℕ → List ℕ
modulus q = if q == 4 then 1 ∷ 1 ∷ 1 ∷ [] else (if q == 8 then 1 ∷ 1 ∷ 0 ∷ 1 ∷ [] else (if q == 9 then 1 ∷ 0 ∷ 1 ∷ [] else 0 ∷ 1 ∷ []))

-- the product of polynomials, not reduced
abbrev pub poly_product : ℕ → List ℕ → List ℕ → List ℕ
poly_product p [] ys = []
poly_product p (x ∷ xs) ys = poly_plus p (poly_scaled p x ys) (0 ∷ poly_product p xs ys)

-- the numbers of the product of the polynomials of a and b, and of the polynomial of c plus m times the modulus
unfoldable pub product_number : ℕ → ℕ → ℕ → ℕ
product_number q a b = number (characteristic q) (poly_product (characteristic q) (poly q a) (poly q b))

unfoldable pub multiple_number : ℕ → ℕ → ℕ → ℕ
multiple_number q c m = number (characteristic q) (poly_plus (characteristic q) (poly q c) (poly_product (characteristic q) (poly q m) (modulus q)))

-- the polynomial of c differs from the product of those of a and b by a multiple of the modulus
pub record IsProduct (q a b c : ℕ) : Type 0 where
  pub factor : ℕ
  pub factor_below : factor < q
  pub equal : product_number q a b ≡ multiple_number q c factor

-- a power of an element
abbrev pub power : ℕ → ℕ → ℕ → ℕ
power q a zero = 1
power q a (suc n) = times q a (power q a n)

-- the element that a sum with a is 0 for, and the one that a product with a is 1 for, if a isn't 0
unfoldable pub negative : ℕ → ℕ → ℕ
negative q a = times q (characteristic q - 1) a

unfoldable pub inverse : ℕ → ℕ → ℕ
inverse q a = power q a (q - 2)

-- the field automorphism that raises to the power of the characteristic
unfoldable pub frobenius : ℕ → ℕ → ℕ
frobenius q a = power q a (characteristic q)

-- an element raised t times to the power of the characteristic
abbrev pub raised : ℕ → ℕ → ℕ → ℕ
raised q zero a = a
raised q (suc t) a = frobenius q (raised q t a)

-- the laws of a field. A code that isn't below q counts as its remainder, so most laws need no bound
pub record IsField (q : ℕ) : Type 0 where
  pub two : 1 < q
  pub degree_positive : 0 < degree q
  pub plus_below : (a b : ℕ) → plus q a b < q
  pub plus_comm : (a b : ℕ) → plus q a b ≡ plus q b a
  pub plus_assoc : (a b c : ℕ) → plus q (plus q a b) c ≡ plus q a (plus q b c)
  pub plus_zero : (a : ℕ) → a < q → plus q 0 a ≡ a
  pub negative_below : (a : ℕ) → negative q a < q
  pub plus_negative : (a : ℕ) → plus q a (negative q a) ≡ 0
  pub times_below : (a b : ℕ) → times q a b < q
  pub times_comm : (a b : ℕ) → times q a b ≡ times q b a
  pub times_assoc : (a b c : ℕ) → times q (times q a b) c ≡ times q a (times q b c)
  pub times_one : (a : ℕ) → a < q → times q 1 a ≡ a
  pub times_plus : (a b c : ℕ) → times q a (plus q b c) ≡ plus q (times q a b) (times q a c)
  pub inverse_below : (a : ℕ) → a < q → inverse q a < q
  pub times_inverse : (a : ℕ) → a < q → a ≢ 0 → times q a (inverse q a) ≡ 1
  pub frobenius_below : (a : ℕ) → frobenius q a < q
  pub frobenius_plus : (a b : ℕ) → frobenius q (plus q a b) ≡ plus q (frobenius q a) (frobenius q b)
  pub frobenius_times : (a b : ℕ) → frobenius q (times q a b) ≡ times q (frobenius q a) (frobenius q b)
  pub frobenius_one : frobenius q 1 ≡ 1
  pub frobenius_cycle : (a : ℕ) → a < q → raised q (degree q) a ≡ a

-- the orders of one to three fields
pub record IsFactors (orders : List ℕ) : Type 0 where
  pub some : 0 < length orders
  pub few : length orders ≤ 3
  pub fields : (f : ℕ) → f < length orders → IsOrder (slice_index orders f)
