-- The laws of the fields, by one test over each whole table.
use Rattle.std.proofs.Common.{◌≡◌, ◌≢◌, ℕ, zero, suc, ◌-◌, ◌/◌, ◌%◌, ◌<◌, ◌≤◌, refl, sym, ◌∙◌, ap, subst, [], ◌∷◌, Bool, true, false, not, ◌&&◌, ◌||◌, arith, inl, inr, eqb-true, lit<, lit≤}
use Rattle.std.specs.Bool.{◌==◌, nat_lt}
use Rattle.std.specs.List.{slice_index_or}
use Rattle.std.proofs.lemmas.Bool.{cases_lt, or_cases}
use Rattle.std.proofs.Math.Nat.{mod-mod, mod-lt}
use borrow.Author.Tests.{ltb-true}
use Rattle.matroid_theory.specs.Field.{orders, IsOrder, plus, times, poly, characteristic, degree, remainder, negative, inverse, power, frobenius, IsField, raised, digits, number, poly_plus, poly_times}

-- a test of each number below n
abbrev pub all_below : ℕ → (ℕ → Bool) → Bool
all_below zero p = true
all_below (suc n) p = p n && all_below n p

pub both_left : (a b : Bool) → (a && b) ≡ true → a ≡ true
both_left true b h = refl
both_left false b h = cc

pub both_right : (a b : Bool) → (a && b) ≡ true → b ≡ true
both_right true b h = h
both_right false b h = cc

pub all_below-at : (n : ℕ) (p : ℕ → Bool) → all_below n p ≡ true → (i : ℕ) → i < n → p i ≡ true
all_below-at zero p h i l = absurd (omega arith)
all_below-at (suc n) p h i l =
    elim (cases_lt i n) [
      | inl b ↦ all_below-at n p (both_right (p n) _ h) i b
      | inr g ↦ (let e : i ≡ n = omega arith in rw e (both_left (p n) _ h))
    ]

-- a test that fails isn't passed, and one whose negation passes fails
pub no_way : (b : Bool) → b ≡ true → not b ≡ true → ⊥
no_way true h g = cc
no_way false h g = cc

pub off_from_not : (b : Bool) → not b ≡ true → b ≡ false
off_from_not true e = sym e
off_from_not false e = refl

-- what holds at each order holds at every one
pub by_order : (P : ℕ → Type 0) → P 2 → P 3 → P 4 → P 5 → P 7 → P 8 → P 9 → P 11 → P 13 → (q : ℕ) → IsOrder q → P q
by_order P a b c d e f g h i q o = let m = o.listed in at m.0 m.1 m.2
  where
    at : (k : ℕ) → k < 9 → slice_index_or orders k q ≡ q → P q
    at zero l w = subst P w a
    at (suc zero) l w = subst P w b
    at (suc (suc zero)) l w = subst P w c
    at (suc (suc (suc zero))) l w = subst P w d
    at (suc (suc (suc (suc zero)))) l w = subst P w e
    at (suc (suc (suc (suc (suc zero))))) l w = subst P w f
    at (suc (suc (suc (suc (suc (suc zero)))))) l w = subst P w g
    at (suc (suc (suc (suc (suc (suc (suc zero))))))) l w = subst P w h
    at (suc (suc (suc (suc (suc (suc (suc (suc zero)))))))) l w = subst P w i
    at (suc (suc (suc (suc (suc (suc (suc (suc (suc k))))))))) l w = absurd (omega arith)

-- tests of each code, each pair and each triple of codes
abbrev pub each : ℕ → (ℕ → Bool) → Bool
each q p = all_below q p

abbrev pub each_pair : ℕ → (ℕ → ℕ → Bool) → Bool
each_pair q p = all_below q (λ a. all_below q (λ b. p a b))

abbrev each_triple : ℕ → (ℕ → ℕ → ℕ → Bool) → Bool
each_triple q p = all_below q (λ a. all_below q (λ b. all_below q (λ c. p a b c)))

pub at_pair : (q : ℕ) (p : ℕ → ℕ → Bool) → each_pair q p ≡ true → (a b : ℕ) → a < q → b < q → p a b ≡ true
at_pair q p h a b l m = all_below-at q (p a) (all_below-at q (λ x. all_below q (p x)) h a l) b m

at_triple : (q : ℕ) (p : ℕ → ℕ → ℕ → Bool) → each_triple q p ≡ true → (a b c : ℕ) → a < q → b < q → c < q → p a b c ≡ true
at_triple q p h a b c l m n =
    all_below-at q (p a b) (all_below-at q (λ x. all_below q (p a x)) (all_below-at q (λ x. all_below q (λ y. all_below q (p x y))) h a l) b m) c n

-- the tables' tests, each computed by the checker
plus_below-test : (q : ℕ) → IsOrder q → each_pair q (λ a b. nat_lt (plus q a b) q) ≡ true
unfolding plus poly characteristic degree remainder
plus_below-test = by_order (λ q. each_pair q (λ a b. nat_lt (plus q a b) q) ≡ true) refl refl refl refl refl refl refl refl refl

times_below-test : (q : ℕ) → IsOrder q → each_pair q (λ a b. nat_lt (times q a b) q) ≡ true
unfolding times poly characteristic degree remainder
times_below-test = by_order (λ q. each_pair q (λ a b. nat_lt (times q a b) q) ≡ true) refl refl refl refl refl refl refl refl refl

plus_comm-test : (q : ℕ) → IsOrder q → each_pair q (λ a b. plus q a b == plus q b a) ≡ true
unfolding plus poly characteristic degree remainder
plus_comm-test = by_order (λ q. each_pair q (λ a b. plus q a b == plus q b a) ≡ true) refl refl refl refl refl refl refl refl refl

times_comm-test : (q : ℕ) → IsOrder q → each_pair q (λ a b. times q a b == times q b a) ≡ true
unfolding times poly characteristic degree remainder
times_comm-test = by_order (λ q. each_pair q (λ a b. times q a b == times q b a) ≡ true) refl refl refl refl refl refl refl refl refl

plus_assoc-test : (q : ℕ) → IsOrder q → each_triple q (λ a b c. plus q (plus q a b) c == plus q a (plus q b c)) ≡ true
unfolding plus poly characteristic degree remainder
plus_assoc-test = by_order (λ q. each_triple q (λ a b c. plus q (plus q a b) c == plus q a (plus q b c)) ≡ true) refl refl refl refl refl refl refl refl refl

times_assoc-test : (q : ℕ) → IsOrder q → each_triple q (λ a b c. times q (times q a b) c == times q a (times q b c)) ≡ true
unfolding times poly characteristic degree remainder
times_assoc-test = by_order (λ q. each_triple q (λ a b c. times q (times q a b) c == times q a (times q b c)) ≡ true) refl refl refl
    refl refl refl refl refl refl

times_plus-test : (q : ℕ) → IsOrder q → each_triple q (λ a b c. times q a (plus q b c) == plus q (times q a b) (times q a c)) ≡ true
unfolding plus times poly characteristic degree remainder
times_plus-test = by_order (λ q. each_triple q (λ a b c. times q a (plus q b c) == plus q (times q a b) (times q a c)) ≡ true) refl
    refl refl refl refl refl refl refl refl

-- the laws that speak of one code
abbrev one_code : ℕ → ℕ → Bool
one_code q a =
    (plus q 0 a == a) && ((times q 1 a == a) && (nat_lt (negative q a) q && ((plus q a (negative q a) == 0)
    && (nat_lt (inverse q a) q && ((a == 0) || (times q a (inverse q a) == 1))))))

one_code-test : (q : ℕ) → IsOrder q → each q (one_code q) ≡ true
unfolding plus times negative inverse poly characteristic degree remainder
one_code-test = by_order (λ q. each q (one_code q) ≡ true) refl refl refl refl refl refl refl refl refl

frobenius-test : (q : ℕ) → IsOrder q →
    each_pair q (λ a b. (frobenius q (plus q a b) == plus q (frobenius q a) (frobenius q b)) &&
    ((frobenius q (times q a b) == times q (frobenius q a) (frobenius q b)) && nat_lt (frobenius q a) q)) ≡ true
unfolding plus times frobenius poly characteristic degree remainder
frobenius-test = by_order
    (λ q. each_pair q (λ a b. (frobenius q (plus q a b) == plus q (frobenius q a) (frobenius q b)) &&
    ((frobenius q (times q a b) == times q (frobenius q a) (frobenius q b)) && nat_lt (frobenius q a) q)) ≡ true) refl refl refl refl
    refl refl refl refl refl

frobenius_one-test : (q : ℕ) → IsOrder q → frobenius q 1 ≡ 1
unfolding times frobenius poly characteristic degree remainder
frobenius_one-test = by_order (λ q. frobenius q 1 ≡ 1) refl refl refl refl refl refl refl refl refl

frobenius_cycle-test : (q : ℕ) → IsOrder q → each q (λ a. raised q (degree q) a == a) ≡ true
unfolding times frobenius poly characteristic degree remainder
frobenius_cycle-test = by_order (λ q. each q (λ a. raised q (degree q) a == a) ≡ true) refl refl refl refl refl refl refl refl refl

-- a code that isn't below q counts as its remainder
poly-mod : (q : ℕ) → IsOrder q → (a : ℕ) → poly q (a % q) ≡ poly q a
unfolding poly characteristic degree
poly-mod = by_order (λ q. (a : ℕ) → poly q (a % q) ≡ poly q a) (one 2) (one 3) four (one 5) (one 7) eight nine (one 11) (one 13)
  where
    one : (p a : ℕ) → digits p 1 (a % p) ≡ digits p 1 a
    one p a = ap (λ d. d ∷ []) (mod-mod a p)

    four : (a : ℕ) → digits 2 2 (a % 4) ≡ digits 2 2 a
    four a = let d0 : a % 4 % 2 ≡ a % 2 = omega arith in let d1 : a % 4 / 2 % 2 ≡ a / 2 % 2 = omega arith in λ i. d0 i ∷ d1 i ∷ []

    eight : (a : ℕ) → digits 2 3 (a % 8) ≡ digits 2 3 a
    eight a =
        let d0 : a % 8 % 2 ≡ a % 2 = omega arith in
        let d1 : a % 8 / 2 % 2 ≡ a / 2 % 2 = omega arith in
        let d2 : a % 8 / 2 / 2 % 2 ≡ a / 2 / 2 % 2 = omega arith in
        λ i. d0 i ∷ d1 i ∷ d2 i ∷ []

    nine : (a : ℕ) → digits 3 2 (a % 9) ≡ digits 3 2 a
    nine a = let d0 : a % 9 % 3 ≡ a % 3 = omega arith in let d1 : a % 9 / 3 % 3 ≡ a / 3 % 3 = omega arith in λ i. d0 i ∷ d1 i ∷ []

positive : (q : ℕ) → IsOrder q → 1 < q
positive = by_order (λ q. 1 < q) (lit< tt) (lit< tt) (lit< tt) (lit< tt) (lit< tt) (lit< tt) (lit< tt) (lit< tt) (lit< tt)

-- no order is above 13
pub order_most : (q : ℕ) → IsOrder q → q ≤ 13
order_most = by_order (λ q. q ≤ 13) (lit≤ tt) (lit≤ tt) (lit≤ tt) (lit≤ tt) (lit≤ tt) (lit≤ tt) (lit≤ tt) (lit≤ tt) (lit≤ tt)

has_degree : (q : ℕ) → IsOrder q → 0 < degree q
unfolding degree
has_degree = by_order (λ q. 0 < degree q) (lit< tt) (lit< tt) (lit< tt) (lit< tt) (lit< tt) (lit< tt) (lit< tt) (lit< tt) (lit< tt)

module _ (q : ℕ) (o : IsOrder q) where
  below : (a : ℕ) → a % q < q
  below a = let h : 1 < q = positive q o in mod-lt a (omega arith)

  plus-mod : (a b : ℕ) → plus q (a % q) (b % q) ≡ plus q a b
  unfolding plus
  plus-mod a b = λ i. number (characteristic q) (poly_plus (characteristic q) (poly-mod q o a i) (poly-mod q o b i))

  times-mod : (a b : ℕ) → times q (a % q) (b % q) ≡ times q a b
  unfolding times
  times-mod a b = λ i. number (characteristic q) (poly_times (characteristic q) (remainder q) (poly-mod q o a i) (poly-mod q o b i))

  negative-mod : (a : ℕ) → negative q (a % q) ≡ negative q a
  unfolding negative times
  negative-mod a = λ i. number (characteristic q) (poly_times (characteristic q) (remainder q) (poly q (characteristic q - 1)) (poly-mod q o a i))

  pub same : {a b : ℕ} → (a == b) ≡ true → a ≡ b
  same {a} {b} h = eqb-true a b h

  -- a law of two numbers, and of three, by its test at their remainders
  plus_comm-by : (a b : ℕ) → plus q a b ≡ plus q b a
  plus_comm-by a b =
      sym (plus-mod a b) ∙ same (at_pair q (λ a b. plus q a b == plus q b a) (plus_comm-test q o) (a % q) (b % q) (below a) (below b)) ∙ plus-mod b a

  times_comm-by : (a b : ℕ) → times q a b ≡ times q b a
  times_comm-by a b =
      sym (times-mod a b) ∙ same (at_pair q (λ a b. times q a b == times q b a) (times_comm-test q o) (a % q) (b % q) (below a) (below b)) ∙ times-mod b a

  plus_below-by : (a b : ℕ) → plus q a b < q
  plus_below-by a b =
      let h = ltb-true _ _ (at_pair q (λ a b. nat_lt (plus q a b) q) (plus_below-test q o) (a % q) (b % q) (below a) (below b)) in
      subst (λ (x : ℕ). x < q) (plus-mod a b) h

  times_below-by : (a b : ℕ) → times q a b < q
  times_below-by a b =
      let h = ltb-true _ _ (at_pair q (λ a b. nat_lt (times q a b) q) (times_below-test q o) (a % q) (b % q) (below a) (below b)) in
      subst (λ (x : ℕ). x < q) (times-mod a b) h

  -- a number that is already below q stays
  plus-left : (a b : ℕ) → plus q (a % q) b ≡ plus q a b
  plus-left a b = sym (plus-mod (a % q) b) ∙ ap (λ x. plus q x (b % q)) (mod-mod a q) ∙ plus-mod a b

  plus-right : (a b : ℕ) → plus q a (b % q) ≡ plus q a b
  plus-right a b = sym (plus-mod a (b % q)) ∙ ap (λ x. plus q (a % q) x) (mod-mod b q) ∙ plus-mod a b

  times-left : (a b : ℕ) → times q (a % q) b ≡ times q a b
  times-left a b = sym (times-mod (a % q) b) ∙ ap (λ x. times q x (b % q)) (mod-mod a q) ∙ times-mod a b

  times-right : (a b : ℕ) → times q a (b % q) ≡ times q a b
  times-right a b = sym (times-mod a (b % q)) ∙ ap (λ x. times q (a % q) x) (mod-mod b q) ∙ times-mod a b

  power-mod : (a n : ℕ) → power q (a % q) n ≡ power q a n
  power-mod a zero = refl
  power-mod a (suc n) = ap (times q (a % q)) (power-mod a n) ∙ times-left a (power q a n)

  frobenius-mod : (a : ℕ) → frobenius q (a % q) ≡ frobenius q a
  unfolding frobenius
  frobenius-mod a = power-mod a (characteristic q)

  frobenius-at : (a b : ℕ) →
      ((frobenius q (plus q (a % q) (b % q)) == plus q (frobenius q (a % q)) (frobenius q (b % q))) &&
      ((frobenius q (times q (a % q) (b % q)) == times q (frobenius q (a % q)) (frobenius q (b % q))) && nat_lt (frobenius q (a % q)) q)) ≡ true
  frobenius-at a b = at_pair q
      (λ a b. (frobenius q (plus q a b) == plus q (frobenius q a) (frobenius q b)) &&
      ((frobenius q (times q a b) == times q (frobenius q a) (frobenius q b)) && nat_lt (frobenius q a) q)) (frobenius-test q o)
      (a % q) (b % q) (below a) (below b)

  plus_assoc-by : (a b c : ℕ) → plus q (plus q a b) c ≡ plus q a (plus q b c)
  plus_assoc-by a b c =
      sym (ap (λ x. plus q x (c % q)) (plus-mod a b) ∙ plus-right (plus q a b) c)
      ∙ same (at_triple q (λ a b c. plus q (plus q a b) c == plus q a (plus q b c)) (plus_assoc-test q o) (a % q) (b % q) (c % q) (below a) (below b) (below c))
      ∙ ap (plus q (a % q)) (plus-mod b c) ∙ plus-left a (plus q b c)

  times_assoc-by : (a b c : ℕ) → times q (times q a b) c ≡ times q a (times q b c)
  times_assoc-by a b c =
      sym (ap (λ x. times q x (c % q)) (times-mod a b) ∙ times-right (times q a b) c)
      ∙ same (at_triple q (λ a b c. times q (times q a b) c == times q a (times q b c)) (times_assoc-test q o) (a % q) (b % q)
      (c % q) (below a) (below b) (below c))
      ∙ ap (times q (a % q)) (times-mod b c) ∙ times-left a (times q b c)

  times_plus-by : (a b c : ℕ) → times q a (plus q b c) ≡ plus q (times q a b) (times q a c)
  times_plus-by a b c =
      sym (ap (times q (a % q)) (plus-mod b c) ∙ times-left a (plus q b c))
      ∙ same (at_triple q (λ a b c. times q a (plus q b c) == plus q (times q a b) (times q a c)) (times_plus-test q o) (a % q)
      (b % q) (c % q) (below a) (below b) (below c))
      ∙ (λ i. plus q (times-mod a b i) (times-mod a c i))

  at_code : (a : ℕ) → a < q → one_code q a ≡ true
  at_code a l = all_below-at q (one_code q) (one_code-test q o) a l

  -- the parts of the test of one code
  plus_zero-at : (a : ℕ) → a < q → (plus q 0 a == a) ≡ true
  plus_zero-at a l = both_left _ _ (at_code a l)

  times_one-at : (a : ℕ) → a < q → (times q 1 a == a) ≡ true
  times_one-at a l = both_left _ _ (both_right (plus q 0 a == a) _ (at_code a l))

  rest-at : (a : ℕ) → a < q →
      (nat_lt (negative q a) q &&
      ((plus q a (negative q a) == 0) && (nat_lt (inverse q a) q && ((a == 0) || (times q a (inverse q a) == 1))))) ≡ true
  rest-at a l = both_right (times q 1 a == a) _ (both_right (plus q 0 a == a) _ (at_code a l))

  inverses-at : (a : ℕ) → a < q → (nat_lt (inverse q a) q && ((a == 0) || (times q a (inverse q a) == 1))) ≡ true
  inverses-at a l = both_right (plus q a (negative q a) == 0) _ (both_right (nat_lt (negative q a) q) _ (rest-at a l))

  times_inverse-by : (a : ℕ) → a < q → a ≢ 0 → times q a (inverse q a) ≡ 1
  times_inverse-by a l n =
      elim (or_cases (a == 0) _ (both_right (nat_lt (inverse q a) q) _ (inverses-at a l))) [
        | inl z ↦ absurd (n (same z))
        | inr e ↦ same e
      ]

  pub field_laws : IsField q
  field_laws = record {
    two = positive q o;
    degree_positive = has_degree q o;
    plus_below = plus_below-by;
    plus_comm = plus_comm-by;
    plus_assoc = plus_assoc-by;
    plus_zero = λ a l. same (plus_zero-at a l);
    negative_below = λ a.
        let h = ltb-true _ _ (both_left _ _ (rest-at (a % q) (below a))) in
        subst (λ (x : ℕ). x < q) (negative-mod a) h;
    plus_negative = λ a.
        let h = same (both_left _ _ (both_right (nat_lt (negative q (a % q)) q) _ (rest-at (a % q) (below a)))) in
        sym (plus-mod a (negative q a) ∙ refl) ∙ ap (λ x. plus q (a % q) (x % q)) (sym (negative-mod a)) ∙ plus-right (a % q) (negative q (a % q)) ∙ h;
    times_below = times_below-by;
    times_comm = times_comm-by;
    times_assoc = times_assoc-by;
    times_one = λ a l. same (times_one-at a l);
    times_plus = times_plus-by;
    inverse_below = λ a l. ltb-true _ _ (both_left _ _ (inverses-at a l));
    times_inverse = times_inverse-by;
    frobenius_below = λ a. subst (λ (x : ℕ). x < q) (frobenius-mod a)
        (ltb-true _ _ (both_right (frobenius q (times q (a % q) (a % q)) == times q (frobenius q (a % q)) (frobenius q (a % q)))
        _ (both_right (frobenius q (plus q (a % q) (a % q)) == plus q (frobenius q (a % q)) (frobenius q (a % q))) _ (frobenius-at a a))));
    frobenius_plus = λ a b. sym (ap (frobenius q) (plus-mod a b)) ∙ same (both_left _ _ (frobenius-at a b))
        ∙ (λ i. plus q (frobenius-mod a i) (frobenius-mod b i));
    frobenius_times = λ a b. sym (ap (frobenius q) (times-mod a b))
        ∙ same (both_left _ _ (both_right (frobenius q (plus q (a % q) (b % q)) == plus q (frobenius q (a % q)) (frobenius q (b % q)))
        _ (frobenius-at a b))) ∙ (λ i. times q (frobenius-mod a i) (frobenius-mod b i));
    frobenius_one = frobenius_one-test q o;
    frobenius_cycle = λ a l. same (all_below-at q (λ a. raised q (degree q) a == a) (frobenius_cycle-test q o) a l);
  }
