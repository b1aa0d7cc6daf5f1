-- Independence by trying all coefficients, for examples that the checker computes.
use Rattle.std.proofs.Common.{◌≡◌, ◌≢◌, ℕ, zero, suc, ◌<◌, refl, sym, ◌∙◌, ap, arith, cond, Bool, true, ◌&&◌, ◌||◌, not, inl, inr, eqb-true, eq-eqb, List}
use Rattle.std.specs.Bool.{◌==◌, nat_lt}
use Rattle.std.specs.List.{slice_index}
use mathlib.Core.Bool.{true≢false}
use borrow.Author.Tests.{ltb-true}
use Rattle.std.proofs.lemmas.Bool.{cases_lt, or_cases, cases_Bool}
use Rattle.matroid_theory.specs.Field.{plus, times}
use Rattle.matroid_theory.specs.Matrix.{Matrix, combination, AreCoefficients, IsIndependent}
use Rattle.matrix_lemmas.proofs.FieldLaws.{all_below, all_below-at, both_left, both_right, no_way}
use Rattle.matrix_lemmas.proofs.Sums.{other_number}

-- a function with one more value, at n
abbrev pub with_value : (ℕ → ℕ) → ℕ → ℕ → ℕ → ℕ
with_value a n d j = cond (j == n) d (a j)

-- a test of all coefficients below q of n columns
abbrev pub every : ℕ → ℕ → ((ℕ → ℕ) → Bool) → Bool
every q zero p = p (λ _. 0)
every q (suc n) p = all_below q (λ d. every q n (λ a. p (with_value a n d)))

with_value-same : (a b : ℕ → ℕ) (n d : ℕ) → ((j : ℕ) → j < n → a j ≡ b j) → (j : ℕ) → j < suc n → with_value a n d j ≡ with_value b n d j
with_value-same a b n d h j l =
    elim (cases_lt j n) [
      | inl s ↦ ap (cond (j == n) d) (h j s)
      | inr g ↦ (let e : j ≡ n = omega arith in ap (λ t. cond t d (a j)) (eq-eqb j n e) ∙ sym (ap (λ t. cond t d (b j)) (eq-eqb j n e)))
    ]

with_value-own : (a : ℕ → ℕ) (n : ℕ) (j : ℕ) → j < suc n → with_value a n (a n) j ≡ a j
with_value-own a n j l =
    elim (cases_lt j n) [
      | inl s ↦ (let ne : j ≢ n = omega arith in ap (λ t. cond t (a n) (a j)) (other_number j n ne))
      | inr g ↦ (let e : j ≡ n = omega arith in ap (λ t. cond t (a n) (a j)) (eq-eqb j n e) ∙ sym (ap a e))
    ]

pub every-at : (q n : ℕ) (p : (ℕ → ℕ) → Bool) → ((a b : ℕ → ℕ) → ((j : ℕ) → j < n → a j ≡ b j) → p a ≡ p b) → every q n p ≡ true →
    (a : ℕ → ℕ) → ((j : ℕ) → j < n → a j < q) → p a ≡ true
every-at q zero p same h a c = same a (λ _. 0) (λ j l. absurd (omega arith)) ∙ h
every-at q (suc n) p same h a c =
    same a (with_value a n (a n)) (λ j l. sym (with_value-own a n j l))
    ∙ every-at q n (λ b. p (with_value b n (a n))) (λ b b' e. same (with_value b n (a n)) (with_value b' n (a n)) (with_value-same b b' n (a n) e))
    (all_below-at q (λ d. every q n (λ b. p (with_value b n d))) h (a n) (c n (omega arith))) a (λ j l. c j (omega arith))

-- the coefficients of the columns in a set
abbrev pub within : (ℕ → Bool) → (ℕ → ℕ) → ℕ → ℕ
within S a j = cond (S j) (a j) 0

-- whether only zero coefficients have the combination zero
abbrev pub only_zero : ℕ → ℕ → ℕ → Matrix → (ℕ → Bool) → (ℕ → ℕ) → Bool
only_zero q r n A S a = not (all_below r (λ i. combination q n A (within S a) i == 0)) || all_below n (λ j. within S a j == 0)

all_below-same : (n : ℕ) (p p' : ℕ → Bool) → ((j : ℕ) → j < n → p j ≡ p' j) → all_below n p ≡ all_below n p'
all_below-same zero p p' h = refl
all_below-same (suc n) p p' h = λ i. h n (omega arith) i && all_below-same n p p' (λ j l. h j (omega arith)) i

all_below-from : (n : ℕ) (p : ℕ → Bool) → ((j : ℕ) → j < n → p j ≡ true) → all_below n p ≡ true
all_below-from n p h = all_below-same n p (λ _. true) h ∙ trues n
  where
    trues : (n : ℕ) → all_below n (λ _. true) ≡ true
    trues zero = refl
    trues (suc n) = trues n

combination-same : (q n : ℕ) (A : Matrix) (a b : ℕ → ℕ) (i : ℕ) → ((j : ℕ) → j < n → a j ≡ b j) → combination q n A a i ≡ combination q n A b i
combination-same q zero A a b i h = refl
combination-same q (suc n) A a b i h = λ k. plus q (combination-same q n A a b i (λ j l. h j (omega arith)) k) (times q (A i n) (h n (omega arith) k))

only_zero-same : (q r n : ℕ) (A : Matrix) (S : ℕ → Bool) (a b : ℕ → ℕ) → ((j : ℕ) → j < n → a j ≡ b j) → only_zero q r n A S a ≡ only_zero q r n A S b
only_zero-same q r n A S a b h =
    λ k. not (all_below-same r (λ i. combination q n A (within S a) i == 0) (λ i. combination q n A (within S b) i == 0)
    (λ i _ k. combination-same q n A (within S a) (within S b) i inside k == 0) k)
    || all_below-same n (λ j. within S a j == 0) (λ j. within S b j == 0) (λ j l k. inside j l k == 0) k
  where
    inside : (j : ℕ) → j < n → within S a j ≡ within S b j
    inside j l = ap (λ x. cond (S j) x 0) (h j l)

pub independent_by_test : (q r n : ℕ) (A : Matrix) (S : ℕ → Bool) → every q n (only_zero q r n A S) ≡ true → IsIndependent q r n A S
independent_by_test q r n A S h = record { only_zero = zero_by }
  where
    zero_by : (a : ℕ → ℕ) → AreCoefficients q n S a → ((i : ℕ) → i < r → combination q n A a i ≡ 0) → (j : ℕ) → j < n → a j ≡ 0
    zero_by a c z j l =
        elim (or_cases (not (all_below r (λ i. combination q n A (within S a) i == 0)))
        _ (every-at q n (only_zero q r n A S) (only_zero-same q r n A S) h a c.codes)) [
          | inl e ↦ absurd (no_way (all_below r (λ i. combination q n A (within S a) i == 0))
              (all_below-from r (λ i. combination q n A (within S a) i == 0)
              (λ i m. eq-eqb _ 0 (combination-same q n A (within S a) a i own ∙ z i m))) e)
          | inr e ↦ sym (own j l) ∙ eqb-true (within S a j) 0 (all_below-at n (λ j. within S a j == 0) e j l)
        ]
      where
        own : (j : ℕ) → j < n → within S a j ≡ a j
        own j l = elim (cases_Bool (S j)) [ inl t ↦ ap (λ b. cond b (a j) 0) t | inr f ↦ ap (λ b. cond b (a j) 0) f ∙ sym (c.outside j l f) ]

-- whether a list of coefficients of the columns in a set has the combination zero, and isn't 0 at j
abbrev pub is_relation : ℕ → ℕ → ℕ → Matrix → (ℕ → Bool) → List ℕ → ℕ → Bool
is_relation q r n A S cs j =
    all_below n (λ k. nat_lt (slice_index cs k) q) && (all_below n (λ k. S k || (slice_index cs k == 0))
    && (all_below r (λ i. combination q n A (slice_index cs) i == 0) && (nat_lt j n && not (slice_index cs j == 0))))

pub dependent_by_test : (q r n : ℕ) (A : Matrix) (S : ℕ → Bool) (cs : List ℕ) (j : ℕ) → is_relation q r n A S cs j ≡ true → ¬ (IsIndependent q r n A S)
dependent_by_test q r n A S cs j t h =
    no_way (slice_index cs j == 0)
    (eq-eqb (slice_index cs j) 0
    (h.only_zero (slice_index cs) coefficients zero_rows j (ltb-true j n (both_left (nat_lt j n) _ t3)))) (both_right (nat_lt j n) _ t3)
  where
    t1 : (all_below n (λ k. S k || (slice_index cs k == 0)) &&
        (all_below r (λ i. combination q n A (slice_index cs) i == 0) && (nat_lt j n && not (slice_index cs j == 0)))) ≡ true
    t1 = both_right (all_below n (λ k. nat_lt (slice_index cs k) q)) _ t

    t2 : (all_below r (λ i. combination q n A (slice_index cs) i == 0) && (nat_lt j n && not (slice_index cs j == 0))) ≡ true
    t2 = both_right (all_below n (λ k. S k || (slice_index cs k == 0))) _ t1

    t3 : (nat_lt j n && not (slice_index cs j == 0)) ≡ true
    t3 = both_right (all_below r (λ i. combination q n A (slice_index cs) i == 0)) _ t2

    zero_rows : (i : ℕ) → i < r → combination q n A (slice_index cs) i ≡ 0
    zero_rows i l = eqb-true _ 0
        (all_below-at r (λ i. combination q n A (slice_index cs) i == 0)
        (both_left (all_below r (λ i. combination q n A (slice_index cs) i == 0)) _ t2) i l)

    coefficients : AreCoefficients q n S (slice_index cs)
    coefficients = record {
      codes = λ k l. ltb-true _ _ (all_below-at n (λ k. nat_lt (slice_index cs k) q) (both_left (all_below n (λ k. nat_lt (slice_index cs k) q)) _ t) k l);
      outside = λ k l o.
          elim (or_cases (S k) _ (all_below-at n (λ k. S k || (slice_index cs k == 0))
          (both_left (all_below n (λ k. S k || (slice_index cs k == 0))) _ t1) k l)) [
            | inl e ↦ absurd (true≢false (sym e ∙ o))
            | inr e ↦ eqb-true (slice_index cs k) 0 e
          ];
    }
