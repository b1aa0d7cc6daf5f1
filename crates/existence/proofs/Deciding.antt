-- Questions over bounded numbers, lists and sets have answers where each of their cases has one.
use Rattle.std.proofs.Common.{◌≡◌, ◌≢◌, ℕ, zero, suc, ◌^◌, ◌<◌, ◌≤◌, refl, sym, subst, arith, Bool, true, false, List, [], ◌∷◌, length, inl, inr, ◌⊎◌}
use Rattle.std.specs.Prelude.{◌↔◌, IsTrue}
use Rattle.std.specs.List.{Contains, slice_index_or}
use Rattle.std.specs.declared.cmp.Ordering.{Ordering}
use Rattle.std.specs.declared.cmp.Ordering.TheVariants.{Less, Equal, Greater}
use Rattle.std.proofs.lemmas.Bool.{cases_lt, cases_eq}
use mathlib.Core.Bool.{true≢false}
use Rattle.matroid_theory.specs.Matroid.{members}
use Rattle.matrix_lemmas.proofs.Masks.{mask, mask-below, members-mask, by_masks}
use Rattle.matrix_lemmas.proofs.Bases.{search_below}
use Rattle.existence.specs.Decided.{IsDecided}

-- an answer goes over to what holds together with it
pub along : {P Q : Type 0} → IsDecided P → (P → Q) → (Q → P) → IsDecided Q
along d to from = elim d [ inl p ↦ inl (to p) | inr n ↦ inr (λ q. n (from q)) ]

-- the second needs an answer only where the first holds
pub both : {P Q : Type 0} → IsDecided P → (P → IsDecided Q) → IsDecided (P × Q)
both p q = elim p [ inl a ↦ elim (q a) [ inl b ↦ inl (a, b) | inr n ↦ inr (λ w. n w.1) ] | inr n ↦ inr (λ w. n w.0) ]

pub either : {P Q : Type 0} → IsDecided P → IsDecided Q → IsDecided (P ⊎ Q)
either p q = elim p [ inl a ↦ inl (inl a) | inr n ↦ elim q [ inl b ↦ inl (inr b) | inr m ↦ inr (λ w. elim w [ inl a ↦ n a | inr b ↦ m b ]) ] ]

pub implied : {P Q : Type 0} → IsDecided P → (P → IsDecided Q) → IsDecided (P → Q)
implied p q = elim p [ inl a ↦ elim (q a) [ inl b ↦ inl (λ _. b) | inr n ↦ inr (λ f. n (f a)) ] | inr n ↦ inl (λ a. absurd (n a)) ]

pub negated : {P : Type 0} → IsDecided P → IsDecided (¬ P)
negated p = elim p [ inl a ↦ inr (λ n. n a) | inr n ↦ inl n ]

pub iff : {P Q : Type 0} → IsDecided P → IsDecided Q → IsDecided (P ↔ Q)
iff p q = along (both (implied p (λ _. q)) (λ _. implied q (λ _. p))) (λ w. (w.0, w.1)) (λ w. (w.0, w.1))

-- ---- numbers

pub less : (a b : ℕ) → IsDecided (a < b)
less a b = elim (cases_lt a b) [ inl l ↦ inl l | inr g ↦ inr (λ l. omega arith) ]

pub at_most : (a b : ℕ) → IsDecided (a ≤ b)
at_most a b = elim (cases_lt b a) [ inl l ↦ inr (λ g. omega arith) | inr g ↦ inl g ]

pub equal : (a b : ℕ) → IsDecided (a ≡ b)
equal a b = elim (cases_eq a b) [ inl e ↦ inl e | inr n ↦ inr n ]

pub is_set : (b : Bool) → IsDecided (IsTrue b)
is_set true = inl refl
is_set false = inr (λ e. true≢false (sym e))

pub equal_bools : (a b : Bool) → IsDecided (a ≡ b)
equal_bools true true = inl refl
equal_bools true false = inr true≢false
equal_bools false true = inr (λ e. true≢false (sym e))
equal_bools false false = inl refl

pub is_less : (o : Ordering) → IsDecided (o ≡ Less)
is_less Less = inl refl
is_less Equal = inr (λ e. cc)
is_less Greater = inr (λ e. cc)

pub is_not_greater : (o : Ordering) → IsDecided (o ≢ Greater)
is_not_greater Less = inl (λ e. cc)
is_not_greater Equal = inl (λ e. cc)
is_not_greater Greater = inr (λ n. n refl)

-- ---- bounded numbers

-- some number below n has the property, or none
pub some_below : (n : ℕ) (P : ℕ → Type 0) → ((j : ℕ) → j < n → IsDecided (P j)) → IsDecided ((j : ℕ) × (j < n) × P j)
some_below n P d = elim (search_below n P (λ j. ¬ (P j)) d) [ inl w ↦ inl w | inr none ↦ inr (λ w. none w.0 w.1 w.2) ]

-- each number below n has it, or not
pub each_below : (n : ℕ) (P : ℕ → Type 0) → ((j : ℕ) → j < n → IsDecided (P j)) → IsDecided ((j : ℕ) → j < n → P j)
each_below n P d = elim (search_below n (λ j. ¬ (P j)) P (λ j l. elim (d j l) [ inl p ↦ inr p | inr never ↦ inl never ]))
    [ inl w ↦ inr (λ all. w.2 (all w.0 w.1)) | inr all ↦ inl all ]

-- the same for two and for three numbers
pub each_two : (a b : ℕ) (P : ℕ → ℕ → Type 0) → ((i j : ℕ) → i < a → j < b → IsDecided (P i j)) → IsDecided ((i j : ℕ) → i < a → j < b → P i j)
each_two a b P d =
    along (each_below a (λ i. (j : ℕ) → j < b → P i j) (λ i l. each_below b (P i) (λ j m. d i j l m)))
    (λ w i j l m. w i l j m) (λ w i l j m. w i j l m)

pub each_three : (a b c : ℕ) (P : ℕ → ℕ → ℕ → Type 0) → ((i j k : ℕ) → i < a → j < b → k < c → IsDecided (P i j k))
    → IsDecided ((i j k : ℕ) → i < a → j < b → k < c → P i j k)
each_three a b c P d =
    along (each_below a (λ i. (j k : ℕ) → j < b → k < c → P i j k) (λ i l. each_two b c (P i) (λ j k m n. d i j k l m n)))
    (λ w i j k l m n. w i l j k m n) (λ w i l j k m n. w i j k l m n)

-- ---- sets of numbers below n

-- sets of numbers below n are searched by their masks, where only those numbers count
pub some_set : (n : ℕ) (P : (ℕ → Bool) → Type 0) → ((S T : ℕ → Bool) → ((j : ℕ) → j < n → S j ≡ T j) → P S → P T) → ((S : ℕ → Bool) → IsDecided (P S))
    → IsDecided ((S : ℕ → Bool) × P S)
some_set n P same d =
    along (some_below (2 ^ n) (λ X. P (members X)) (λ X _. d (members X)))
    (λ w. (members w.0, w.2)) (λ w. (mask n w.0, mask-below n w.0, same w.0 (members (mask n w.0)) (λ j l. sym (members-mask n w.0 j l)) w.1))

pub each_set : (n : ℕ) (P : (ℕ → Bool) → Type 0) → ((S T : ℕ → Bool) → ((j : ℕ) → j < n → S j ≡ T j) → P S → P T) → ((S : ℕ → Bool) → IsDecided (P S))
    → IsDecided ((S : ℕ → Bool) → P S)
each_set n P same d = along (each_below (2 ^ n) (λ X. P (members X)) (λ X _. d (members X))) (λ w. by_masks n P same w) (λ w X _. w (members X))

-- ---- lists

-- x is an element of the list
abbrev pub IsIn : {X : Type 0} → X → List X → Type 0
IsIn x [] = ⊥
IsIn x (y ∷ ys) = (y ≡ x) ⊎ IsIn x ys

-- the two ways to say that a list has an element
pub to_contains : {X : Type 0} (x : X) (xs : List X) → IsIn x xs → Contains xs x
to_contains x [] i = absurd i
to_contains x (y ∷ ys) i = elim i [ inl e ↦ (0, omega arith, e) | inr j ↦ (let c = to_contains x ys j in (suc c.0, (let l = c.1 in omega arith), c.2)) ]

-- the element at a place
pub at_place : {X : Type 0} (xs : List X) (k : ℕ) (d : X) → k < length xs → IsIn (slice_index_or xs k d) xs
at_place [] k d l = absurd (omega arith)
at_place (x ∷ xs) zero d l = inl refl
at_place (x ∷ xs) (suc k) d l = inr (at_place xs k d (omega arith))

pub from_contains : {X : Type 0} (x : X) (xs : List X) → Contains xs x → IsIn x xs
from_contains x xs c = subst (λ y. IsIn y xs) c.2 (at_place xs c.0 x c.1)

-- the place of an element
pub place_of : {X : Type 0} (x d : X) (xs : List X) → IsIn x xs → (k : ℕ) × (k < length xs) × (slice_index_or xs k d ≡ x)
place_of x d [] i = absurd i
place_of x d (y ∷ ys) i = elim i [ inl e ↦ (0, omega arith, e) | inr j ↦ (let c = place_of x d ys j in (suc c.0, (let l = c.1 in omega arith), c.2)) ]

-- each element has the property, or not
pub each_in : {X : Type 0} (xs : List X) (P : X → Type 0) → ((x : X) → IsDecided (P x)) → IsDecided ((x : X) → IsIn x xs → P x)
each_in [] P d = inl (λ x i. absurd i)
each_in (y ∷ ys) P d =
    along (both (d y) (λ _. each_in ys P d))
    (λ w x i. elim i [ inl e ↦ subst P e w.0 | inr j ↦ w.1 x j ]) (λ w. (w y (inl refl), λ x j. w x (inr j)))

-- some element has it, or none
pub some_in : {X : Type 0} (xs : List X) (P : X → Type 0) → ((x : X) → IsDecided (P x)) → IsDecided ((x : X) × IsIn x xs × P x)
some_in [] P d = inr (λ w. w.1)
some_in (y ∷ ys) P d = elim (d y) [
  | inl p ↦ inl (y, inl refl, p)
  | inr never ↦ elim (some_in ys P d) [
    | inl w ↦ inl (w.0, inr w.1, w.2)
    | inr none ↦ inr (λ w. elim w.1 [ inl e ↦ never (subst P (sym e) w.2) | inr j ↦ none (w.0, j, w.2) ])
  ]
]

pub is_in : {X : Type 0} → ((x y : X) → IsDecided (x ≡ y)) → (x : X) (xs : List X) → IsDecided (IsIn x xs)
is_in same x [] = inr (λ i. i)
is_in same x (y ∷ ys) = either (same y x) (is_in same x ys)

pub contained : {X : Type 0} → ((x y : X) → IsDecided (x ≡ y)) → (x : X) (xs : List X) → IsDecided (Contains xs x)
contained same x xs = along (is_in same x xs) (to_contains x xs) (from_contains x xs)

pub equal_lists : {X : Type 0} → ((x y : X) → IsDecided (x ≡ y)) → (xs ys : List X) → IsDecided (xs ≡ ys)
equal_lists same [] [] = inl refl
equal_lists same [] (y ∷ ys) = inr (λ e. cc)
equal_lists same (x ∷ xs) [] = inr (λ e. cc)
equal_lists same (x ∷ xs) (y ∷ ys) = along (both (same x y) (λ _. equal_lists same xs ys)) (λ w i. w.0 i ∷ w.1 i) (λ e. (cc (e), cc (e)))
