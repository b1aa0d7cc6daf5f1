-- A sorted list is not above a list that has different elements of it, or greater ones, at its places.
use Rattle.std.proofs.Common.{◌≡◌, ◌≢◌, ℕ, suc, ◌-◌, ◌<◌, ◌≤◌, refl, sym, ◌∙◌, ap, subst, arith, List, [], ◌∷◌, length, cond, false, inl, inr, set, get_or, length-set}
use Rattle.std.specs.Bool.{◌==◌}
use Rattle.std.specs.List.{swap}
use Rattle.std.specs.List.Sorted.{IsSorted, IsPermutation}
use Rattle.std.proofs.lemmas.Bool.{cases_eq}
use Rattle.std.proofs.lemmas.Cmp.{tied_back}
use Rattle.std.proofs.lemmas.List.{get_or-set_same, get_or-set_other}
use Rattle.std.proofs.lemmas.List.Edits.{swap_is, length-swap}
use Rattle.std.proofs.lemmas.List.Sorted.{ranks_by, sorted_far, IsPermutation-keeps}
use Rattle.std.specs.Cmp.{IsTotalOrder}
use Rattle.std.specs.Cmp.Lexicographic.{slice_cmp}
use Rattle.std.specs.Ordering.{is_lt, ordering_reverse}
use Rattle.std.specs.declared.cmp.Ordering.{Ordering}
use Rattle.std.specs.declared.cmp.Ordering.TheVariants.{Equal, Greater}
use mathlib.Core.Bool.{true≢false}
use Rattle.matrix_lemmas.proofs.Sums.{same_number, other_number}
use Rattle.matrix_lemmas.proofs.Orderings.{then_at_most, at_most_chain}

-- ---- orders

level_at_most : (o : Ordering) → o ≡ Equal → o ≢ Greater
level_at_most o e g = let d : Equal ≡ Greater = sym e ∙ g in cc

module _ {X : Type 0} (R : X → X → Ordering) (o : IsTotalOrder R) where
  at_most_turned : (x y : X) → is_lt (R y x) ≡ false → R x y ≢ Greater
  at_most_turned x y t e = true≢false (ap is_lt (sym (o.antisymm y x ∙ ap ordering_reverse e)) ∙ t)

  -- no element is above a later one
  sorted_pairs : (xs : List X) → IsSorted R xs → (i j : ℕ) (d : X) → i ≤ j → j < length xs → R (get_or xs i d) (get_or xs j d) ≢ Greater
  sorted_pairs xs s i j d l m = at_most_turned (get_or xs i d) (get_or xs j d) (sorted_far (λ x y. is_lt (R x y)) (ranks_by o (λ x. x)) xs s i j d l m)

-- ---- places

-- p takes the numbers below n to different numbers below n
pub record IsInjection (n : ℕ) (p : ℕ → ℕ) : Type 0 where
  pub below : (t : ℕ) → t < n → p t < n
  pub apart : (s t : ℕ) → s < n → t < n → p s ≡ p t → s ≡ t

-- p from 1 on, with what it takes 0 to in place of 0
abbrev next : (ℕ → ℕ) → ℕ → ℕ
next p t = cond (p (suc t) == 0) (p 0) (p (suc t))

next_first : (p : ℕ → ℕ) (t : ℕ) → p (suc t) ≡ 0 → next p t ≡ p 0
next_first p t e = ap (λ k. cond (k == 0) (p 0) (p (suc t))) e

next_rest : (p : ℕ → ℕ) (t : ℕ) → p (suc t) ≢ 0 → next p t ≡ p (suc t)
next_rest p t n = ap (λ b. cond b (p 0) (p (suc t))) (other_number (p (suc t)) 0 n)

module _ (n : ℕ) (p : ℕ → ℕ) (h : IsInjection (suc n) p) where
  next_nonzero : (t : ℕ) → t < n → next p t ≢ 0
  next_nonzero t l e = elim (cases_eq (p (suc t)) 0) [
    | inl z ↦ (let k : suc t ≡ 0 = h.apart (suc t) 0 (omega arith) (omega arith) (z ∙ sym e ∙ next_first p t z) in absurd (omega arith))
    | inr ne ↦ ne (sym (next_rest p t ne) ∙ e)
  ]

  next_below : (t : ℕ) → t < n → next p t < suc n
  next_below t l = elim (cases_eq (p (suc t)) 0) [
    | inl z ↦ subst (λ (x : ℕ). x < suc n) (sym (next_first p t z)) (h.below 0 (omega arith))
    | inr ne ↦ subst (λ (x : ℕ). x < suc n) (sym (next_rest p t ne)) (h.below (suc t) (omega arith))
  ]

  next_apart : (s t : ℕ) → s < n → t < n → next p s ≡ next p t → s ≡ t
  next_apart s t l m e = elim (cases_eq (p (suc s)) 0) [
    | inl z ↦ elim (cases_eq (p (suc t)) 0) [
      | inl y ↦ (let k : suc s ≡ suc t = h.apart (suc s) (suc t) (omega arith) (omega arith) (z ∙ sym y) in omega arith)
      | inr ne ↦ (let k : 0 ≡ suc t = h.apart 0 (suc t) (omega arith) (omega arith) (sym (next_first p s z) ∙ e ∙ next_rest p t ne) in absurd (omega arith))
    ]
    | inr ne ↦ elim (cases_eq (p (suc t)) 0) [
      | inl y ↦ (let k : suc s ≡ 0 = h.apart (suc s) 0 (omega arith) (omega arith) (sym (next_rest p s ne) ∙ e ∙ next_first p t y) in absurd (omega arith))
      | inr ne' ↦ (let k : suc s ≡ suc t = h.apart (suc s) (suc t) (omega arith) (omega arith) (sym (next_rest p s ne) ∙ e ∙ next_rest p t ne') in omega arith)
    ]
  ]

  after : (t : ℕ) → t < n → suc (next p t - 1) ≡ next p t
  after t l = let k : next p t ≢ 0 = next_nonzero t l in omega arith

  rest_injection : IsInjection n (λ t. next p t - 1)
  rest_injection = record {
    below = λ t l. (let a : suc (next p t - 1) ≡ next p t = after t l in let b : next p t < suc n = next_below t l in omega arith);
    apart = λ s t l m e. next_apart s t l m (sym (after s l) ∙ ap suc e ∙ after t m);
  }

-- ---- the least list

module _ {X : Type 0} (R : X → X → Ordering) (o : IsTotalOrder R) (d : X) where
  -- different elements of xs are not above those of ys, place by place
  pub record IsMatched (xs ys : List X) (p : ℕ → ℕ) : Type 0 where
    pub injection : IsInjection (length xs) p
    pub at_most : (t : ℕ) → t < length xs → R (get_or xs (p t) d) (get_or ys t d) ≢ Greater

  abbrev Rises : List X → Type 0
  Rises xs = (i j : ℕ) → i ≤ j → j < length xs → R (get_or xs i d) (get_or xs j d) ≢ Greater

  module _ (x y : X) (xs ys : List X) (p : ℕ → ℕ) (up : Rises (x ∷ xs)) (h : IsMatched (x ∷ xs) (y ∷ ys) p) where
    first_at_most : R x y ≢ Greater
    first_at_most =
        let i = h.injection in
        at_most_chain R o x (get_or (x ∷ xs) (p 0) d) y (up 0 (p 0) (omega arith) (i.below 0 (omega arith))) (h.at_most 0 (omega arith))

    rest_at_most : R x y ≡ Equal → (t : ℕ) → t < length xs → R (get_or (x ∷ xs) (next p t) d) (get_or ys t d) ≢ Greater
    rest_at_most e t l = elim (cases_eq (p (suc t)) 0) [
      | inl z ↦ subst (λ k. R (get_or (x ∷ xs) k d) (get_or ys t d) ≢ Greater) (sym (next_first p t z))
          (at_most_chain R o (get_or (x ∷ xs) (p 0) d) y (get_or ys t d) (h.at_most 0 (omega arith))
          (at_most_chain R o y x (get_or ys t d) (level_at_most (R y x) (tied_back o x y e))
          (subst (λ k. R (get_or (x ∷ xs) k d) (get_or ys t d) ≢ Greater) z (h.at_most (suc t) (omega arith)))))
      | inr ne ↦ subst (λ k. R (get_or (x ∷ xs) k d) (get_or ys t d) ≢ Greater) (sym (next_rest p t ne)) (h.at_most (suc t) (omega arith))
    ]

    rest_matched : R x y ≡ Equal → IsMatched xs ys (λ t. next p t - 1)
    rest_matched e = record {
      injection = rest_injection (length xs) p h.injection;
      at_most = λ t l. subst (λ k. R (get_or (x ∷ xs) k d) (get_or ys t d) ≢ Greater) (sym (after (length xs) p h.injection t l)) (rest_at_most e t l);
    }

  matched_least : (xs ys : List X) (p : ℕ → ℕ) → length xs ≤ length ys → Rises xs → IsMatched xs ys p → slice_cmp R xs ys ≢ Greater
  matched_least [] [] p l up h = λ e. cc
  matched_least [] (y ∷ ys) p l up h = λ e. cc
  matched_least (x ∷ xs) [] p l up h = absurd (omega arith)
  matched_least (x ∷ xs) (y ∷ ys) p l up h =
      then_at_most (R x y) (slice_cmp R xs ys) (first_at_most x y xs ys p up h)
      (λ e. matched_least xs ys (λ t. next p t - 1) (omega arith) (λ i j m k. up (suc i) (suc j) (omega arith) (omega arith)) (rest_matched x y xs ys p up h e))

  -- a sorted list is not above one that it is matched to
  pub sorted_least : (xs ys : List X) (p : ℕ → ℕ) → length xs ≤ length ys → IsSorted R xs → IsMatched xs ys p → slice_cmp R xs ys ≢ Greater
  sorted_least xs ys p l s h = matched_least xs ys p l (λ i j m k. sorted_pairs R o xs s i j d m k) h

-- ---- the places of a permutation

-- i and j exchanged
abbrev exchange : ℕ → ℕ → ℕ → ℕ
exchange i j k = cond (k == i) j (cond (k == j) i k)

exchange_first : (i j k : ℕ) → k ≡ i → exchange i j k ≡ j
exchange_first i j k e = ap (λ b. cond b j (cond (k == j) i k)) (ap (λ x. x == i) e ∙ same_number i)

exchange_second : (i j k : ℕ) → k ≢ i → k ≡ j → exchange i j k ≡ i
exchange_second i j k n e = ap (λ b. cond b j (cond (k == j) i k)) (other_number k i n) ∙ ap (λ b. cond b i k) (ap (λ x. x == j) e ∙ same_number j)

exchange_other : (i j k : ℕ) → k ≢ i → k ≢ j → exchange i j k ≡ k
exchange_other i j k n m = ap (λ b. cond b j (cond (k == j) i k)) (other_number k i n) ∙ ap (λ b. cond b i k) (other_number k j m)

-- what holds of i, j and the others holds of an exchange
exchange_cases : (P : ℕ → ℕ → Type 0) (i j : ℕ) → P i j → (j ≢ i → P j i) → ((k : ℕ) → k ≢ i → k ≢ j → P k k) → (k : ℕ) → P k (exchange i j k)
exchange_cases P i j a b c k = elim (cases_eq k i) [
  | inl e ↦ subst (P k) (sym (exchange_first i j k e)) (subst (λ k. P k j) (sym e) a)
  | inr n ↦ elim (cases_eq k j) [
    | inl e ↦ subst (P k) (sym (exchange_second i j k n e)) (subst (λ k. P k i) (sym e) (b (λ d. n (e ∙ d))))
    | inr m ↦ subst (P k) (sym (exchange_other i j k n m)) (c k n m)
  ]
]

exchange_twice : (i j k : ℕ) → exchange i j (exchange i j k) ≡ k
exchange_twice i j k =
    exchange_cases (λ k l. exchange i j l ≡ k) i j
    (elim (cases_eq j i) [ inl e ↦ exchange_first i j j e ∙ e | inr n ↦ exchange_second i j j n refl ])
    (λ n. exchange_first i j i refl)
    (λ k n m. exchange_other i j k n m) k

module _ {X : Type 0} (d : X) where
  -- each element of xs has a place of its own in ys
  pub record ArePlaces (xs ys : List X) (p : ℕ → ℕ) : Type 0 where
    pub injection : IsInjection (length xs) p
    pub at : (t : ℕ) → t < length xs → get_or ys (p t) d ≡ get_or xs t d

  swap-at : (l : List X) (i j : ℕ) → i < length l → j < length l → (k : ℕ) → get_or (swap l i j) (exchange i j k) d ≡ get_or l k d
  swap-at l i j a b k =
      ap (λ l. get_or l (exchange i j k) d) (sym (swap_is l i j d a b))
      ∙ exchange_cases (λ k m. get_or (set w j (get_or l i d)) m d ≡ get_or l k d) i j
      (get_or-set_same w j (get_or l i d) d (let e : length w ≡ length l = length-set l i (get_or l j d) in omega arith))
      (λ n. get_or-set_other w j i (get_or l i d) d (λ e. n (sym e)) ∙ get_or-set_same l i (get_or l j d) d a)
      (λ k n m. get_or-set_other w j k (get_or l i d) d m ∙ get_or-set_other l i k (get_or l j d) d n) k
    where
      w : List X
      w = set l i (get_or l j d)

  -- some places, and the length
  Placed : List X → List X → Type 0
  Placed xs ys = (p : ℕ → ℕ) × (length ys ≡ length xs) × ArePlaces xs ys p

  start : (xs : List X) → Placed xs xs
  unfolding Placed
  start xs = ((λ t. t), refl, record { injection = record { below = λ t l. l; apart = λ s t l m e. e }; at = λ t l. refl })

  step : (xs l : List X) (i j : ℕ) → i < length l → j < length l → Placed xs l → Placed xs (swap l i j)
  unfolding Placed
  step xs l i j a b (p, e, h) = (
    (λ t. exchange i j (p t)),
    length-swap l i j ∙ e,
    record {
      injection = record {
        below = λ t m. exchange_cases (λ k x. k < length xs → x < length xs) i j (λ _. (omega arith)) (λ _ _. (omega arith))
            (λ k _ _ y. y) (p t) (let q = h.injection in q.below t m);
        apart = λ s t m n x. (let q = h.injection in q.apart s t m n (sym (exchange_twice i j (p s)) ∙ ap (exchange i j) x ∙ exchange_twice i j (p t)));
      };
      at = λ t m. swap-at l i j a b (p t) ∙ h.at t m;
    },
  )

  -- the places that a permutation gives
  pub permutation_places : (xs ys : List X) → IsPermutation xs ys → (p : ℕ → ℕ) × (length ys ≡ length xs) × ArePlaces xs ys p
  unfolding Placed
  permutation_places xs ys h = IsPermutation-keeps xs (Placed xs) (start xs) (λ l i j. step xs l i j) ys h
