-- Places in a list of labels: n different labels below n are a permutation.
use Rattle.std.proofs.Common.{◌≡◌, ◌≢◌, ℕ, zero, suc, ◌<◌, ◌≤◌, sym, ◌∙◌, subst, refl, arith, List, [], ◌∷◌, length, inl, inr, ◌⊎◌}
use Rattle.std.specs.List.{AllPairs, Contains, slice_index}
use Rattle.std.proofs.lemmas.Bool.{cases_lt, cases_eq, cases_order}
use Rattle.std.proofs.lemmas.List.{get_or_default}
use Rattle.matroid_theory.specs.Move.{ArePermutation}
use Rattle.matrix_lemmas.proofs.Lists.{distinct_length}
use Rattle.base_iso.specs.Started.{AreLabels}

-- a number stands in a list or at no place of it
pub stands : (xs : List ℕ) (j : ℕ) → Contains xs j ⊎ ((i : ℕ) → i < length xs → slice_index xs i ≢ j)
stands [] j = inr (λ i l. absurd (omega arith))
stands (x ∷ xs) j =
    elim (cases_eq x j) [
      | inl e ↦ inl (0, omega arith, e)
      | inr n ↦ elim (stands xs j) [
        | inl c ↦ inl (suc c.0, (let l = c.1 in omega arith), c.2)
        | inr o ↦ inr (later n o)
      ]
    ]
  where
    later : x ≢ j → ((i : ℕ) → i < length xs → slice_index xs i ≢ j) → (i : ℕ) → i < length (x ∷ xs) → slice_index (x ∷ xs) i ≢ j
    later n o zero l = n
    later n o (suc i) l = o i (omega arith)

pick : (xs : List ℕ) (j : ℕ) → Contains xs j ⊎ ((i : ℕ) → i < length xs → slice_index xs i ≢ j) → ℕ
pick xs j (inl c) = c.0
pick xs j (inr _) = 0

-- the place of a number in a list
pub place : List ℕ → ℕ → ℕ
place xs j = pick xs j (stands xs j)

pub place_at : (xs : List ℕ) (j : ℕ) → Contains xs j → (place xs j < length xs) × (slice_index xs (place xs j) ≡ j)
unfolding place pick
place_at xs j c = at (stands xs j)
  where
    at : (s : Contains xs j ⊎ ((i : ℕ) → i < length xs → slice_index xs i ≢ j)) → (pick xs j s < length xs) × (slice_index xs (pick xs j s) ≡ j)
    at (inl (k, l, e)) = (l, sym (get_or_default xs k j 0 l) ∙ e)
    at (inr o) = let (k, l, e) = c in absurd (o k l (sym (get_or_default xs k j 0 l) ∙ e))

-- the numbers below n
upto : ℕ → List ℕ
upto zero = []
upto (suc n) = n ∷ upto n

length-upto : (n : ℕ) → length (upto n) ≡ n
unfolding upto
length-upto zero = refl
length-upto (suc n) = let e : length (upto n) ≡ n = length-upto n in omega arith

in_upto : (n j : ℕ) → j < n → Contains (upto n) j
unfolding upto
in_upto zero j l = absurd (omega arith)
in_upto (suc n) j l =
    elim (cases_lt j n) [
      | inl b ↦ (let c = in_upto n j b in (suc c.0, (let l = c.1 in omega arith), c.2))
      | inr g ↦ (0, omega arith, omega arith)
    ]

module _ (n : ℕ) (labels : List ℕ) (h : AreLabels n labels) where
  labels_apart : AllPairs (λ x y. x ≢ y) labels
  labels_apart i j d l m e = h.apart i j l m (sym (get_or_default labels i d 0 (omega arith)) ∙ e ∙ get_or_default labels j d 0 m)

  pub same_place : (i j : ℕ) → i < length labels → j < length labels → slice_index labels i ≡ slice_index labels j → i ≡ j
  same_place i j l m e = elim (cases_order i j) [
    | inl s ↦ s
    | inr o ↦ elim o [ inl b ↦ absurd (h.apart i j b m e) | inr b ↦ absurd (h.apart j i b l (sym e)) ]
  ]

  -- so all numbers below n are among n labels
  all_stand : length labels ≡ n → (j : ℕ) → j < n → Contains labels j
  all_stand s j l = elim (stands labels j) [
    | inl c ↦ c
    | inr o ↦ absurd (too_many o)
  ]
    where
      with_one : ((i : ℕ) → i < length labels → slice_index labels i ≢ j) → AllPairs (λ x y. x ≢ y) (j ∷ labels)
      with_one o zero zero d a b = absurd (omega arith)
      with_one o zero (suc k) d a b = λ e. o k (omega arith) (sym (get_or_default labels k d 0 (omega arith)) ∙ sym e)
      with_one o (suc i) zero d a b = absurd (omega arith)
      with_one o (suc i) (suc k) d a b = labels_apart i k d (omega arith) (omega arith)

      below : (z : ℕ) → Contains (j ∷ labels) z → Contains (upto n) z
      below z (zero, a, e) = in_upto n z (subst (λ x. x < n) e l)
      below z (suc k, a, e) = (let b : k < length labels = omega arith in
          in_upto n z (subst (λ x. x < n) (sym (get_or_default labels k z 0 b) ∙ e) (h.below k b)))

      too_many : ((i : ℕ) → i < length labels → slice_index labels i ≢ j) → ⊥
      too_many o =
          let m : length (j ∷ labels) ≤ length (upto n) = distinct_length (j ∷ labels) (upto n) (with_one o) below in
          let e : length (upto n) ≡ n = length-upto n in
          omega arith

  -- n different labels below n are a permutation
  pub labels_permute : length labels ≡ n → ArePermutation n (slice_index labels) (place labels)
  labels_permute s = record {
    below = λ j l. h.below j (omega arith);
    inverse_below = λ j l. let b : place labels j < length labels = (place_at labels j (all_stand s j l)).0 in omega arith;
    there = λ j l. let a = place_at labels (slice_index labels j) (all_stand s (slice_index labels j) (h.below j (omega arith))) in
        same_place (place labels (slice_index labels j)) j a.0 (omega arith) a.1;
    back = λ j l. (place_at labels j (all_stand s j l)).1;
  }
