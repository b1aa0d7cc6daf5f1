-- Lists that are determined by what they contain.
use Rattle.std.proofs.Common.{◌≡◌, ◌≢◌, ℕ, zero, suc, ◌+◌, ◌<◌, ◌≤◌, refl, sym, ◌∙◌, ap, subst, arith, List, [], ◌∷◌, length, inl, inr, ◌⊎◌}
use Rattle.std.specs.List.{AllPairs, Contains, slice_index_or, remove}
use Rattle.std.proofs.lemmas.List.{get_or_default}
use Rattle.std.proofs.lemmas.Grind.{in_remove, common_steps}

module _ {X : Type 0} where
  pub here : (x : X) (xs : List X) → Contains (x ∷ xs) x
  here x xs = (0, omega arith, refl)

  pub there : (x z : X) (xs : List X) → Contains xs z → Contains (x ∷ xs) z
  there x z xs h = (suc h.0, (let l = h.1 in omega arith), h.2)

  -- an element of a list is the first or one of the rest
  pub found : (x z : X) (xs : List X) → Contains (x ∷ xs) z → (x ≡ z) ⊎ Contains xs z
  found x z xs (zero, l, e) = inl e
  found x z xs (suc k, l, e) = inr (k, omega arith, e)

  pub rest_pairs : (R : X → X → Type 0) (x : X) (xs : List X) → AllPairs R (x ∷ xs) → AllPairs R xs
  rest_pairs R x xs h i j d l m = h (suc i) (suc j) d (omega arith) (omega arith)

  pub first_pairs : (R : X → X → Type 0) (x z : X) (xs : List X) → AllPairs R (x ∷ xs) → Contains xs z → R x z
  first_pairs R x z xs h (k, l, e) = subst (R x) e (h 0 (suc k) z (omega arith) (omega arith))

  -- two lists that rise and contain the same are equal
  pub rising_unique : (L : X → X → Type 0) → ((x : X) → ¬ (L x x)) → ((x y z : X) → L x y → L y z → L x z) → (xs ys : List X) →
      AllPairs L xs → AllPairs L ys → ((z : X) → Contains xs z → Contains ys z) → ((z : X) → Contains ys z → Contains xs z) → xs ≡ ys
  rising_unique L apart chain [] [] h g f b = refl
  rising_unique L apart chain [] (y ∷ ys) h g f b = let (k, l, e) = b y (here y ys) in absurd (omega arith)
  rising_unique L apart chain (x ∷ xs) [] h g f b = let (k, l, e) = f x (here x xs) in absurd (omega arith)
  rising_unique L apart chain (x ∷ xs) (y ∷ ys) h g f b =
      λ i. heads i ∷ rising_unique L apart chain xs ys (rest_pairs L x xs h) (rest_pairs L y ys g) down up i
    where
      heads : x ≡ y
      heads =
          elim (found y x ys (f x (here x xs))) [
            | inl e ↦ sym e
            | inr p ↦ elim (found x y xs (b y (here y ys))) [
              | inl e ↦ e
              | inr q ↦ absurd (apart x (chain x y x (first_pairs L x y xs h q) (first_pairs L y x ys g p)))
            ]
          ]

      down : (z : X) → Contains xs z → Contains ys z
      down z m = elim (found y z ys (f z (there x z xs m))) [ inl e ↦ absurd (apart x (subst (L x) (sym (heads ∙ e)) (first_pairs L x z xs h m))) | inr p ↦ p ]

      up : (z : X) → Contains ys z → Contains xs z
      up z m = elim (found x z xs (b z (there y z ys m)))
          [ inl e ↦ absurd (apart y (subst (L y) (sym (sym heads ∙ e)) (first_pairs L y z ys g m))) | inr p ↦ p ]

  -- a list without repeats is no longer than one that contains all of it
  pub distinct_length : (xs ys : List X) → AllPairs (λ x y. x ≢ y) xs → ((z : X) → Contains xs z → Contains ys z) → length xs ≤ length ys
  distinct_length [] ys h f = omega arith
  distinct_length (x ∷ xs) ys h f =
      let at = f x (here x xs) in
      let k : length (remove ys at.0) + 1 ≡ length ys = shorter ys at.0 at.1 in
      let r : length xs ≤ length (remove ys at.0) = distinct_length xs (remove ys at.0) (rest_pairs (λ x y. x ≢ y) x xs h) (keep at) in
      omega arith
    where
      shorter : (ys : List X) (i : ℕ) → i < length ys → length (remove ys i) + 1 ≡ length ys
      shorter ys i l = grind (arith, common_steps)

      keep : (at : Contains ys x) → (z : X) → Contains xs z → Contains (remove ys at.0) z
      keep (i, l, e) z m =
          let (j, b, d) = f z (there x z xs m) in
          (in_remove ys i j z l b (sym d)
          (λ o. first_pairs (λ x y. x ≢ y) x z xs h m (sym e ∙ get_or_default ys i x z l ∙ ap (λ k. slice_index_or ys k z) (sym o) ∙ d))).1
