-- The size of a set of column numbers: it stays under a relabelling.
use Rattle.std.proofs.Common.{◌≡◌, ◌≢◌, ℕ, zero, suc, ◌+◌, ◌<◌, refl, sym, ◌∙◌, ap, arith, cond, Bool, inl, inr}
use Rattle.std.specs.Bool.{◌==◌}
use Rattle.std.proofs.lemmas.Bool.{cases_lt}
use Rattle.matroid_theory.specs.Matrix.{size_below}
use Rattle.matroid_theory.specs.Move.{ArePermutation}
use Rattle.matrix_lemmas.proofs.Sums.{same_number, other_number}

-- the sum f 0 + .. + f (n - 1) of numbers
abbrev pub total : ℕ → (ℕ → ℕ) → ℕ
total zero f = 0
total (suc n) f = total n f + f n

total_same : (n : ℕ) (f g : ℕ → ℕ) → ((j : ℕ) → j < n → f j ≡ g j) → total n f ≡ total n g
total_same zero f g h = refl
total_same (suc n) f g h = λ i. total_same n f g (λ j l. h j (omega arith)) i + h n (omega arith) i

total_zero : (n : ℕ) → total n (λ _. 0) ≡ 0
total_zero zero = refl
total_zero (suc n) = let e : total n (λ _. 0) ≡ 0 = total_zero n in omega arith

total_plus : (n : ℕ) (f g : ℕ → ℕ) → total n (λ j. f j + g j) ≡ total n f + total n g
total_plus zero f g = refl
total_plus (suc n) f g = let e : total n (λ j. f j + g j) ≡ total n f + total n g = total_plus n f g in omega arith

total_swap : (n m : ℕ) (f : ℕ → ℕ → ℕ) → total n (λ i. total m (λ j. f i j)) ≡ total m (λ j. total n (λ i. f i j))
total_swap zero m f = sym (total_zero m)
total_swap (suc n) m f = ap (λ x. x + total m (λ j. f n j)) (total_swap n m f) ∙ sym (total_plus m (λ j. total n (λ i. f i j)) (λ j. f n j))

total_one : (n : ℕ) (k : ℕ) (f : ℕ → ℕ) → k < n → ((j : ℕ) → j < n → j ≢ k → f j ≡ 0) → total n f ≡ f k
total_one zero k f l h = absurd (omega arith)
total_one (suc n) k f l h =
    elim (cases_lt k n) [
      | inl b ↦ (let e : total n f ≡ f k = total_one n k f b (λ j l'. h j (omega arith)) in
          let z : f n ≡ 0 = h n (omega arith) (omega arith) in omega arith)
      | inr g ↦ (let z : total n f ≡ 0 = total_same n f (λ _. 0) (λ j l'. h j (omega arith) (omega arith)) ∙ total_zero n in
          let e : f n ≡ f k = ap f (omega arith) in omega arith)
    ]

pub total_relabelled : (n : ℕ) (p u : ℕ → ℕ) → ArePermutation n p u → (f : ℕ → ℕ) → total n (λ j. f (p j)) ≡ total n f
total_relabelled n p u v f =
    total_same n (λ j. f (p j)) (λ j. total n (λ k. cond (p j == k) (f k) 0)) (λ j l. sym (row j l))
    ∙ total_swap n n (λ j k. cond (p j == k) (f k) 0)
    ∙ total_same n (λ k. total n (λ j. cond (p j == k) (f k) 0)) f at
  where
    row : (j : ℕ) → j < n → total n (λ k. cond (p j == k) (f k) 0) ≡ f (p j)
    row j l = total_one n (p j) (λ k. cond (p j == k) (f k) 0) (v.below j l)
        (λ k _ ne. ap (λ b. cond b (f k) 0) (other_number (p j) k (λ e. ne (sym e)))) ∙ ap (λ b. cond b (f (p j)) 0) (same_number (p j))

    at : (k : ℕ) → k < n → total n (λ j. cond (p j == k) (f k) 0) ≡ f k
    at k l =
        total_one n (u k) (λ j. cond (p j == k) (f k) 0) (v.inverse_below k l)
        (λ j m ne. ap (λ b. cond b (f k) 0) (other_number (p j) k (λ e. ne (sym (v.there j m) ∙ ap u e))))
        ∙ ap (λ b. cond b (f k) 0) (ap (λ x. x == k) (v.back k l) ∙ same_number k)

size-total : (n : ℕ) (S : ℕ → Bool) → size_below n S ≡ total n (λ j. cond (S j) 1 0)
size-total zero S = refl
size-total (suc n) S = ap (λ x. x + cond (S n) 1 0) (size-total n S)

pub size_relabelled : (n : ℕ) (p u : ℕ → ℕ) → ArePermutation n p u → (S : ℕ → Bool) → size_below n (λ j. S (p j)) ≡ size_below n S
size_relabelled n p u v S = size-total n (λ j. S (p j)) ∙ total_relabelled n p u v (λ j. cond (S j) 1 0) ∙ sym (size-total n S)
