-- Sums over a field: they add, scale, exchange and pick one term.
use Rattle.std.proofs.Common.{◌≡◌, ◌≢◌, ℕ, zero, suc, ◌<◌, refl, sym, ◌∙◌, ap, true, false, arith, inl, inr, eqb-true, cond, eq-eqb, ◌≤◌}
use Rattle.matroid_theory.specs.Move.{ArePermutation}
use Rattle.std.specs.Bool.{◌==◌}
use Rattle.std.proofs.lemmas.Bool.{cases_lt, cases_Bool}
use Rattle.matroid_theory.specs.Field.{plus, times, negative, IsField}
use Rattle.matroid_theory.specs.Matrix.{Matrix, sum_below, combination, matrix_product, unit, AreInverse}

pub same_number : (i : ℕ) → (i == i) ≡ true
same_number i = eq-eqb i i refl

pub other_number : (i j : ℕ) → i ≢ j → (i == j) ≡ false
other_number i j n = elim (cases_Bool (i == j)) [ inl t ↦ absurd (n (eqb-true i j t)) | inr f ↦ f ]

module _ (q : ℕ) (F : IsField q) where
  pub zero_below : 0 < q
  zero_below = let t = F.two in omega arith

  pub plus_zero_right : (a : ℕ) → a < q → plus q a 0 ≡ a
  plus_zero_right a l = F.plus_comm a 0 ∙ F.plus_zero a l

  -- (a + b) + (c + d) = (a + c) + (b + d)
  pub plus_swap : (a b c d : ℕ) → plus q (plus q a b) (plus q c d) ≡ plus q (plus q a c) (plus q b d)
  plus_swap a b c d =
      F.plus_assoc a b (plus q c d)
      ∙ ap (plus q a) (sym (F.plus_assoc b c d) ∙ ap (λ x. plus q x d) (F.plus_comm b c) ∙ F.plus_assoc c b d)
      ∙ sym (F.plus_assoc a c (plus q b d))

  pub sum_below-code : (n : ℕ) (f : ℕ → ℕ) → sum_below q n f < q
  sum_below-code zero f = zero_below
  sum_below-code (suc n) f = F.plus_below (sum_below q n f) (f n)

  -- a sum whose terms agree
  pub sum_same : (n : ℕ) (f g : ℕ → ℕ) → ((j : ℕ) → j < n → f j ≡ g j) → sum_below q n f ≡ sum_below q n g
  sum_same zero f g h = refl
  sum_same (suc n) f g h = λ i. plus q (sum_same n f g (λ j l. h j (omega arith)) i) (h n (omega arith) i)

  pub sum_zero : (n : ℕ) → sum_below q n (λ _. 0) ≡ 0
  sum_zero zero = refl
  sum_zero (suc n) = ap (λ x. plus q x 0) (sum_zero n) ∙ F.plus_zero 0 zero_below

  pub sum_plus : (n : ℕ) (f g : ℕ → ℕ) → sum_below q n (λ j. plus q (f j) (g j)) ≡ plus q (sum_below q n f) (sum_below q n g)
  sum_plus zero f g = sym (F.plus_zero 0 zero_below)
  sum_plus (suc n) f g =
      ap (λ x. plus q x (plus q (f n) (g n))) (sum_plus n f g) ∙ plus_swap (sum_below q n f) (sum_below q n g) (f n) (g n)

  -- a + a = a only for 0
  pub plus_cancel : (a b c : ℕ) → b < q → c < q → plus q a b ≡ plus q a c → b ≡ c
  plus_cancel a b c l m h =
      sym (undo b l) ∙ ap (plus q (negative q a)) h ∙ undo c m
    where
      undo : (x : ℕ) → x < q → plus q (negative q a) (plus q a x) ≡ x
      undo x k =
          sym (F.plus_assoc (negative q a) a x)
          ∙ ap (λ y. plus q y x) (F.plus_comm (negative q a) a ∙ F.plus_negative a)
          ∙ F.plus_zero x k

  pub times_zero : (a : ℕ) → times q a 0 ≡ 0
  times_zero a =
      plus_cancel (times q a 0) (times q a 0) 0 (F.times_below a 0) zero_below
      (sym (F.times_plus a 0 0) ∙ ap (times q a) (F.plus_zero 0 zero_below) ∙ sym (plus_zero_right (times q a 0) (F.times_below a 0)))

  pub zero_times : (a : ℕ) → times q 0 a ≡ 0
  zero_times a = F.times_comm 0 a ∙ times_zero a

  pub sum_times : (n : ℕ) (c : ℕ) (f : ℕ → ℕ) → sum_below q n (λ j. times q c (f j)) ≡ times q c (sum_below q n f)
  sum_times zero c f = sym (times_zero c)
  sum_times (suc n) c f =
      ap (λ x. plus q x (times q c (f n))) (sum_times n c f) ∙ sym (F.times_plus c (sum_below q n f) (f n))

  -- sums exchange
  pub sum_swap : (n m : ℕ) (f : ℕ → ℕ → ℕ) → sum_below q n (λ i. sum_below q m (λ j. f i j)) ≡ sum_below q m (λ j. sum_below q n (λ i. f i j))
  sum_swap zero m f = sym (sum_zero m)
  sum_swap (suc n) m f =
      ap (λ x. plus q x (sum_below q m (λ j. f n j))) (sum_swap n m f)
      ∙ sym (sum_plus m (λ j. sum_below q n (λ i. f i j)) (λ j. f n j))

  -- a sum with at most one term that isn't 0
  pub sum_one : (n : ℕ) (k : ℕ) (f : ℕ → ℕ) → k < n → f k < q → ((j : ℕ) → j < n → j ≢ k → f j ≡ 0) → sum_below q n f ≡ f k
  sum_one zero k f l c h = absurd (omega arith)
  sum_one (suc n) k f l c h =
      elim (cases_lt k n) [
        | inl b ↦ (let ne : n ≢ k = omega arith in
            ap (plus q (sum_below q n f)) (h n (omega arith) ne)
            ∙ plus_zero_right (sum_below q n f) (sum_below-code n f)
            ∙ sum_one n k f b c (λ j l'. h j (omega arith)))
        | inr g ↦ (let e : n ≡ k = omega arith in
            ap (λ x. plus q x (f n)) (sum_same n f (λ _. 0) (λ j l'. h j (omega arith) (omega arith)) ∙ sum_zero n)
            ∙ ap (λ x. plus q 0 (f x)) e
            ∙ F.plus_zero (f k) c)
      ]

  pub sum_times_right : (n : ℕ) (c : ℕ) (f : ℕ → ℕ) → sum_below q n (λ j. times q (f j) c) ≡ times q (sum_below q n f) c
  sum_times_right n c f =
      sum_same n (λ j. times q (f j) c) (λ j. times q c (f j)) (λ j _. F.times_comm (f j) c)
      ∙ sum_times n c f ∙ F.times_comm c (sum_below q n f)

  -- the identity matrix picks an entry
  pub combination-unit : (n : ℕ) (a : ℕ → ℕ) (i : ℕ) → i < n → a i < q → combination q n unit a i ≡ a i
  combination-unit n a i l c =
      sum_one n i (λ j. times q (unit i j) (a j)) l (F.times_below (unit i i) (a i)) other ∙ here
    where
      here : times q (unit i i) (a i) ≡ a i
      here = ap (λ b. times q (cond b 1 0) (a i)) (same_number i) ∙ F.times_one (a i) c

      other : (j : ℕ) → j < n → j ≢ i → times q (unit i j) (a j) ≡ 0
      other j _ ne = ap (λ b. times q (cond b 1 0) (a j)) (other_number i j (λ e. ne (sym e))) ∙ zero_times (a j)

  -- (G H) a = G (H a)
  pub combination-product : (n m : ℕ) (G H : Matrix) (a : ℕ → ℕ) (i : ℕ) →
      combination q n (matrix_product q m G H) a i ≡ combination q m G (combination q n H a) i
  combination-product n m G H a i =
      sum_same n (λ j. times q (sum_below q m (λ k. times q (G i k) (H k j))) (a j)) (λ j. sum_below q m (λ k. times q (times q (G i k) (H k j)) (a j)))
      (λ j _. sym (sum_times_right m (a j) (λ k. times q (G i k) (H k j))))
      ∙ sum_swap n m (λ j k. times q (times q (G i k) (H k j)) (a j))
      ∙ sum_same m (λ k. sum_below q n (λ j. times q (times q (G i k) (H k j)) (a j))) (λ k. times q (G i k) (combination q n H a k))
      (λ k _. sum_same n (λ j. times q (times q (G i k) (H k j)) (a j)) (λ j. times q (G i k) (times q (H k j) (a j)))
      (λ j _. F.times_assoc (G i k) (H k j) (a j))
      ∙ sum_times n (G i k) (λ j. times q (H k j) (a j)))

  pub combination-same : (n : ℕ) (A : Matrix) (a b : ℕ → ℕ) (i : ℕ) → ((j : ℕ) → j < n → a j ≡ b j) → combination q n A a i ≡ combination q n A b i
  combination-same n A a b i h = sum_same n (λ j. times q (A i j) (a j)) (λ j. times q (A i j) (b j)) (λ j l. ap (times q (A i j)) (h j l))

  pub combination-scaled : (n : ℕ) (A : Matrix) (c : ℕ) (a : ℕ → ℕ) (i : ℕ) → combination q n A (λ j. times q c (a j)) i ≡ times q c (combination q n A a i)
  combination-scaled n A c a i =
      sum_same n (λ j. times q (A i j) (times q c (a j))) (λ j. times q c (times q (A i j) (a j)))
      (λ j _. sym (F.times_assoc (A i j) c (a j)) ∙ ap (λ x. times q x (a j)) (F.times_comm (A i j) c) ∙ F.times_assoc c (A i j) (a j))
      ∙ sum_times n c (λ j. times q (A i j) (a j))

  -- G (H A) = A for inverse matrices, row by row
  pub inverse-undoes : (r : ℕ) (G H : Matrix) → AreInverse q r G H → (a : ℕ → ℕ) (i : ℕ) → i < r → a i < q → combination q r G (combination q r H a) i ≡ a i
  inverse-undoes r G H v a i l c =
      sym (combination-product r r G H a i)
      ∙ sum_same r (λ j. times q (matrix_product q r G H i j) (a j)) (λ j. times q (unit i j) (a j)) (λ j m. ap (λ x. times q x (a j)) (v.right i j l m))
      ∙ combination-unit r a i l c

  -- a sum whose terms from k on are 0
  pub sum_start : (k n : ℕ) (f : ℕ → ℕ) → k ≤ n → ((j : ℕ) → k ≤ j → j < n → f j ≡ 0) → sum_below q n f ≡ sum_below q k f
  sum_start k zero f le z = (let e : zero ≡ k = omega arith in ap (λ n. sum_below q n f) e)
  sum_start k (suc n) f le z =
      elim (cases_lt n k) [
        | inl b ↦ (let e : suc n ≡ k = omega arith in ap (λ n. sum_below q n f) e)
        | inr g ↦ ap (plus q (sum_below q n f)) (z n g (omega arith))
            ∙ plus_zero_right (sum_below q n f) (sum_below-code n f) ∙ sum_start k n f g (λ j l m. z j l (omega arith))
      ]

  -- a sum in another order
  pub sum_relabelled : (n : ℕ) (p u : ℕ → ℕ) → ArePermutation n p u → (f : ℕ → ℕ) → ((j : ℕ) → j < n → f j < q) → sum_below q n (λ j. f (p j)) ≡ sum_below q n f
  sum_relabelled n p u v f c =
      sum_same n (λ j. f (p j)) (λ j. sum_below q n (λ k. times q (unit (p j) k) (f k)))
      (λ j l. sym (combination-unit n f (p j) (v.below j l) (c (p j) (v.below j l))))
      ∙ sum_swap n n (λ j k. times q (unit (p j) k) (f k))
      ∙ sum_same n (λ k. sum_below q n (λ j. times q (unit (p j) k) (f k))) f at
    where
      at : (k : ℕ) → k < n → sum_below q n (λ j. times q (unit (p j) k) (f k)) ≡ f k
      at k l =
          sum_one n (u k) (λ j. times q (unit (p j) k) (f k)) (v.inverse_below k l) (F.times_below (unit (p (u k)) k) (f k)) other
          ∙ ap (λ x. times q (unit x k) (f k)) (v.back k l)
          ∙ ap (λ b. times q (cond b 1 0) (f k)) (same_number k)
          ∙ F.times_one (f k) (c k l)
        where
          other : (j : ℕ) → j < n → j ≢ u k → times q (unit (p j) k) (f k) ≡ 0
          other j m ne = ap (λ b. times q (cond b 1 0) (f k)) (other_number (p j) k (λ e. ne (sym (v.there j m) ∙ ap u e))) ∙ zero_times (f k)
