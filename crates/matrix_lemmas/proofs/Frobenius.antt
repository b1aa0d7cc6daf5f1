-- Powers of the Frobenius automorphism, and products that aren't 0.
use Rattle.std.proofs.Common.{◌≡◌, ◌≢◌, ℕ, zero, suc, ◌+◌, ◌-◌, ◌*◌, ◌/◌, ◌%◌, ◌<◌, refl, sym, ◌∙◌, ap, arith, zero-add, cond, true, false}
use Rattle.std.specs.Bool.{◌==◌}
use Rattle.matroid_theory.specs.Field.{plus, times, inverse, frobenius, degree, raised, IsField}
use Rattle.matroid_theory.specs.Matrix.{Matrix, sum_below, combination, matrix_product, AreInverse, unit}
use Rattle.matrix_lemmas.proofs.Sums.{zero_below, plus_cancel, plus_zero_right, times_zero, sum_same, combination-product, combination-same, inverse-undoes}

module _ (q : ℕ) (F : IsField q) where
  pub raised_below : (t a : ℕ) → a < q → raised q t a < q
  raised_below zero a l = l
  raised_below (suc t) a l = F.frobenius_below (raised q t a)

  pub raised_plus : (t a b : ℕ) → raised q t (plus q a b) ≡ plus q (raised q t a) (raised q t b)
  raised_plus zero a b = refl
  raised_plus (suc t) a b = ap (frobenius q) (raised_plus t a b) ∙ F.frobenius_plus (raised q t a) (raised q t b)

  pub raised_times : (t a b : ℕ) → raised q t (times q a b) ≡ times q (raised q t a) (raised q t b)
  raised_times zero a b = refl
  raised_times (suc t) a b = ap (frobenius q) (raised_times t a b) ∙ F.frobenius_times (raised q t a) (raised q t b)

  frobenius_zero : frobenius q 0 ≡ 0
  frobenius_zero =
      plus_cancel q F (frobenius q 0) (frobenius q 0) 0 (F.frobenius_below 0) (zero_below q F)
      (sym (F.frobenius_plus 0 0) ∙ ap (frobenius q) (F.plus_zero 0 (zero_below q F)) ∙ sym (plus_zero_right q F (frobenius q 0) (F.frobenius_below 0)))

  pub raised_zero : (t : ℕ) → raised q t 0 ≡ 0
  raised_zero zero = refl
  raised_zero (suc t) = ap (frobenius q) (raised_zero t) ∙ frobenius_zero

  pub raised_one : (t : ℕ) → raised q t 1 ≡ 1
  raised_one zero = refl
  raised_one (suc t) = ap (frobenius q) (raised_one t) ∙ F.frobenius_one

  pub raised_sum : (t n : ℕ) (f : ℕ → ℕ) → raised q t (sum_below q n f) ≡ sum_below q n (λ j. raised q t (f j))
  raised_sum t zero f = raised_zero t
  raised_sum t (suc n) f = raised_plus t (sum_below q n f) (f n) ∙ ap (λ x. plus q x (raised q t (f n))) (raised_sum t n f)

  pub raised_combination : (t n : ℕ) (A : Matrix) (a : ℕ → ℕ) (i : ℕ) →
      raised q t (combination q n A a i) ≡ combination q n (λ k l. raised q t (A k l)) (λ k. raised q t (a k)) i
  raised_combination t n A a i =
      raised_sum t n (λ j. times q (A i j) (a j))
      ∙ sum_same q F n (λ j. raised q t (times q (A i j) (a j))) (λ j. times q (raised q t (A i j)) (raised q t (a j)))
      (λ j _. raised_times t (A i j) (a j))

  pub raised_add : (s t a : ℕ) → raised q (s + t) a ≡ raised q s (raised q t a)
  raised_add zero t a = ap (λ n. raised q n a) (zero-add t)
  raised_add (suc s) t a = (let e : suc s + t ≡ suc (s + t) = omega arith in ap (λ n. raised q n a) e) ∙ ap (frobenius q) (raised_add s t a)

  raised_turns : (m a : ℕ) → a < q → raised q (degree q * m) a ≡ a
  raised_turns zero a l = (let e : degree q * 0 ≡ 0 = omega arith in ap (λ n. raised q n a) e)
  raised_turns (suc m) a l =
      (let e : degree q * suc m ≡ degree q * m + degree q = omega arith in ap (λ n. raised q n a) e)
      ∙ raised_add (degree q * m) (degree q) a
      ∙ ap (raised q (degree q * m)) (F.frobenius_cycle a l)
      ∙ raised_turns m a l

  pub raised-mod : (t a : ℕ) → 0 < degree q → a < q → raised q (t % degree q) a ≡ raised q t a
  raised-mod t a k l =
      sym ((let e : t ≡ t % degree q + degree q * (t / degree q) = omega arith in ap (λ n. raised q n a) e)
      ∙ raised_add (t % degree q) (degree q * (t / degree q)) a
      ∙ ap (raised q (t % degree q)) (raised_turns (t / degree q) a l))

  -- the power that undoes t
  abbrev pub undoing : ℕ → ℕ
  undoing t = (degree q - t) % degree q

  pub raised_undone : (t a : ℕ) → t < degree q → a < q → raised q (undoing t) (raised q t a) ≡ a
  raised_undone t a k l =
      raised-mod (degree q - t) (raised q t a) (omega arith) (raised_below t a l)
      ∙ sym (raised_add (degree q - t) t a)
      ∙ (let e : degree q - t + t ≡ degree q = omega arith in ap (λ n. raised q n a) e)
      ∙ F.frobenius_cycle a l

  pub raised_nonzero : (t a : ℕ) → t < degree q → a < q → a ≢ 0 → raised q t a ≢ 0
  raised_nonzero t a k l n e = n (sym (raised_undone t a k l) ∙ ap (raised q (undoing t)) e ∙ raised_zero (undoing t))

  -- a factor that isn't 0 is cancelled
  pub times_undone : (a b : ℕ) → a < q → a ≢ 0 → b < q → times q (inverse q a) (times q a b) ≡ b
  times_undone a b l n m =
      sym (F.times_assoc (inverse q a) a b)
      ∙ ap (λ x. times q x b) (F.times_comm (inverse q a) a ∙ F.times_inverse a l n)
      ∙ F.times_one b m

  pub times_nonzero : (a b : ℕ) → a < q → b < q → a ≢ 0 → b ≢ 0 → times q a b ≢ 0
  times_nonzero a b l m n k e = k (sym (times_undone a b l n m) ∙ ap (times q (inverse q a)) e ∙ times_zero q F (inverse q a))

  pub inverse_nonzero : (a : ℕ) → a < q → a ≢ 0 → inverse q a ≢ 0
  inverse_nonzero a l n e =
      let z : zero ≡ 1 = sym (times_zero q F a) ∙ ap (times q a) (sym e) ∙ F.times_inverse a l n in
      omega arith

  -- (A B) and (B' A') are inverse if A, A' and B, B' are
  half : (r : ℕ) (A B A' B' : Matrix) → AreInverse q r B B' → ((i j : ℕ) → i < r → j < r → matrix_product q r A A' i j ≡ unit i j) →
      ((i j : ℕ) → i < r → j < r → A' i j < q) → (i j : ℕ) → i < r → j < r →
      matrix_product q r (matrix_product q r A B) (matrix_product q r B' A') i j ≡ unit i j
  half r A B A' B' v h c i j l m =
      combination-product q F r r A B (λ k. matrix_product q r B' A' k j) i
      ∙ combination-same q F r A (combination q r B (λ k. matrix_product q r B' A' k j)) (λ k. A' k j) i
      (λ k k'. inverse-undoes q F r B B' v (λ x. A' x j) k k' (c k j k' m))
      ∙ h i j l m

  pub turned : (r : ℕ) (G H : Matrix) → AreInverse q r G H → AreInverse q r H G
  turned r G H v = record { right = v.left; left = v.right }

  pub inverse_products : (r : ℕ) (A B A' B' : Matrix) → AreInverse q r A A' → AreInverse q r B B' →
      ((i j : ℕ) → i < r → j < r → A' i j < q) → ((i j : ℕ) → i < r → j < r → B i j < q) →
      AreInverse q r (matrix_product q r A B) (matrix_product q r B' A')
  inverse_products r A B A' B' v w c d = record {
    right = half r A B A' B' w v.right c;
    left = half r B' A' B A (turned r A A' v) w.left d;
  }

  raised_unit : (t i j : ℕ) → raised q t (unit i j) ≡ unit i j
  raised_unit t i j = elim (i == j) as (λ b. raised q t (cond b 1 0) ≡ cond b 1 0) [ true ↦ raised_one t | false ↦ raised_zero t ]

  pub inverse_raised : (t r : ℕ) (G H : Matrix) → AreInverse q r G H → AreInverse q r (λ i j. raised q t (G i j)) (λ i j. raised q t (H i j))
  inverse_raised t r G H v = record {
    right = λ i j l m. sym (raised_combination t r G (λ k. H k j) i) ∙ ap (raised q t) (v.right i j l m) ∙ raised_unit t i j;
    left = λ i j l m. sym (raised_combination t r H (λ k. G k j) i) ∙ ap (raised q t) (v.left i j l m) ∙ raised_unit t i j;
  }
