-- Independent columns are at most as many as the rows, and as many as the rows they span; a square matrix of independent columns has an inverse.
use Rattle.std.proofs.Common.{◌≡◌, ◌≢◌, ℕ, zero, suc, ◌-◌, ◌<◌, ◌≤◌, refl, sym, ◌∙◌, ap, subst, arith, cond, true, false, inl, inr}
use Rattle.std.specs.Bool.{◌==◌, nat_lt}
use Rattle.std.proofs.lemmas.Bool.{cases_lt, cases_eq, le-ltb, lt-ltb}
use Rattle.matroid_theory.specs.Field.{plus, times, negative, inverse, characteristic, IsField}
use Rattle.matroid_theory.specs.Matrix.{Matrix, sum_below, combination, matrix_product, unit, AreInverse}
use Rattle.matrix_lemmas.proofs.Sums.{zero_below, plus_cancel, plus_zero_right, sum_same, sum_zero, sum_plus, sum_below-code, times_zero, zero_times, combination-product, combination-unit, same_number, other_number, sum_one, combination-scaled}
use Rattle.matrix_lemmas.proofs.Steps.{Independent, all_coefficients, zero_dependent, to_rest, B_combination, share, cleared_entry, pivot_row}

-- the rows without row k
abbrev pub skip : ℕ → ℕ → ℕ
skip k i = cond (nat_lt i k) i (suc i)

skip_below : (k r i : ℕ) → i < r → skip k i < suc r
skip_below k r i l = elim (nat_lt i k) as (λ b. cond b i (suc i) < suc r) [ true ↦ omega arith | false ↦ omega arith ]

-- a row other than k is one of the rows without k
skip_onto : (k r i : ℕ) → k < suc r → i < suc r → i ≢ k → (j : ℕ) × (j < r) × (skip k j ≡ i)
skip_onto k r i l m n =
    elim (cases_lt i k) [
      | inl b ↦ (i, omega arith, ap (λ t. cond t i (suc i)) (lt-ltb i k b))
      | inr g ↦ down i g n m
    ]
  where
    down : (i : ℕ) → k ≤ i → i ≢ k → i < suc r → (j : ℕ) × (j < r) × (skip k j ≡ i)
    down zero g n m = absurd (omega arith)
    down (suc j) g n m = (j, omega arith, (let h : k ≤ j = omega arith in ap (λ t. cond t j (suc j)) (le-ltb j k h)))

module _ (q : ℕ) (F : IsField q) where
  -- a row of zeros may be left out
  drop_row : (r n : ℕ) (B : Matrix) (k : ℕ) → k < suc r → ((j : ℕ) → j < n → B k j ≡ 0) → Independent q (suc r) n B → Independent q r n (λ i j. B (skip k i) j)
  drop_row r n B k l z h = record { only_zero = λ a c zr. h.only_zero a c (rows a zr) }
    where
      rows : (a : ℕ → ℕ) → ((i : ℕ) → i < r → combination q n (λ i j. B (skip k i) j) a i ≡ 0) → (i : ℕ) → i < suc r → combination q n B a i ≡ 0
      rows a zr i m =
          elim (cases_eq i k) [
            | inl e ↦ sum_same q F n (λ j. times q (B i j) (a j)) (λ _. 0)
                (λ j o. ap (λ x. times q (B x j) (a j)) e ∙ ap (λ x. times q x (a j)) (z j o) ∙ zero_times q F (a j)) ∙ sum_zero q F n
            | inr ne ↦ (let s = skip_onto k r i l m ne in ap (combination q n B a) (sym s.2) ∙ zr s.0 s.1)
          ]

  -- the multiple of the last column that clears row k of a column with the entry x there
  clearing : (y x : ℕ) → ℕ
  clearing y x = negative q (times q x (inverse q y))

  -- the columns before the last, cleared at row k
  others : (n : ℕ) (A : Matrix) (k : ℕ) → Matrix
  others n A k i j = plus q (A i j) (times q (clearing (A k n) (A k j)) (A i n))

  others_cleared : (n : ℕ) (A : Matrix) (k j : ℕ) → A k j < q → A k n < q → A k n ≢ 0 → others n A k k j ≡ 0
  unfolding others clearing
  others_cleared n A k j l m ne = cleared_entry q F (A k j) (A k n) l m ne

  others_independent : (r n : ℕ) (A : Matrix) (k : ℕ) → k < suc r → ((i j : ℕ) → i < suc r → j < suc n → A i j < q) → A k n ≢ 0 →
      Independent q (suc r) (suc n) A → Independent q r n (λ i j. others n A k (skip k i) j)
  unfolding others clearing
  others_independent r n A k l c ne h =
      drop_row r n (others n A k) k l (λ j o. others_cleared n A k j (c k j l (omega arith)) (c k n l (omega arith)) ne)
      (to_rest q F (suc r) n A (others n A k) (λ j. clearing (A k n) (A k j)) k l (λ i m. c i n m (omega arith)) ne
      (λ i j m o. refl) (λ j o. others_cleared n A k j (c k j l (omega arith)) (c k n l (omega arith)) ne) h)

  others_code : (n : ℕ) (A : Matrix) (k i j : ℕ) → others n A k i j < q
  unfolding others
  others_code n A k i j = F.plus_below (A i j) (times q (clearing (A k n) (A k j)) (A i n))

  -- independent columns are at most as many as the rows
  pub independent_bound : (n r : ℕ) (A : Matrix) → ((i j : ℕ) → i < r → j < n → A i j < q) → Independent q r n A → n ≤ r
  independent_bound zero r A c h = omega arith
  independent_bound (suc n) zero A c h = absurd (zero_dependent q F 0 n A (λ i l. absurd (omega arith)) h)
  independent_bound (suc n) (suc r) A c h =
      elim (pivot_row (suc r) (λ i. A i n)) [
        | inl p ↦ (let b : n ≤ r = independent_bound n r (λ i j. others n A p.0 (skip p.0 i) j)
            (λ i j _ _. others_code n A p.0 (skip p.0 i) j) (others_independent r n A p.0 p.1 c p.2 h) in omega arith)
        | inr z ↦ absurd (zero_dependent q F (suc r) n A z h)
      ]

  -- a sum of combinations, and a last coefficient
  pub combination_plus : (n : ℕ) (A : Matrix) (a b : ℕ → ℕ) (i : ℕ) →
      combination q n A (λ j. plus q (a j) (b j)) i ≡ plus q (combination q n A a i) (combination q n A b i)
  combination_plus n A a b i =
      sum_same q F n (λ j. times q (A i j) (plus q (a j) (b j))) (λ j. plus q (times q (A i j) (a j)) (times q (A i j) (b j)))
      (λ j _. F.times_plus (A i j) (a j) (b j))
      ∙ sum_plus q F n (λ j. times q (A i j) (a j)) (λ j. times q (A i j) (b j))

  with_last : ℕ → (ℕ → ℕ) → ℕ → ℕ → ℕ
  with_last n x t j = cond (j == n) t (x j)

  combination_last : (n : ℕ) (A : Matrix) (x : ℕ → ℕ) (t i : ℕ) →
      combination q (suc n) A (with_last n x t) i ≡ plus q (combination q n A x i) (times q (A i n) t)
  unfolding with_last
  combination_last n A x t i =
      λ k. plus q (sum_same q F n (λ j. times q (A i j) (with_last n x t j)) (λ j. times q (A i j) (x j))
      (λ j l. (let ne : j ≢ n = omega arith in ap (λ b. times q (A i j) (cond b t (x j))) (other_number j n ne))) k)
      (times q (A i n) (ap (λ b. cond b t (x n)) (same_number n) k))

  -- u + v + - v = u
  undone : (u v : ℕ) → u < q → plus q (plus q u v) (negative q v) ≡ u
  undone u v l = F.plus_assoc u v (negative q v) ∙ ap (plus q u) (F.plus_negative v) ∙ plus_zero_right q F u l

  abbrev pub Spans : ℕ → Matrix → (ℕ → ℕ) → Type 0
  Spans n A b = (x : ℕ → ℕ) × ((j : ℕ) → j < n → x j < q) × ((i : ℕ) → i < n → combination q n A x i ≡ b i)

  from_pivot : (n : ℕ) (A : Matrix) → ((i j : ℕ) → i < suc n → j < suc n → A i j < q) → (b : ℕ → ℕ) →
      ((i : ℕ) → i < suc n → b i < q) → (k : ℕ) → k < suc n → A k n ≢ 0
      → Spans n (λ i j. others n A k (skip k i) j) (λ i. plus q (b (skip k i)) (times q (clearing (A k n) (b k)) (A (skip k i) n))) → Spans (suc n) A b
  unfolding others clearing with_last share
  from_pivot n A c b d k l ne (x, xc, xs) = (
    with_last n x t,
    (λ j m. elim (j == n) as (λ b. cond b t (x j) < q → cond b t (x j) < q) [ true ↦ λ h. h | false ↦ λ h. h ] (codes j m)),
    (λ i m. combination_last n A x t i ∙ ap (plus q (combination q n A x i)) (F.times_plus (A i n) S (negative q mb))
        ∙ sym (F.plus_assoc (combination q n A x i) (times q (A i n) S) (times q (A i n) (negative q mb)))
        ∙ ap (λ y. plus q y (times q (A i n) (negative q mb))) (balance i m)
        ∙ F.plus_assoc (b i) (times q mb (A i n)) (times q (A i n) (negative q mb))
        ∙ ap (plus q (b i)) (ap (λ y. plus q y (times q (A i n) (negative q mb))) (F.times_comm mb (A i n))
        ∙ sym (F.times_plus (A i n) mb (negative q mb)) ∙ ap (times q (A i n)) (F.plus_negative mb) ∙ times_zero q F (A i n))
        ∙ plus_zero_right q F (b i) (d i m)),
  )
    where
      mb : ℕ
      mb = clearing (A k n) (b k)

      m : ℕ → ℕ
      m j = clearing (A k n) (A k j)

      S : ℕ
      S = sum_below q n (λ j. times q (m j) (x j))

      t : ℕ
      t = plus q S (negative q mb)

      codes : (j : ℕ) → j < suc n → with_last n x t j < q
      codes j o = elim (cases_lt j n) [
        | inl s ↦ (let ne' : j ≢ n = omega arith in subst (λ (y : ℕ). y < q) (sym (ap (λ b. cond b t (x j)) (other_number j n ne'))) (xc j s))
        | inr g ↦ (let e : j ≡ n = omega arith in
            subst (λ (y : ℕ). y < q) (sym (ap (λ b. cond b t (x j)) (ap (λ i. i == n) e ∙ same_number n))) (F.plus_below S (negative q mb)))
      ]

      -- A x + last * S = b + mb * last
      balance : (i : ℕ) → i < suc n → plus q (combination q n A x i) (times q (A i n) S) ≡ plus q (b i) (times q mb (A i n))
      balance i o =
          sym (B_combination q F (suc n) n A (others n A k) m k l (λ i o. c i n o (omega arith)) ne (λ i j o o'. refl)
          (λ j o. others_cleared n A k j (c k j l (omega arith)) (c k n l (omega arith)) ne) x i o)
          ∙ elim (cases_eq i k) [
            | inl e ↦ (ap (combination q n (others n A k) x) e
                ∙ sum_same q F n (λ j. times q (others n A k k j) (x j)) (λ _. 0)
                (λ j o. ap (λ y. times q y (x j)) (others_cleared n A k j (c k j l (omega arith)) (c k n l (omega arith)) ne)
                ∙ zero_times q F (x j)) ∙ sum_zero q F n
                ∙ sym (ap (λ i. plus q (b i) (times q mb (A i n))) e ∙ cleared_entry q F (b k) (A k n) (d k l) (c k n l (omega arith)) ne))
            | inr ne' ↦ (let s = skip_onto k n i l o ne' in ap (combination q n (others n A k) x) (sym s.2) ∙ xs s.0 s.1
                ∙ ap (λ i. plus q (b i) (times q mb (A i n))) s.2)
          ]

  -- as many independent columns as rows: each column is a combination of them
  pub spanning : (n : ℕ) (A : Matrix) → ((i j : ℕ) → i < n → j < n → A i j < q) → Independent q n n A → (b : ℕ → ℕ) → ((i : ℕ) → i < n → b i < q) → Spans n A b
  spanning zero A c h b d = ((λ _. 0), (λ j l. absurd (omega arith)), (λ i l. absurd (omega arith)))
  spanning (suc n) A c h b d =
      elim (pivot_row (suc n) (λ i. A i n)) [
        | inl p ↦ from_pivot n A c b d p.0 p.1 p.2
            (spanning n (λ i j. others n A p.0 (skip p.0 i) j) (λ i j _ _. others_code n A p.0 (skip p.0 i) j) (others_independent n n A p.0 p.1 c p.2 h)
            (λ i. plus q (b (skip p.0 i)) (times q (clearing (A p.0 n) (b p.0)) (A (skip p.0 i) n))) (λ i _. F.plus_below _ _))
        | inr z ↦ absurd (zero_dependent q F (suc n) n A z h)
      ]

  pub unit_code : (i j : ℕ) → unit i j < q
  unit_code i j = elim (i == j) as (λ b. cond b 1 0 < q) [ true ↦ F.two | false ↦ zero_below q F ]

  -- column j of A, as A times column j of the identity matrix
  pub times_unit_column : (n : ℕ) (A : Matrix) (i j : ℕ) → j < n → A i j < q → combination q n A (λ k. unit k j) i ≡ A i j
  times_unit_column n A i j l c =
      sum_one q F n j (λ k. times q (A i k) (unit k j)) l (F.times_below (A i j) (unit j j))
      (λ k m ne. ap (λ b. times q (A i k) (cond b 1 0)) (other_number k j ne) ∙ times_zero q F (A i k))
      ∙ ap (λ b. times q (A i j) (cond b 1 0)) (same_number j) ∙ F.times_comm (A i j) 1 ∙ F.times_one (A i j) c

  -- the negatives of a list of coefficients
  combination_negative : (n : ℕ) (A : Matrix) (a : ℕ → ℕ) (i : ℕ) → combination q n A (λ k. negative q (a k)) i ≡ negative q (combination q n A a i)
  unfolding negative
  combination_negative n A a i = combination-scaled q F n A (characteristic q - 1) a i

  -- H is the inverse on both sides, where A H is the identity and the columns of A are independent
  left_inverse : (n : ℕ) (A H : Matrix) → ((i j : ℕ) → i < n → j < n → A i j < q) → Independent q n n A →
      ((i j : ℕ) → i < n → j < n → matrix_product q n A H i j ≡ unit i j) → (i j : ℕ) → i < n → j < n → matrix_product q n H A i j ≡ unit i j
  left_inverse n A H c h right i j l m =
      plus_cancel q F (negative q (unit i j)) (matrix_product q n H A i j) (unit i j) (sum_below-code q F n _) (unit_code i j)
      (F.plus_comm (negative q (unit i j)) (matrix_product q n H A i j)
      ∙ h.only_zero y (all_coefficients q F n n n y (λ k _. F.plus_below _ _)) zero_rows i l
      ∙ sym (F.plus_comm (negative q (unit i j)) (unit i j) ∙ F.plus_negative (unit i j)))
    where
      y : ℕ → ℕ
      y k = plus q (matrix_product q n H A k j) (negative q (unit k j))

      zero_rows : (i : ℕ) → i < n → combination q n A y i ≡ 0
      zero_rows i l =
          combination_plus n A (λ k. matrix_product q n H A k j) (λ k. negative q (unit k j)) i
          ∙ (λ t. plus q (first t) (second t))
          ∙ F.plus_negative (A i j)
        where
          first : combination q n A (λ k. matrix_product q n H A k j) i ≡ A i j
          first =
              sym (combination-product q F n n A H (λ k. A k j) i)
              ∙ sum_same q F n (λ k. times q (matrix_product q n A H i k) (A k j)) (λ k. times q (unit i k) (A k j))
              (λ k o. ap (λ x. times q x (A k j)) (right i k l o))
              ∙ combination-unit q F n (λ k. A k j) i l (c i j l m)

          second : combination q n A (λ k. negative q (unit k j)) i ≡ negative q (A i j)
          second = combination_negative n A (λ k. unit k j) i ∙ ap (negative q) (times_unit_column n A i j m (c i j l m))

  -- a square matrix of independent columns has an inverse
  pub inverse_matrix : (n : ℕ) (A : Matrix) → ((i j : ℕ) → i < n → j < n → A i j < q) → Independent q n n A →
      (H : Matrix) × ((i j : ℕ) → i < n → j < n → H i j < q) × AreInverse q n A H
  inverse_matrix n A c h = (H, (λ i j l m. codes i j l), record { right = right; left = left_inverse n A H c h right })
    where
      column : (j : ℕ) → Spans n A (λ i. unit i j)
      column j = spanning n A c h (λ i. unit i j) (λ i l. unit_code i j)

      H : Matrix
      H i j = (column j).0 i

      codes : (i j : ℕ) → i < n → H i j < q
      codes i j l = (column j).1 i l

      right : (i j : ℕ) → i < n → j < n → matrix_product q n A H i j ≡ unit i j
      right i j l m = (column j).2 i l
