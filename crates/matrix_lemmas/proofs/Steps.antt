-- One step of elimination: the last column is taken away from the others.
use Rattle.std.proofs.Common.{◌≡◌, ◌≢◌, ℕ, zero, suc, ◌-◌, ◌<◌, sym, ◌∙◌, ap, subst, arith, cond, Bool, true, false, inl, inr, ◌⊎◌}
use Rattle.std.specs.Bool.{◌==◌}
use Rattle.std.proofs.lemmas.Bool.{cases_lt, cases_eq}
use mathlib.Core.Bool.{true≢false}
use Rattle.matroid_theory.specs.Field.{plus, times, negative, inverse, characteristic, IsField}
use Rattle.matroid_theory.specs.Matrix.{Matrix, sum_below, combination, AreCoefficients, IsIndependent}
use Rattle.matrix_lemmas.proofs.Sums.{zero_below, plus_cancel, plus_zero_right, sum_same, sum_zero, sum_plus, sum_times, sum_below-code, times_zero, zero_times, same_number, other_number}
use Rattle.matrix_lemmas.proofs.Frobenius.{times_undone}

abbrev pub All : ℕ → Bool
All _ = true

abbrev pub Independent : ℕ → ℕ → ℕ → Matrix → Type 0
Independent q r n A = IsIndependent q r n A All

module _ (q : ℕ) (F : IsField q) (r n : ℕ) where
  -- codes are coefficients of all columns
  pub all_coefficients : (n : ℕ) (a : ℕ → ℕ) → ((j : ℕ) → j < n → a j < q) → AreCoefficients q n All a
  all_coefficients n a c = record { codes = c; outside = λ j l o. absurd (true≢false o) }

  -- no column at all
  pub none_independent : (A : Matrix) → Independent q r 0 A
  none_independent A = record { only_zero = λ a c z j l. absurd (omega arith) }

  -- a zero column isn't independent
  pub zero_dependent : (A : Matrix) → ((i : ℕ) → i < r → A i n ≡ 0) → ¬ (Independent q r (suc n) A)
  zero_dependent A z h =
      let e : zero ≡ 1 = sym (h.only_zero a (all_coefficients (suc n) a codes) (λ i l. row i l) n (omega arith)) ∙ ap (λ b. cond b 1 0) (same_number n) in
      omega arith
    where
      a : ℕ → ℕ
      a j = cond (j == n) 1 0

      codes : (j : ℕ) → j < suc n → a j < q
      codes j l = elim (j == n) as (λ b. cond b 1 0 < q) [ true ↦ F.two | false ↦ zero_below q F ]

      row : (i : ℕ) → i < r → combination q (suc n) A a i ≡ 0
      row i l =
          (λ k. plus q (first k) (ap (λ x. times q x (a n)) (z i l) k)) ∙ ap (plus q 0) (zero_times q F (a n)) ∙ F.plus_zero 0 (zero_below q F)
        where
          first : sum_below q n (λ j. times q (A i j) (a j)) ≡ 0
          first =
              sum_same q F n (λ j. times q (A i j) (a j)) (λ _. 0)
              (λ j m. (let ne : j ≢ n = omega arith in ap (λ b. times q (A i j) (cond b 1 0)) (other_number j n ne)) ∙ times_zero q F (A i j))
              ∙ sum_zero q F n

  module _ (A B : Matrix) (m : ℕ → ℕ) (row : ℕ) (row_below : row < r)
      (A_code : (i : ℕ) → i < r → A i n < q) (pivot : A row n ≢ 0)
      (B_is : (i j : ℕ) → i < r → j < n → B i j ≡ plus q (A i j) (times q (m j) (A i n)))
      (cleared : (j : ℕ) → j < n → B row j ≡ 0) where
    -- what the coefficients of the others make of the last column
    unfoldable pub share : (ℕ → ℕ) → ℕ
    share a = sum_below q n (λ j. times q (m j) (a j))

    -- B a = A a + share * last
    pub B_combination : (a : ℕ → ℕ) (i : ℕ) → i < r → combination q n B a i ≡ plus q (combination q n A a i) (times q (A i n) (share a))
    unfolding share
    B_combination a i l =
        sum_same q F n (λ j. times q (B i j) (a j)) (λ j. plus q (times q (A i j) (a j)) (times q (A i n) (times q (m j) (a j)))) term
        ∙ sum_plus q F n (λ j. times q (A i j) (a j)) (λ j. times q (A i n) (times q (m j) (a j)))
        ∙ ap (plus q (combination q n A a i)) (sum_times q F n (A i n) (λ j. times q (m j) (a j)))
      where
        term : (j : ℕ) → j < n → times q (B i j) (a j) ≡ plus q (times q (A i j) (a j)) (times q (A i n) (times q (m j) (a j)))
        term j k =
            ap (λ x. times q x (a j)) (B_is i j l k)
            ∙ F.times_comm (plus q (A i j) (times q (m j) (A i n))) (a j)
            ∙ F.times_plus (a j) (A i j) (times q (m j) (A i n))
            ∙ (λ t. plus q (F.times_comm (a j) (A i j) t) (turn t))
          where
            turn : times q (a j) (times q (m j) (A i n)) ≡ times q (A i n) (times q (m j) (a j))
            turn = F.times_comm (a j) (times q (m j) (A i n)) ∙ ap (λ x. times q x (a j)) (F.times_comm (m j) (A i n)) ∙ F.times_assoc (A i n) (m j) (a j)

    cleared_row : (a : ℕ → ℕ) → combination q n B a row ≡ 0
    cleared_row a =
        sum_same q F n (λ j. times q (B row j) (a j)) (λ _. 0) (λ j l. ap (λ x. times q x (a j)) (cleared j l) ∙ zero_times q F (a j)) ∙ sum_zero q F n

    -- a factor that isn't 0 is cancelled
    times_cancel : (x y : ℕ) → x < q → y < q → times q (A row n) x ≡ times q (A row n) y → x ≡ y
    times_cancel x y l k e = sym (times_undone q F (A row n) x (A_code row row_below) pivot l)
        ∙ ap (times q (inverse q (A row n))) e ∙ times_undone q F (A row n) y (A_code row row_below) pivot k

    share_code : (a : ℕ → ℕ) → share a < q
    unfolding share
    share_code a = sum_below-code q F n (λ j. times q (m j) (a j))

    zero_whole : Independent q r n B → (a : ℕ → ℕ) → AreCoefficients q (suc n) All a →
        ((i : ℕ) → i < r → combination q (suc n) A a i ≡ 0) → (j : ℕ) → j < suc n → a j ≡ 0
    unfolding share
    zero_whole h a c z =
        λ j l. elim (cases_lt j n) [
          | inl b ↦ rest j b
          | inr g ↦
              (let e : j ≡ n = omega arith in ap a e ∙ last_is
              ∙ sum_same q F n (λ j. times q (m j) (a j)) (λ _. 0) (λ j k. ap (times q (m j)) (rest j k) ∙ times_zero q F (m j)) ∙ sum_zero q F n)
        ]
      where
        -- B a + last * a_n = last * share
        balance : (i : ℕ) → i < r → plus q (combination q n B a i) (times q (A i n) (a n)) ≡ times q (A i n) (share a)
        balance i l =
            ap (λ x. plus q x (times q (A i n) (a n))) (B_combination a i l)
            ∙ F.plus_assoc (combination q n A a i) (times q (A i n) (share a)) (times q (A i n) (a n))
            ∙ ap (plus q (combination q n A a i)) (F.plus_comm (times q (A i n) (share a)) (times q (A i n) (a n)))
            ∙ sym (F.plus_assoc (combination q n A a i) (times q (A i n) (a n)) (times q (A i n) (share a)))
            ∙ ap (λ x. plus q x (times q (A i n) (share a))) (z i l)
            ∙ F.plus_zero (times q (A i n) (share a)) (F.times_below (A i n) (share a))

        last_is : a n ≡ share a
        last_is =
            times_cancel (a n) (share a) (c.codes n (omega arith)) (share_code a)
            (sym (F.plus_zero (times q (A row n) (a n)) (F.times_below (A row n) (a n)))
            ∙ ap (λ x. plus q x (times q (A row n) (a n))) (sym (cleared_row a)) ∙ balance row row_below)

        zero_rest : (i : ℕ) → i < r → combination q n B a i ≡ 0
        zero_rest i l =
            plus_cancel q F (times q (A i n) (share a)) (combination q n B a i) 0 (sum_below-code q F n (λ j. times q (B i j) (a j))) (zero_below q F)
            (F.plus_comm (times q (A i n) (share a)) (combination q n B a i)
            ∙ ap (λ x. plus q (combination q n B a i) (times q (A i n) x)) (sym last_is) ∙ balance i l
            ∙ sym (plus_zero_right q F (times q (A i n) (share a)) (F.times_below (A i n) (share a))))

        rest : (j : ℕ) → j < n → a j ≡ 0
        rest = h.only_zero a (all_coefficients n a (λ j l. c.codes j (omega arith))) zero_rest

    pub from_rest : Independent q r n B → Independent q r (suc n) A
    from_rest h = record { only_zero = zero_whole h }

    zero_rest : Independent q r (suc n) A → (b : ℕ → ℕ) → AreCoefficients q n All b → ((i : ℕ) → i < r → combination q n B b i ≡ 0) → (j : ℕ) → j < n → b j ≡ 0
    unfolding share
    zero_rest h b c z j l = sym (at_other j l) ∙ h.only_zero a (all_coefficients (suc n) a codes) zero_all j (omega arith)
      where
        a : ℕ → ℕ
        a j = cond (j == n) (share b) (b j)

        at_other : (j : ℕ) → j < n → a j ≡ b j
        at_other j l = let ne : j ≢ n = omega arith in ap (λ t. cond t (share b) (b j)) (other_number j n ne)

        at_last : a n ≡ share b
        at_last = ap (λ t. cond t (share b) (b n)) (same_number n)

        codes : (j : ℕ) → j < suc n → a j < q
        codes j k = elim (cases_lt j n) [
          | inl s ↦ subst (λ (x : ℕ). x < q) (sym (at_other j s)) (c.codes j s)
          | inr g ↦
              (let e : j ≡ n = omega arith in subst (λ (x : ℕ). x < q) (sym (ap a e ∙ at_last)) (share_code b))
        ]

        zero_all : (i : ℕ) → i < r → combination q (suc n) A a i ≡ 0
        zero_all i k =
            (λ t. plus q (sum_same q F n (λ j. times q (A i j) (a j)) (λ j. times q (A i j) (b j))
            (λ j s. ap (times q (A i j)) (at_other j s)) t) (times q (A i n) (at_last t)))
            ∙ sym (B_combination b i k) ∙ z i k

    pub to_rest : Independent q r (suc n) A → Independent q r n B
    to_rest h = record { only_zero = zero_rest h }

-- x + (- (x y')) y = 0, for y' the inverse of y
pub cleared_entry : (q : ℕ) (F : IsField q) (x y : ℕ) → x < q → y < q → y ≢ 0 → plus q x (times q (negative q (times q x (inverse q y))) y) ≡ 0
unfolding negative
cleared_entry q F x y l m n =
    ap (plus q x)
    (F.times_assoc (characteristic q - 1) (times q x (inverse q y)) y
    ∙ ap (times q (characteristic q - 1))
    (F.times_assoc x (inverse q y) y ∙ ap (times q x) (F.times_comm (inverse q y) y ∙ F.times_inverse y m n) ∙ F.times_comm x 1
    ∙ F.times_one x l))
    ∙ F.plus_negative x

-- the first row at which a column isn't 0, or none
pub pivot_row : (r : ℕ) (c : ℕ → ℕ) → ((i : ℕ) × (i < r) × (c i ≢ 0)) ⊎ ((i : ℕ) → i < r → c i ≡ 0)
pivot_row zero c = inr (λ i l. absurd (omega arith))
pivot_row (suc r) c =
    elim (pivot_row r c) [
      | inl p ↦ inl (p.0, (let l = p.1 in omega arith), p.2)
      | inr z ↦ elim (cases_eq (c r) 0) [
        | inl e ↦ inr (λ i l. elim (cases_lt i r) [ inl b ↦ z i b | inr g ↦ (let k : i ≡ r = omega arith in ap c k ∙ e) ])
        | inr ne ↦ inl (r, omega arith, ne)
      ]
    ]
