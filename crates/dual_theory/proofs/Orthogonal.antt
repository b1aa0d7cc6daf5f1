-- Orthogonal matrices of full rank: their bases are complements, and one of them determines the other up to row operations.
use Rattle.std.proofs.Common.{◌≡◌, ◌≢◌, ℕ, suc, ◌+◌, ◌-◌, ◌<◌, ◌≤◌, refl, sym, ◌∙◌, ap, subst, arith, cond, Bool, true, false, inl, inr, not}
use Rattle.std.specs.Bool.{◌==◌}
use Rattle.std.proofs.lemmas.Bool.{cases_lt, cases_eq}
use Rattle.matroid_theory.specs.Field.{plus, times, negative, characteristic, IsField}
use Rattle.matroid_theory.specs.Matrix.{Matrix, combination, matrix_product, unit, AreInverse, size_below, AreCoefficients, IsIndependent}
use Rattle.matrix_lemmas.proofs.Sums.{plus_zero_right, plus_cancel, sum_same, sum_zero, sum_below-code, zero_times, combination-product, combination-same, combination-scaled, inverse-undoes, same_number, other_number}
use Rattle.matrix_lemmas.proofs.Frobenius.{times_nonzero, inverse_products, turned}
use Rattle.matrix_lemmas.proofs.Steps.{Independent}
use Rattle.matrix_lemmas.proofs.Dimension.{independent_bound, inverse_matrix, times_unit_column, combination_plus}
use Rattle.matrix_lemmas.proofs.Picked.{size_grows, set_independent}
use Rattle.matrix_lemmas.proofs.Bases.{pick, pick_picks}
use Rattle.matrix_lemmas.proofs.Invertible.{combination_zero}
use Rattle.matroid_laws.proofs.Built.{size_both}
use Rattle.dual_theory.specs.Dual.{complement}

-- ---- complements

pub complement_twice : (S : ℕ → Bool) (j : ℕ) → complement (complement S) j ≡ S j
complement_twice S j = elim (S j) as (λ b. not (not b) ≡ b) [ true ↦ refl | false ↦ refl ]

pub complement_in : (S : ℕ → Bool) (j : ℕ) → complement S j ≡ true → S j ≡ false
complement_in S j e = sym (complement_twice S j) ∙ ap not e

pub complement_out : (S : ℕ → Bool) (j : ℕ) → complement S j ≡ false → S j ≡ true
complement_out S j e = sym (complement_twice S j) ∙ ap not e

unit_turned : (i j : ℕ) → unit j i ≡ unit i j
unit_turned i j = elim (cases_eq i j) [
  | inl e ↦ (λ k. unit (sym e k) (e k))
  | inr ne ↦ ap (λ b. cond b 1 0) (other_number j i (λ e. ne (sym e))) ∙ sym (ap (λ b. cond b 1 0) (other_number i j ne))
]

module _ (q : ℕ) (F : IsField q) where
  -- a combination with a row of zeros
  pub zero_row : (n : ℕ) (A : Matrix) (a : ℕ → ℕ) (i : ℕ) → ((j : ℕ) → j < n → A i j ≡ 0) → combination q n A a i ≡ 0
  zero_row n A a i h = sum_same q F n (λ j. times q (A i j) (a j)) (λ _. 0) (λ j l. ap (λ x. times q x (a j)) (h j l) ∙ zero_times q F (a j)) ∙ sum_zero q F n

  -- the products of a row of A and of a row v, in the other order
  pub row_products : (n : ℕ) (A B : Matrix) (i k : ℕ) → combination q n A (B k) i ≡ combination q n B (A i) k
  row_products n A B i k = sum_same q F n (λ j. times q (A i j) (B k j)) (λ j. times q (B k j) (A i j)) (λ j _. F.times_comm (A i j) (B k j))

  transposed_inverse : (r : ℕ) (A H : Matrix) → AreInverse q r A H → AreInverse q r (λ i j. H j i) (λ i j. A j i)
  transposed_inverse r A H v = record {
    right = λ i j l m. sum_same q F r (λ k. times q (H k i) (A j k)) (λ k. times q (A j k) (H k i))
        (λ k _. F.times_comm (H k i) (A j k)) ∙ v.right j i m l ∙ unit_turned i j;
    left = λ i j l m. sum_same q F r (λ k. times q (A k i) (H j k)) (λ k. times q (H j k) (A k i))
        (λ k _. F.times_comm (A k i) (H j k)) ∙ v.left j i m l ∙ unit_turned i j;
  }

  -- the columns of a basis, in order, as a square matrix
  pub basis_matrix : (n : ℕ) → Matrix → (ℕ → Bool) → Matrix
  basis_matrix n A S i l = A i (pick n S l)

  module _ (r n : ℕ) (A : Matrix) (codes : (i j : ℕ) → i < r → j < n → A i j < q) (S : ℕ → Bool) (full : size_below n S ≡ r)
      (basis : IsIndependent q r n A S) where
    pub basis_codes : (i l : ℕ) → i < r → l < r → basis_matrix n A S i l < q
    unfolding basis_matrix
    basis_codes i l m o = codes i (pick n S l) m (let P = pick_picks n S in P.below l (subst (λ (x : ℕ). l < x) (sym full) o))

    pub basis_square : Independent q r r (basis_matrix n A S)
    unfolding basis_matrix
    basis_square = subst (λ (x : ℕ). IsIndependent q r x (λ i l. A i (pick n S l)) (λ _. true)) full
        (set_independent q F S (pick n S) r n A (pick_picks n S) basis)

    pub basis_inverse : (H : Matrix) × ((i j : ℕ) → i < r → j < r → H i j < q) × AreInverse q r (basis_matrix n A S) H
    basis_inverse = inverse_matrix q F r (basis_matrix n A S) basis_codes basis_square

    -- a combination of the rows that is 0 at a basis has the coefficients 0
    pub rows_zero : (c : ℕ → ℕ) → ((i : ℕ) → i < r → c i < q) →
        ((j : ℕ) → j < n → S j ≡ true → combination q r (λ j i. A i j) c j ≡ 0) → (i : ℕ) → i < r → c i ≡ 0
    unfolding basis_matrix
    rows_zero c d z i l =
        let (H, h, v) = basis_inverse in
        sym (inverse-undoes q F r (λ i j. H j i) (λ i j. A j (pick n S i)) (transposed_inverse r (λ i l. A i (pick n S l)) H v) c i l (d i l))
        ∙ combination_zero q F r (λ i j. H j i) (combination q r (λ i j. A j (pick n S i)) c) i (λ k m.
        let P = pick_picks n S in let m' = subst (λ (x : ℕ). k < x) (sym full) m in z (pick n S k) (P.below k m') (P.member k m'))

  -- ---- the complement of a basis of the one is a basis of the other

  module _ (r s n : ℕ) (A B : Matrix) (A_codes : (i j : ℕ) → i < r → j < n → A i j < q) (ranks : r + s ≡ n)
      (orthogonal : (i k : ℕ) → i < r → k < s → combination q n A (B k) i ≡ 0)
      (S T : ℕ → Bool) (S_full : size_below n S ≡ r) (S_basis : IsIndependent q r n A S) (T_full : size_below n T ≡ s) (T_basis : IsIndependent q s n B T) where
    -- coefficients a outside S with the combination 0 in B, not all 0: the rows of A and a are r + 1 rows that are 0 in B, and r columns determine such a row
    module _ (a : ℕ → ℕ) (c : AreCoefficients q n (complement S) a) (z : (k : ℕ) → k < s → combination q n B a k ≡ 0) (at : ℕ)
        (at_below : at < n) (nonzero : a at ≢ 0) where
      -- row i of A as column i, and a as the last column
      V : Matrix
      V j i = cond (i == r) (a j) (A i j)

      V_last : (j : ℕ) → V j r ≡ a j
      unfolding V
      V_last j = ap (λ b. cond b (a j) (A r j)) (same_number r)

      V_row : (j i : ℕ) → i < r → V j i ≡ A i j
      unfolding V
      V_row j i l = let ne : i ≢ r = omega arith in ap (λ b. cond b (a j) (A i j)) (other_number i r ne)

      V_code : (j i : ℕ) → j < n → i < suc r → V j i < q
      V_code j i l m = elim (cases_lt i r) [
        | inl b ↦ subst (λ (x : ℕ). x < q) (sym (V_row j i b)) (A_codes i j b l)
        | inr g ↦ (let e : i ≡ r = omega arith in subst (λ (x : ℕ). x < q) (sym (ap (V j) e ∙ V_last j)) (c.codes j l))
      ]

      abbrev W : Matrix
      W l i = V (pick n (complement T) l) i

      T_other : size_below n (complement T) ≡ r
      T_other = let h : size_below n T + size_below n (complement T) ≡ n = size_both n T in omega arith

      module _ (d : ℕ → ℕ) (d_codes : (i : ℕ) → i < suc r → d i < q) (d_zero : (l : ℕ) → l < r → combination q (suc r) W d l ≡ 0) where
        abbrev v : ℕ → ℕ
        v j = combination q (suc r) V d j

        v_outside : (j : ℕ) → j < n → T j ≡ false → v j ≡ 0
        v_outside j l f =
            let P = pick_picks n (complement T) in
            let o : size_below j (complement T) < size_below n (complement T) = size_grows j n (complement T) l (ap not f) in
            sym (ap v (P.place j l (ap not f))) ∙ d_zero (size_below j (complement T)) (subst (λ (x : ℕ). size_below j (complement T) < x) T_other o)

        v_null : (k : ℕ) → k < s → combination q n B v k ≡ 0
        v_null k l =
            sym (combination-product q F (suc r) n B V d k)
            ∙ zero_row (suc r) (matrix_product q n B V) d k (λ i m. elim (cases_lt i r) [
              | inl b ↦ sum_same q F n (λ j. times q (B k j) (V j i)) (λ j. times q (B k j) (A i j))
                  (λ j _. ap (times q (B k j)) (V_row j i b)) ∙ sym (row_products n A B i k) ∙ orthogonal i k b l
              | inr g ↦ (let e : i ≡ r = omega arith in
                  sum_same q F n (λ j. times q (B k j) (V j i)) (λ j. times q (B k j) (a j))
                  (λ j _. ap (times q (B k j)) (ap (V j) e ∙ V_last j)) ∙ z k l)
            ])

        v_zero : (j : ℕ) → j < n → v j ≡ 0
        v_zero = T_basis.only_zero v (record { codes = λ j _. sum_below-code q F (suc r) _; outside = v_outside }) v_null

        v_is : (j : ℕ) → plus q (combination q r (λ j i. A i j) d j) (times q (a j) (d r)) ≡ v j
        v_is j = λ t. plus q (sum_same q F r (λ i. times q (A i j) (d i)) (λ i. times q (V j i) (d i))
            (λ i l. ap (λ x. times q x (d i)) (sym (V_row j i l))) t) (times q (sym (V_last j) t) (d r))

        first_zero : (i : ℕ) → i < r → d i ≡ 0
        first_zero = rows_zero r n A A_codes S S_full S_basis d (λ i l. d_codes i (omega arith)) (λ j l t.
            sym (plus_zero_right q F (combination q r (λ j i. A i j) d j) (sum_below-code q F r _))
            ∙ ap (plus q (combination q r (λ j i. A i j) d j)) (sym (ap (λ x. times q x (d r)) (c.outside j l (ap not t)) ∙ zero_times q F (d r)))
            ∙ v_is j ∙ v_zero j l)

        last_zero : d r ≡ 0
        last_zero = elim (cases_eq (d r) 0) [
          | inl e ↦ e
          | inr ne ↦ absurd (times_nonzero q F (a at) (d r) (c.codes at at_below) (d_codes r (omega arith)) nonzero ne
              (sym (F.plus_zero (times q (a at) (d r)) (F.times_below _ _))
              ∙ ap (λ x. plus q x (times q (a at) (d r))) (sym (combination_zero q F r (λ j i. A i j) d at first_zero)) ∙ v_is at
              ∙ v_zero at at_below))
        ]

      W_independent : Independent q r (suc r) W
      W_independent = record {
        only_zero = λ d e zz i l. elim (cases_lt i r) [
          | inl b ↦ first_zero d e.codes zz i b
          | inr g ↦ (let k : i ≡ r = omega arith in ap d k ∙ last_zero d e.codes zz)
        ];
      }

      none_such : ⊥
      none_such =
          let P = pick_picks n (complement T) in
          let h : suc r ≤ r = independent_bound q F (suc r) r W
          (λ l i m o. V_code (pick n (complement T) l) i (P.below l (subst (λ (x : ℕ). l < x) (sym T_other) m)) o) W_independent in
          absurd (omega arith)

    pub complement_independent : IsIndependent q s n B (complement S)
    complement_independent = record { only_zero = λ a c z j l. elim (cases_eq (a j) 0) [ inl e ↦ e | inr ne ↦ absurd (none_such a c z j l ne) ] }

  -- ---- two matrices that are orthogonal to one have the same rows up to an invertible matrix

  combination_negative : (n : ℕ) (A : Matrix) (a : ℕ → ℕ) (i : ℕ) → combination q n A (λ k. negative q (a k)) i ≡ negative q (combination q n A a i)
  unfolding negative
  combination_negative n A a i = combination-scaled q F n A (characteristic q - 1) a i

  module _ (r s n : ℕ) (A B C : Matrix)
      (B_codes : (i j : ℕ) → i < s → j < n → B i j < q) (C_codes : (i j : ℕ) → i < s → j < n → C i j < q)
      (B_orthogonal : (i k : ℕ) → i < r → k < s → combination q n A (B k) i ≡ 0) (C_orthogonal : (i k : ℕ) → i < r → k < s → combination q n A (C k) i ≡ 0)
      (T : ℕ → Bool) (T_full : size_below n T ≡ s) (T_basis : IsIndependent q s n B T) (T_other : IsIndependent q s n C T)
      (rest : IsIndependent q r n A (complement T)) where
    of_B : (H : Matrix) × ((i j : ℕ) → i < s → j < s → H i j < q) × AreInverse q s (basis_matrix n B T) H
    of_B = basis_inverse s n B B_codes T T_full T_basis

    of_C : (H : Matrix) × ((i j : ℕ) → i < s → j < s → H i j < q) × AreInverse q s (basis_matrix n C T) H
    of_C = basis_inverse s n C C_codes T T_full T_other

    -- C_T B_T⁻¹, and its inverse B_T C_T⁻¹
    pub change : Matrix
    change = matrix_product q s (basis_matrix n C T) of_B.0

    pub change_back : Matrix
    change_back = matrix_product q s (basis_matrix n B T) of_C.0

    pub change_codes : (i j : ℕ) → change i j < q
    unfolding change
    change_codes i j = sum_below-code q F s _

    pub change_back_codes : (i j : ℕ) → change_back i j < q
    unfolding change_back
    change_back_codes i j = sum_below-code q F s _

    pub change_inverse : AreInverse q s change change_back
    unfolding change change_back
    change_inverse =
        inverse_products q F s (basis_matrix n C T) of_B.0 of_C.0 (basis_matrix n B T) of_C.2 (turned q F s (basis_matrix n B T) of_B.0 of_B.2)
        of_C.1 of_B.1

    -- row k of C less that of the product
    abbrev difference : ℕ → ℕ → ℕ
    difference k j = plus q (C k j) (negative q (combination q s change (λ l. B l j) k))

    -- at a column of the basis
    changed_basis : (k j : ℕ) → k < s → j < n → T j ≡ true → combination q s change (λ l. B l j) k ≡ C k j
    unfolding change basis_matrix
    changed_basis k j l m t =
        let P = pick_picks n T in
        let o : size_below j T < s = subst (λ (x : ℕ). size_below j T < x) T_full (size_grows j n T m t) in
        let H = of_B.2 in
        sym (ap (λ x. combination q s change (λ l. B l x) k) (P.place j m t))
        ∙ combination-product q F s s (basis_matrix n C T) of_B.0 (λ l. B l (pick n T (size_below j T))) k
        ∙ combination-same q F s (basis_matrix n C T) (combination q s of_B.0 (λ l. B l (pick n T (size_below j T))))
        (λ i. unit i (size_below j T)) k (λ i m'. H.left i (size_below j T) m' o)
        ∙ times_unit_column q F s (basis_matrix n C T) k (size_below j T) o (basis_codes s n C C_codes T T_full T_other k (size_below j T) l o)
        ∙ ap (C k) (P.place j m t)

    product_orthogonal : (i k : ℕ) → i < r → combination q n A (λ j. combination q s change (λ l. B l j) k) i ≡ 0
    product_orthogonal i k l =
        combination-same q F n A (λ j. combination q s change (λ l. B l j) k) (combination q s (λ j l. B l j) (change k)) i
        (λ j _. row_products s change (λ j l. B l j) k j)
        ∙ sym (combination-product q F s n A (λ j l. B l j) (change k) i)
        ∙ zero_row s (matrix_product q n A (λ j l. B l j)) (change k) i (λ m o. B_orthogonal i m l o)

    difference_null : (i k : ℕ) → i < r → k < s → combination q n A (difference k) i ≡ 0
    difference_null i k l m =
        combination_plus q F n A (C k) (λ j. negative q (combination q s change (λ l. B l j) k)) i
        ∙ (λ t. plus q (C_orthogonal i k l m t)
        ((combination_negative n A (λ j. combination q s change (λ l. B l j) k) i ∙ ap (negative q) (product_orthogonal i k l)) t))
        ∙ F.plus_negative 0

    pub changed : (k j : ℕ) → k < s → j < n → C k j ≡ combination q s change (λ l. B l j) k
    changed k j l m =
        plus_cancel q F (negative q x) (C k j) x (C_codes k j l m) (sum_below-code q F s _)
        (F.plus_comm (negative q x) (C k j)
        ∙ rest.only_zero (difference k) (record { codes = λ j _. F.plus_below _ _; outside = out })
        (λ i o. difference_null i k o l) j m ∙ sym (F.plus_comm (negative q x) x ∙ F.plus_negative x))
      where
        x : ℕ
        x = combination q s change (λ l. B l j) k

        out : (j : ℕ) → j < n → complement T j ≡ false → difference k j ≡ 0
        out j o f = ap (λ y. plus q (C k j) (negative q y)) (changed_basis k j l o (complement_out T j f)) ∙ F.plus_negative (C k j)
