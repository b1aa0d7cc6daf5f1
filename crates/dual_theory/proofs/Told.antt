-- Whether a set is a base of a standard matrix is told before the whole matrix is known.
use Rattle.std.proofs.Common.{◌≡◌, ◌≢◌, ◌⊎◌, ℕ, suc, ◌<◌, ◌≤◌, sym, ◌∙◌, ap, subst, arith, cond, Bool, true, false, inl, inr, ◌↔◌, length, slice_index}
use Rattle.std.specs.Bool.{◌==◌, nat_lt}
use Rattle.std.proofs.lemmas.Bool.{cases_lt, cases_eq, cases_Bool, le-ltb, lt-ltb}
use mathlib.Core.Bool.{true≢false}
use Rattle.matroid_theory.specs.Field.{plus, times, negative, IsField}
use Rattle.matroid_theory.specs.Matrix.{Matrix, combination, unit, size_below, AreCoefficients, IsIndependent}
use Rattle.matroid_theory.specs.Rep.{Rep, Shape, shape, count, size, order, matrix, IsShaped, IsStandard}
use Rattle.matroid_theory.specs.Matroid.{IsBasis}
use Rattle.matrix_lemmas.proofs.FieldLaws.{field_laws}
use Rattle.matrix_lemmas.proofs.Sums.{zero_below, plus_zero_right, sum_same, sum_one, sum_plus, times_zero, zero_times, same_number, other_number}
use Rattle.matrix_lemmas.proofs.Dimension.{combination_plus}
use Rattle.dual_theory.proofs.OrthogonalReps.{independent_back}
use Rattle.dual_theory.specs.Represented.{AgreeBefore, IsToldAt}

module _ (q : ℕ) (F : IsField q) (r n i j : ℕ) (A B : Matrix) (X : ℕ → Bool) (room : r ≤ n) (past : r ≤ j) (j_below : j < n)
    (A_codes : (l k : ℕ) → l < r → k < n → A l k < q) (B_codes : (l k : ℕ) → l < r → k < n → B l k < q)
    (units : (l k : ℕ) → l < r → k < r → A l k ≡ unit l k)
    (same : (l k : ℕ) → l < r → k < n → X k ≡ true → (k ≢ j) ⊎ (l ≤ i) → A l k ≡ B l k)
    (rest : (k : ℕ) → i < k → k < r → X k ≡ true) where
  -- B's column j less A's, which is 0 as far as row i, where j is in the set
  less : ℕ → ℕ
  less k = plus q (B k j) (negative q (A k j))

  less_more : (l : ℕ) → l < r → plus q (A l j) (less l) ≡ B l j
  unfolding less
  less_more l m =
      ap (plus q (A l j)) (F.plus_comm (B l j) (negative q (A l j))) ∙ sym (F.plus_assoc (A l j) (negative q (A l j)) (B l j))
      ∙ ap (λ x. plus q x (B l j)) (F.plus_negative (A l j)) ∙ F.plus_zero (B l j) (B_codes l j m j_below)

  module _ (a : ℕ → ℕ) (c : AreCoefficients q n X a) (z : (l : ℕ) → l < r → combination q n B a l ≡ 0) where
    -- what the coefficients of the unit columns take over
    w : ℕ → ℕ
    w k = cond (nat_lt k r) (times q (less k) (a j)) 0

    w_front : (k : ℕ) → k < r → w k ≡ times q (less k) (a j)
    unfolding w
    w_front k l = ap (λ b. cond b (times q (less k) (a j)) 0) (lt-ltb k r l)

    w_back : (k : ℕ) → r ≤ k → w k ≡ 0
    unfolding w
    w_back k l = ap (λ b. cond b (times q (less k) (a j)) 0) (le-ltb k r l)

    w_early : (k : ℕ) → k ≤ i → w k ≡ 0
    unfolding less
    w_early k l = elim (cases_lt k r) [
      | inr g ↦ w_back k g
      | inl b ↦ w_front k b ∙ elim (cases_Bool (X j)) [
        | inl t ↦ ap (λ x. times q (plus q (B k j) (negative q x)) (a j)) (same k j b j_below t (inr l))
            ∙ ap (λ x. times q x (a j)) (F.plus_negative (B k j)) ∙ zero_times q F (a j)
        | inr f ↦ ap (times q (less k)) (c.outside j j_below f) ∙ times_zero q F (less k)
      ]
    ]

    w_code : (k : ℕ) → w k < q
    w_code k = elim (cases_lt k r) [
      | inl b ↦ subst (λ (x : ℕ). x < q) (sym (w_front k b)) (F.times_below _ _)
      | inr g ↦ subst (λ (x : ℕ). x < q) (sym (w_back k g)) (zero_below q F)
    ]

    w_own : (l : ℕ) → l < r → times q (A l l) (w l) ≡ w l
    w_own l m = ap (λ x. times q x (w l)) (units l l m m ∙ ap (λ b. cond b 1 0) (same_number l)) ∙ F.times_one (w l) (w_code l)

    w_row : (l : ℕ) → l < r → combination q n A w l ≡ w l
    w_row l m =
        sum_one q F n l (λ k. times q (A l k) (w k)) (omega arith) (F.times_below _ _) (λ k o ne. elim (cases_lt k r) [
          | inl b ↦ ap (λ x. times q x (w k)) (units l k m b ∙ ap (λ b. cond b 1 0) (other_number l k (λ e. ne (sym e)))) ∙ zero_times q F (w k)
          | inr g ↦ ap (times q (A l k)) (w_back k g) ∙ times_zero q F (A l k)
        ])
        ∙ w_own l m

    -- B a = A a + w
    B_row : (l : ℕ) → l < r → combination q n B a l ≡ plus q (combination q n A a l) (w l)
    B_row l m =
        sum_same q F n (λ k. times q (B l k) (a k)) (λ k. plus q (times q (A l k) (a k)) (extra k)) term
        ∙ sum_plus q F n (λ k. times q (A l k) (a k)) extra
        ∙ ap (plus q (combination q n A a l))
        (sum_one q F n j extra j_below (extra_code j) (λ k _ ne. ap (λ b. cond b (w l) 0) (other_number k j ne))
        ∙ ap (λ b. cond b (w l) 0) (same_number j))
      where
        extra : ℕ → ℕ
        extra k = cond (k == j) (w l) 0

        extra_code : (k : ℕ) → extra k < q
        extra_code k = elim (k == j) as (λ b. cond b (w l) 0 < q) [ true ↦ w_code l | false ↦ zero_below q F ]

        no_extra : (k : ℕ) → k ≢ j → plus q (times q (A l k) (a k)) (extra k) ≡ times q (A l k) (a k)
        no_extra k ne = ap (λ b. plus q (times q (A l k) (a k)) (cond b (w l) 0)) (other_number k j ne) ∙ plus_zero_right q F _ (F.times_below _ _)

        own : times q (B l j) (a j) ≡ plus q (times q (A l j) (a j)) (w l)
        own =
            ap (λ x. times q x (a j)) (sym (less_more l m)) ∙ F.times_comm (plus q (A l j) (less l)) (a j) ∙ F.times_plus (a j) (A l j) (less l)
            ∙ (λ t. plus q (F.times_comm (a j) (A l j) t) ((F.times_comm (a j) (less l) ∙ sym (w_front l m)) t))

        term : (k : ℕ) → k < n → times q (B l k) (a k) ≡ plus q (times q (A l k) (a k)) (extra k)
        term k o = elim (cases_eq k j) [
          | inl e ↦ ap (λ k. times q (B l k) (a k)) e ∙ own
              ∙ sym (ap (λ k. plus q (times q (A l k) (a k)) (extra k)) e
              ∙ ap (λ b. plus q (times q (A l j) (a j)) (cond b (w l) 0)) (same_number j))
          | inr ne ↦ elim (cases_Bool (X k)) [
            | inl t ↦ ap (λ x. times q x (a k)) (sym (same l k m o t (inl ne)))
            | inr f ↦ ap (times q (B l k)) (c.outside k o f) ∙ times_zero q F (B l k) ∙ sym (ap (times q (A l k)) (c.outside k o f) ∙ times_zero q F (A l k))
          ] ∙ sym (no_extra k ne)
        ]

    b_zero : IsIndependent q r n A X → (k : ℕ) → k < n → plus q (a k) (w k) ≡ 0
    b_zero h = h.only_zero (λ k. plus q (a k) (w k)) (record { codes = λ k _. F.plus_below _ _; outside = outside })
        (λ l m. combination_plus q F n A a w l ∙ ap (plus q (combination q n A a l)) (w_row l m) ∙ sym (B_row l m) ∙ z l m)
      where
        w_outside : (k : ℕ) → X k ≡ false → w k ≡ 0
        w_outside k f = elim (cases_lt k r) [
          | inr g ↦ w_back k g
          | inl b ↦ elim (cases_lt i k) [
            | inl o ↦ absurd (true≢false (sym (rest k o b) ∙ f))
            | inr g ↦ w_early k g
          ]
        ]

        outside : (k : ℕ) → k < n → X k ≡ false → plus q (a k) (w k) ≡ 0
        outside k o f = (λ t. plus q (c.outside k o f t) (w_outside k f t)) ∙ F.plus_zero 0 (zero_below q F)

    last_zero : IsIndependent q r n A X → a j ≡ 0
    last_zero h = sym (plus_zero_right q F (a j) (c.codes j j_below)) ∙ ap (plus q (a j)) (sym (w_back j past)) ∙ b_zero h j j_below

    all_zero : IsIndependent q r n A X → (k : ℕ) → k < n → a k ≡ 0
    all_zero h k o = sym (plus_zero_right q F (a k) (c.codes k o)) ∙ ap (plus q (a k)) (sym (w_none k)) ∙ b_zero h k o
      where
        w_none : (k : ℕ) → w k ≡ 0
        w_none k = elim (cases_lt k r) [
          | inl b ↦ w_front k b ∙ ap (times q (less k)) (last_zero h) ∙ times_zero q F (less k)
          | inr g ↦ w_back k g
        ]

  pub independent_told : IsIndependent q r n A X → IsIndependent q r n B X
  independent_told h = record { only_zero = λ a c z. all_zero a c z h }

-- ---- representations

-- a set that is told by the entries that two standard matrices have in common is a base of both or of neither
base_over : (M L : Rep) → IsShaped M → IsShaped L → IsStandard M → shape L ≡ shape M → 0 < count M → (i j : ℕ) → M.rank ≤ j →
    j < size M → AgreeBefore M L (suc i) j → (X : ℕ → Bool) → IsToldAt M.rank (size M) i j X → IsBasis M 0 X → IsBasis L 0 X
base_over M L s t standard e some i j past below h X told b = record {
  full = ap (λ S. size_below S.size X) e ∙ b.full ∙ sym (ap (λ S. S.rank) e);
  independent = independent_back L 0 X M.factors (size M) (ap (λ S. S.factors) e) (ap (λ S. S.size) e)
      (subst (λ r. IsIndependent (order M 0) r (size M) (matrix L 0) X) (sym (ap (λ S. S.rank) e))
      (independent_told (order M 0) (field_laws (order M 0) (s.orders 0 some)) M.rank (size M) i j (matrix M 0) (matrix L 0) X standard.room past below
      (λ l k m n. s.codes 0 l k some m n)
      (λ l k m n. subst (λ S. matrix L 0 l k < order_of S) e
      (t.codes 0 l k (subst (λ S. 0 < length S.factors) (sym e) some) (subst (λ S. l < S.rank) (sym e) m)
      (subst (λ S. k < S.size) (sym e) n)))
      (λ l k m n. standard.units 0 l k some m n)
      same told.units b.independent));
}
  where
    order_of : Shape → ℕ
    order_of S = slice_index S.factors 0

    same : (l k : ℕ) → l < M.rank → k < size M → X k ≡ true → (k ≢ j) ⊎ (l ≤ i) → matrix M 0 l k ≡ matrix L 0 l k
    same l k m n x c = elim (cases_eq k j) [
      | inl eq ↦ elim c [ inl ne ↦ absurd (ne eq) | inr g ↦ h l k m n (inr (eq, omega arith)) ]
      | inr ne ↦ elim (cases_lt k j) [ inl b ↦ h l k m n (inl b) | inr g ↦ absurd (true≢false (sym x ∙ told.within k (omega arith) n)) ]
    ]

agree_back : (M L : Rep) (i j : ℕ) → shape L ≡ shape M → AgreeBefore M L i j → AgreeBefore L M i j
agree_back M L i j e h l k m n c = sym (h l k (subst (λ S. l < S.rank) e m) (subst (λ S. k < S.size) e n) c)

pub base_told : (M L : Rep) → IsShaped M → IsShaped L → IsStandard M → IsStandard L → shape L ≡ shape M → 0 < count M → (i j : ℕ) →
    M.rank ≤ j → j < size M → AgreeBefore M L (suc i) j → (X : ℕ → Bool) → IsToldAt M.rank (size M) i j X → IsBasis M 0 X ↔ IsBasis L 0 X
base_told M L s t sM sL e some i j past below h X told = (
  base_over M L s t sM e some i j past below h X told,
  base_over L M t s sL (sym e) (subst (λ S. 0 < length S.factors) (sym e) some) i j (subst (λ S. S.rank ≤ j) (sym e) past)
      (subst (λ S. j < S.size) (sym e) below)
      (agree_back M L (suc i) j e h) X (subst (λ S. IsToldAt S.rank S.size i j X) (sym e) told),
)
