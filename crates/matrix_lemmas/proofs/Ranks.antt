-- Independence is decided, with a relation where it fails; a step of elimination for sets of columns; ranks.
use Rattle.std.proofs.Common.{◌≡◌, ◌≢◌, ℕ, zero, suc, ◌+◌, ◌<◌, ◌≤◌, refl, sym, ◌∙◌, ap, subst, arith, cond, Bool, true, false, inl, inr, ◌⊎◌}
use Rattle.std.specs.Bool.{◌==◌}
use Rattle.std.proofs.lemmas.Bool.{cases_lt, cases_eq, cases_Bool}
use mathlib.Core.Bool.{true≢false}
use Rattle.matroid_theory.specs.Field.{plus, times, negative, inverse, IsField}
use Rattle.matroid_theory.specs.Matrix.{Matrix, combination, size_below, AreCoefficients, IsIndependent, IsIndependentPart, IsRankOf}
use Rattle.matrix_lemmas.proofs.Sums.{zero_below, plus_cancel, plus_zero_right, plus_swap, sum_plus, combination-scaled, sum_same, sum_zero, sum_below-code, times_zero, zero_times, same_number, other_number}
use Rattle.matrix_lemmas.proofs.Frobenius.{times_undone, times_nonzero}
use Rattle.matrix_lemmas.proofs.Masks.{size-same, IsIndependent-same}
use Rattle.matrix_lemmas.proofs.Picked.{size_more, size_stays}
use Rattle.matrix_lemmas.proofs.Steps.{pivot_row, cleared_entry, share, B_combination}

-- coefficients of a set that have the combination zero, and aren't 0 at some column
pub record Relation (q r n : ℕ) (A : Matrix) (S : ℕ → Bool) : Type 0 where
  pub a : ℕ → ℕ
  pub coefficients : AreCoefficients q n S a
  pub zero_combination : (i : ℕ) → i < r → combination q n A a i ≡ 0
  pub at : ℕ
  pub at_below : at < n
  pub nonzero : a at ≢ 0

module _ (q : ℕ) (F : IsField q) where
  pub related_dependent : (r n : ℕ) (A : Matrix) (S : ℕ → Bool) → Relation q r n A S → ¬ (IsIndependent q r n A S)
  related_dependent r n A S w h = w.nonzero (h.only_zero w.a w.coefficients w.zero_combination w.at w.at_below)

  -- a column that isn't in the set may be left out
  pub without_last : (r n : ℕ) (A : Matrix) (S : ℕ → Bool) → S n ≡ false → IsIndependent q r n A S → IsIndependent q r (suc n) A S
  without_last r n A S e h = record {
    only_zero = λ a c z j l. elim (cases_lt j n) [
      | inl b ↦ h.only_zero a (record { codes = λ j m. c.codes j (omega arith); outside = λ j m. c.outside j (omega arith) })
          (λ i m. sym (ap (plus q (combination q n A a i))
          (ap (times q (A i n)) (c.outside n (omega arith) e) ∙ times_zero q F (A i n))
          ∙ plus_zero_right q F (combination q n A a i) (sum_below-code q F n _)) ∙ z i m) j b
      | inr g ↦ (let k : j ≡ n = omega arith in ap a k ∙ c.outside n (omega arith) e)
    ];
  }

  unfoldable pub with_last : ℕ → (ℕ → ℕ) → ℕ → ℕ → ℕ
  with_last n x t j = cond (j == n) t (x j)

  pub last_own : (n : ℕ) (x : ℕ → ℕ) (t : ℕ) → with_last n x t n ≡ t
  unfolding with_last
  last_own n x t = ap (λ b. cond b t (x n)) (same_number n)

  pub last_before : (n : ℕ) (x : ℕ → ℕ) (t j : ℕ) → j < n → with_last n x t j ≡ x j
  unfolding with_last
  last_before n x t j l = let ne : j ≢ n = omega arith in ap (λ b. cond b t (x j)) (other_number j n ne)

  pub combination_last : (n : ℕ) (A : Matrix) (x : ℕ → ℕ) (t i : ℕ) →
      combination q (suc n) A (with_last n x t) i ≡ plus q (combination q n A x i) (times q (A i n) t)
  combination_last n A x t i =
      λ k. plus q (sum_same q F n (λ j. times q (A i j) (with_last n x t j)) (λ j. times q (A i j) (x j))
      (λ j l. ap (times q (A i j)) (last_before n x t j l)) k) (times q (A i n) (last_own n x t k))

  pub last_coefficients : (n : ℕ) (S : ℕ → Bool) (x : ℕ → ℕ) (t : ℕ) → AreCoefficients q n S x → t < q → (S n ≡ false → t ≡ 0) →
      AreCoefficients q (suc n) S (with_last n x t)
  last_coefficients n S x t c l o = record {
    codes = λ j m. elim (cases_lt j n) [
      | inl b ↦ subst (λ (y : ℕ). y < q) (sym (last_before n x t j b)) (c.codes j b)
      | inr g ↦ (let e : j ≡ n = omega arith in subst (λ (y : ℕ). y < q) (sym (ap (with_last n x t) e ∙ last_own n x t)) l)
    ];
    outside = λ j m e. elim (cases_lt j n) [
      | inl b ↦ last_before n x t j b ∙ c.outside j b e
      | inr g ↦ (let k : j ≡ n = omega arith in ap (with_last n x t) k ∙ last_own n x t ∙ o (sym (ap S k) ∙ e))
    ];
  }

  -- a relation of the first columns is one of all
  longer : (r n : ℕ) (A : Matrix) (S : ℕ → Bool) → Relation q r n A S → Relation q r (suc n) A S
  longer r n A S w = record {
    a = with_last n w.a 0;
    coefficients = last_coefficients n S w.a 0 w.coefficients (zero_below q F) (λ _. refl);
    zero_combination = λ i l. combination_last n A w.a 0 i ∙ (λ k. plus q (w.zero_combination i l k) (times_zero q F (A i n) k))
        ∙ F.plus_zero 0 (zero_below q F);
    at = w.at;
    at_below = (let l = w.at_below in omega arith);
    nonzero = λ e. w.nonzero (sym (last_before n w.a 0 w.at w.at_below) ∙ e);
  }

  -- a zero column has the relation 1
  zero_relation : (r n : ℕ) (A : Matrix) (S : ℕ → Bool) → S n ≡ true → ((i : ℕ) → i < r → A i n ≡ 0) → Relation q r (suc n) A S
  zero_relation r n A S t z = record {
    a = with_last n (λ _. 0) 1;
    coefficients = last_coefficients n S (λ _. 0) 1 (record { codes = λ j l. zero_below q F; outside = λ j l e. refl }) F.two
        (λ e. absurd (true≢false (sym t ∙ e)));
    zero_combination = λ i l. combination_last n A (λ _. 0) 1 i
        ∙ (λ k. plus q ((sum_same q F n (λ j. times q (A i j) 0) (λ _. 0) (λ j _. times_zero q F (A i j)) ∙ sum_zero q F n) k)
        ((ap (λ x. times q x 1) (z i l) ∙ zero_times q F 1) k)) ∙ F.plus_zero 0 (zero_below q F);
    at = n;
    at_below = omega arith;
    nonzero = λ e. (let k : 1 ≡ zero = sym (last_own n (λ _. 0) 1) ∙ e in absurd (omega arith));
  }

  -- ---- one step of elimination, for sets of columns

  module _ (r n : ℕ) (A B : Matrix) (m : ℕ → ℕ) (k : ℕ) (k_below : k < r)
      (codes : (i j : ℕ) → i < r → j < suc n → A i j < q) (pivot : A k n ≢ 0)
      (B_is : (i j : ℕ) → i < r → j < n → B i j ≡ plus q (A i j) (times q (m j) (A i n)))
      (cleared : (j : ℕ) → j < n → B k j ≡ 0) where
    part : (ℕ → ℕ) → ℕ
    part a = share q F r n A B m k k_below (λ i l. codes i n l (omega arith)) pivot B_is cleared a

    part_code : (a : ℕ → ℕ) → part a < q
    unfolding part share
    part_code a = sum_below-code q F n (λ j. times q (m j) (a j))

    B_by : (a : ℕ → ℕ) (i : ℕ) → i < r → combination q n B a i ≡ plus q (combination q n A a i) (times q (A i n) (part a))
    unfolding part
    B_by = B_combination q F r n A B m k k_below (λ i l. codes i n l (omega arith)) pivot B_is cleared

    B_row : (a : ℕ → ℕ) → combination q n B a k ≡ 0
    B_row a = sum_same q F n (λ j. times q (B k j) (a j)) (λ _. 0) (λ j l. ap (λ x. times q x (a j)) (cleared j l) ∙ zero_times q F (a j)) ∙ sum_zero q F n

    part_zero : (a : ℕ → ℕ) → ((j : ℕ) → j < n → a j ≡ 0) → part a ≡ 0
    unfolding part share
    part_zero a h = sum_same q F n (λ j. times q (m j) (a j)) (λ _. 0) (λ j l. ap (times q (m j)) (h j l) ∙ times_zero q F (m j)) ∙ sum_zero q F n

    -- with the last column in the set: from the others, cleared
    set_from_rest : (S : ℕ → Bool) → IsIndependent q r n B S → IsIndependent q r (suc n) A S
    set_from_rest S h = record { only_zero = whole }
      where
        whole : (a : ℕ → ℕ) → AreCoefficients q (suc n) S a → ((i : ℕ) → i < r → combination q (suc n) A a i ≡ 0) → (j : ℕ) → j < suc n → a j ≡ 0
        whole a c z j l =
            elim (cases_lt j n) [ inl b ↦ rest j b | inr g ↦ (let e : j ≡ n = omega arith in ap a e ∙ last_is ∙ part_zero a rest) ]
          where
            balance : (i : ℕ) → i < r → plus q (combination q n B a i) (times q (A i n) (a n)) ≡ times q (A i n) (part a)
            balance i l =
                ap (λ x. plus q x (times q (A i n) (a n))) (B_by a i l)
                ∙ F.plus_assoc (combination q n A a i) (times q (A i n) (part a)) (times q (A i n) (a n))
                ∙ ap (plus q (combination q n A a i)) (F.plus_comm (times q (A i n) (part a)) (times q (A i n) (a n)))
                ∙ sym (F.plus_assoc (combination q n A a i) (times q (A i n) (a n)) (times q (A i n) (part a)))
                ∙ ap (λ x. plus q x (times q (A i n) (part a))) (z i l)
                ∙ F.plus_zero (times q (A i n) (part a)) (F.times_below (A i n) (part a))

            last_is : a n ≡ part a
            last_is =
                sym (times_undone q F (A k n) (a n) (codes k n k_below (omega arith)) pivot (c.codes n (omega arith)))
                ∙ ap (times q (inverse q (A k n)))
                (sym (F.plus_zero (times q (A k n) (a n)) (F.times_below (A k n) (a n)))
                ∙ ap (λ x. plus q x (times q (A k n) (a n))) (sym (B_row a)) ∙ balance k k_below)
                ∙ times_undone q F (A k n) (part a) (codes k n k_below (omega arith)) pivot (part_code a)

            zero_rest : (i : ℕ) → i < r → combination q n B a i ≡ 0
            zero_rest i l =
                plus_cancel q F (times q (A i n) (part a)) (combination q n B a i) 0 (sum_below-code q F n (λ j. times q (B i j) (a j))) (zero_below q F)
                (F.plus_comm (times q (A i n) (part a)) (combination q n B a i)
                ∙ ap (λ x. plus q (combination q n B a i) (times q (A i n) x)) (sym last_is) ∙ balance i l
                ∙ sym (plus_zero_right q F (times q (A i n) (part a)) (F.times_below (A i n) (part a))))

            rest : (j : ℕ) → j < n → a j ≡ 0
            rest = h.only_zero a (record { codes = λ j l. c.codes j (omega arith); outside = λ j l. c.outside j (omega arith) }) zero_rest

    -- coefficients of the others, with the last one's share
    with_share : (S : ℕ → Bool) → S n ≡ true → (b : ℕ → ℕ) → AreCoefficients q n S b → AreCoefficients q (suc n) S (with_last n b (part b))
    with_share S s b c = last_coefficients n S b (part b) c (part_code b) (λ o. absurd (true≢false (sym s ∙ o)))

    share_combination : (b : ℕ → ℕ) → ((i : ℕ) → i < r → combination q n B b i ≡ 0) → (i : ℕ) → i < r → combination q (suc n) A (with_last n b (part b)) i ≡ 0
    share_combination b z i l = combination_last n A b (part b) i ∙ sym (B_by b i l) ∙ z i l

    set_to_rest : (S : ℕ → Bool) → S n ≡ true → IsIndependent q r (suc n) A S → IsIndependent q r n B S
    set_to_rest S s h = record {
      only_zero = λ b c z j l. sym (last_before n b (part b) j l)
          ∙ h.only_zero (with_last n b (part b)) (with_share S s b c) (share_combination b z) j (omega arith);
    }

    relation_from_rest : (S : ℕ → Bool) → S n ≡ true → Relation q r n B S → Relation q r (suc n) A S
    relation_from_rest S s w = record {
      a = with_last n w.a (part w.a);
      coefficients = with_share S s w.a w.coefficients;
      zero_combination = share_combination w.a w.zero_combination;
      at = w.at;
      at_below = (let l = w.at_below in omega arith);
      nonzero = λ e. w.nonzero (sym (last_before n w.a (part w.a) w.at w.at_below) ∙ e);
    }

    -- an independent set I without the last column, that has a relation together with it: without an element of that relation it is independent when cleared
    pub exchanged : (I J K : ℕ → Bool) → I n ≡ false → ((j : ℕ) → j < n → J j ≡ I j) → IsIndependent q r (suc n) A I →
        (w : Relation q r (suc n) A J) → (e : ℕ) → e < n → w.a e ≢ 0
        → K e ≡ false → ((j : ℕ) → j < n → I j ≡ false → K j ≡ false) → IsIndependent q r n B K
    exchanged I J K last same h w e l ne out down = record { only_zero = zero_by }
      where
        zero_by : (b : ℕ → ℕ) → AreCoefficients q n K b → ((i : ℕ) → i < r → combination q n B b i ≡ 0) → (j : ℕ) → j < n → b j ≡ 0
        zero_by b c z = λ j o. sym (last_before n b 0 j o)
            ∙ h.only_zero (with_last n b 0) (last_coefficients n I b 0 in_I (zero_below q F) (λ _. refl)) rows j (omega arith)
          where
            y : ℕ
            y = w.a n

            g : ℕ
            g = negative q (part b)

            in_I : AreCoefficients q n I b
            in_I = record { codes = c.codes; outside = λ j o i. c.outside j o (down j o i) }

            d : ℕ → ℕ
            d j = plus q (times q y (b j)) (times q g (w.a j))

            d_in_I : AreCoefficients q n I d
            d_in_I = record {
              codes = λ j o. F.plus_below _ _;
              outside = λ j o i. (λ t. plus q (times q y (c.outside j o (down j o i) t))
                  (times q g (w.coefficients.outside j (omega arith) (same j o ∙ i) t)))
                  ∙ (λ t. plus q (times_zero q F y t) (times_zero q F g t)) ∙ F.plus_zero 0 (zero_below q F);
            }

            d_zero : (i : ℕ) → i < r → combination q n A d i ≡ 0
            d_zero i o =
                sum_same q F n (λ j. times q (A i j) (d j))
                (λ j. plus q (times q (A i j) (times q y (b j))) (times q (A i j) (times q g (w.a j))))
                (λ j _. F.times_plus (A i j) (times q y (b j)) (times q g (w.a j)))
                ∙ sum_plus q F n (λ j. times q (A i j) (times q y (b j))) (λ j. times q (A i j) (times q g (w.a j)))
                ∙ (λ t. plus q (combination-scaled q F n A y b i t) (combination-scaled q F n A g w.a i t))
                ∙ sym (plus_zero_right q F (plus q (times q y x) (times q g v)) (F.plus_below _ _))
                ∙ ap (plus q (plus q (times q y x) (times q g v))) (sym cross)
                ∙ plus_swap q F (times q y x) (times q g v) (times q y (times q (A i n) (part b))) (times q g (times q (A i n) y))
                ∙ (λ t. plus q (sym (F.times_plus y x (times q (A i n) (part b))) t) (sym (F.times_plus g v (times q (A i n) y)) t))
                ∙ (λ t. plus q (times q y ((sym (B_by b i o) ∙ z i o) t)) (times q g (w.zero_combination i o t)))
                ∙ (λ t. plus q (times_zero q F y t) (times_zero q F g t)) ∙ F.plus_zero 0 (zero_below q F)
              where
                x : ℕ
                x = combination q n A b i

                v : ℕ
                v = combination q n A w.a i

                -- y t part + g t y = (y t) (part + g) = 0
                cross : plus q (times q y (times q (A i n) (part b))) (times q g (times q (A i n) y)) ≡ 0
                cross =
                    (λ t. plus q (sym (F.times_assoc y (A i n) (part b)) t)
                    ((F.times_comm g (times q (A i n) y) ∙ ap (λ s. times q s g) (F.times_comm (A i n) y)) t))
                    ∙ sym (F.times_plus (times q y (A i n)) (part b) g)
                    ∙ ap (times q (times q y (A i n))) (F.plus_negative (part b)) ∙ times_zero q F (times q y (A i n))

            d_none : d e ≡ 0
            d_none = sym (last_before n d 0 e l)
                ∙ h.only_zero (with_last n d 0) (last_coefficients n I d 0 d_in_I (zero_below q F) (λ _. refl))
                (λ i o. combination_last n A d 0 i ∙ (λ t. plus q (d_zero i o t) (times_zero q F (A i n) t))
                ∙ F.plus_zero 0 (zero_below q F)) e (omega arith)

            g_none : g ≡ 0
            g_none =
                elim (cases_eq g 0) [
                  | inl k ↦ k
                  | inr k ↦ absurd (times_nonzero q F g (w.a e) (F.negative_below (part b)) (w.coefficients.codes e (omega arith)) k ne
                      (sym (F.plus_zero (times q g (w.a e)) (F.times_below g (w.a e)))
                      ∙ ap (λ s. plus q s (times q g (w.a e))) (sym (ap (times q y) (c.outside e l out) ∙ times_zero q F y)) ∙ d_none))
                ]

            part_none : part b ≡ 0
            part_none = sym (plus_zero_right q F (part b) (part_code b)) ∙ ap (plus q (part b)) (sym g_none) ∙ F.plus_negative (part b)

            rows : (i : ℕ) → i < r → combination q (suc n) A (with_last n b 0) i ≡ 0
            rows i o = combination_last n A b 0 i ∙ ap (λ s. plus q (combination q n A b i) (times q (A i n) s)) (sym part_none) ∙ sym (B_by b i o) ∙ z i o

  -- ---- what a pivot row of the last column gives

  multiple_of : (n : ℕ) (A : Matrix) (k : ℕ) → ℕ → ℕ
  multiple_of n A k j = negative q (times q (A k j) (inverse q (A k n)))

  abbrev others : ℕ → Matrix → ℕ → Matrix
  others n A k i j = plus q (A i j) (times q (multiple_of n A k j) (A i n))

  others_cleared : (r n : ℕ) (A : Matrix) (k : ℕ) → k < r → ((i j : ℕ) → i < r → j < suc n → A i j < q) → A k n ≢ 0 → (j : ℕ) → j < n → others n A k k j ≡ 0
  unfolding multiple_of
  others_cleared r n A k l c ne j o = cleared_entry q F (A k j) (A k n) (c k j l (omega arith)) (c k n l (omega arith)) ne

  -- each set of columns is independent, or has a relation
  pub decided : (r n : ℕ) (A : Matrix) → ((i j : ℕ) → i < r → j < n → A i j < q) → (S : ℕ → Bool) → IsIndependent q r n A S ⊎ Relation q r n A S
  decided r zero A c S = inl (record { only_zero = λ a d z j l. absurd (omega arith) })
  decided r (suc n) A c S =
      elim (cases_Bool (S n)) [
        | inr f ↦ elim (decided r n A (λ i j l m. c i j l (omega arith)) S) [ inl h ↦ inl (without_last r n A S f h) | inr w ↦ inr (longer r n A S w) ]
        | inl t ↦ elim (pivot_row r (λ i. A i n)) [
          | inr z ↦ inr (zero_relation r n A S t z)
          | inl p ↦ elim (decided r n (others n A p.0) (λ i j _ _. F.plus_below _ _) S) [
            | inl h ↦ inl (set_from_rest r n A (others n A p.0) (multiple_of n A p.0) p.0 p.1 c p.2 (λ i j _ _. refl) (others_cleared r n A p.0 p.1 c p.2) S h)
            | inr w ↦ inr (relation_from_rest r n A (others n A p.0) (multiple_of n A p.0) p.0 p.1 c p.2 (λ i j _ _. refl)
                (others_cleared r n A p.0 p.1 c p.2) S t w)
          ]
        ]
      ]

-- a set without one of its numbers
abbrev pub but : ℕ → (ℕ → Bool) → ℕ → Bool
but e I j = cond (j == e) false (I j)

pub but_own : (e : ℕ) (I : ℕ → Bool) → but e I e ≡ false
but_own e I = ap (λ b. cond b false (I e)) (same_number e)

pub but_other : (e : ℕ) (I : ℕ → Bool) (j : ℕ) → j ≢ e → but e I j ≡ I j
but_other e I j n = ap (λ b. cond b false (I j)) (other_number j e n)

abbrev one_if : Bool → ℕ
one_if b = cond b 1 0

-- one element fewer
pub size_but : (e n : ℕ) (I : ℕ → Bool) → e < n → I e ≡ true → size_below n (but e I) + 1 ≡ size_below n I
size_but e zero I l t = absurd (omega arith)
size_but e (suc n) I l t =
    elim (cases_lt e n) [
      | inl b ↦ (let h : size_below n (but e I) + 1 ≡ size_below n I = size_but e n I b t in
          let k : one_if (but e I n) ≡ one_if (I n) = ap one_if (but_other e I n (λ x. absurd (omega arith))) in omega arith)
      | inr g ↦ (let i : n ≡ e = omega arith in
          let h : size_below n (but e I) ≡ size_below n I = size-same n (but e I) I (λ j m. but_other e I j (λ x. absurd (omega arith))) in
          let a : one_if (but e I n) ≡ 0 = ap one_if (ap (but e I) i ∙ but_own e I) in
          let b : one_if (I n) ≡ 1 = ap one_if (ap I i ∙ t) in omega arith)
    ]

module _ (q : ℕ) (F : IsField q) (r n : ℕ) (A : Matrix) (codes : (i j : ℕ) → i < r → j < suc n → A i j < q) where
  abbrev Every : ℕ → Bool
  Every _ = true

  bound : (n : ℕ) (B : Matrix) (k : ℕ) → IsRankOf q r n B Every k → (I : ℕ → Bool) → IsIndependent q r n B I → size_below n I ≤ k
  bound n B k h I d = h.greatest (size_below n I) I (record { within = λ j l e. refl; elements = refl; independent = d })

  -- a zero column adds nothing to the rank
  pub rank_zero : ((i : ℕ) → i < r → A i n ≡ 0) → (k : ℕ) → IsRankOf q r n A Every k → IsRankOf q r (suc n) A Every k
  rank_zero z k h = record { reached = reach h.reached; greatest = most }
    where
      reach : (I : ℕ → Bool) × IsIndependentPart q r n A Every k I → (I : ℕ → Bool) × IsIndependentPart q r (suc n) A Every k I
      reach (I, p) = (
        but n I,
        record {
          within = λ j l e. refl;
          elements = size_stays n (but n I) (but_own n I) ∙ size-same n (but n I) I (λ j l. but_other n I j (λ e. absurd (omega arith))) ∙ p.elements;
          independent = without_last q F r n A (but n I) (but_own n I)
              (IsIndependent-same q r n A I (but n I) (λ j l. sym (but_other n I j (λ e. absurd (omega arith)))) p.independent);
        },
      )

      most : (m : ℕ) (I : ℕ → Bool) → IsIndependentPart q r (suc n) A Every m I → m ≤ k
      most m I p =
          elim (cases_Bool (I n)) [
            | inl t ↦ absurd (related_dependent q F r (suc n) A I (zero_relation q F r n A I t z) p.independent)
            | inr f ↦ (let e : size_below (suc n) I ≡ m = p.elements in let s : size_below (suc n) I ≡ size_below n I = size_stays n I f in
                let b : size_below n I ≤ k = bound n A k h I (first I f p.independent) in omega arith)
          ]
        where
          first : (I : ℕ → Bool) → I n ≡ false → IsIndependent q r (suc n) A I → IsIndependent q r n A I
          first I f d = record {
            only_zero = λ a c z j l. sym (last_before q F n a 0 j l)
                ∙ d.only_zero (with_last q F n a 0) (last_coefficients q F n I a 0 c (zero_below q F) (λ _. refl))
                (λ i m. combination_last q F n A a 0 i ∙ (λ t. plus q (z i m t) (times_zero q F (A i n) t))
                ∙ F.plus_zero 0 (zero_below q F)) j (omega arith);
          }

  -- a pivot adds one
  pub rank_pivot : (e : ℕ) → e < r → A e n ≢ 0 → (B : Matrix) (m : ℕ → ℕ) →
      ((i j : ℕ) → i < r → j < n → B i j ≡ plus q (A i j) (times q (m j) (A i n))) → ((j : ℕ) → j < n → B e j ≡ 0)
      → (k : ℕ) → IsRankOf q r n B Every k → IsRankOf q r (suc n) A Every (suc k)
  rank_pivot e l ne B m B_is cl k h = record { reached = reach h.reached; greatest = most }
    where
      with_n : (ℕ → Bool) → ℕ → Bool
      with_n I j = cond (j == n) true (I j)

      own : (I : ℕ → Bool) → with_n I n ≡ true
      own I = ap (λ b. cond b true (I n)) (same_number n)

      before : (I : ℕ → Bool) (j : ℕ) → j < n → with_n I j ≡ I j
      before I j l = let x : j ≢ n = omega arith in ap (λ b. cond b true (I j)) (other_number j n x)

      reach : (I : ℕ → Bool) × IsIndependentPart q r n B Every k I → (I : ℕ → Bool) × IsIndependentPart q r (suc n) A Every (suc k) I
      reach (I, p) = (
        with_n I,
        record {
          within = λ j l e. refl;
          elements = size_more n (with_n I) (own I) ∙ ap suc (size-same n (with_n I) I (before I) ∙ p.elements);
          independent = set_from_rest q F r n A B m e l codes ne B_is cl (with_n I)
              (IsIndependent-same q r n B I (with_n I) (λ j l. sym (before I j l)) p.independent);
        },
      )

      most : (s : ℕ) (I : ℕ → Bool) → IsIndependentPart q r (suc n) A Every s I → s ≤ suc k
      most s I p =
          elim (cases_Bool (I n)) [
            | inl t ↦ (let x : size_below (suc n) I ≡ s = p.elements in let y : size_below (suc n) I ≡ suc (size_below n I) = size_more n I t in
                let b : size_below n I ≤ k = bound n B k h I (set_to_rest q F r n A B m e l codes ne B_is cl I t p.independent) in omega arith)
            | inr f ↦ (let x : size_below (suc n) I ≡ s = p.elements in let y : size_below (suc n) I ≡ size_below n I = size_stays n I f in
                let b : size_below n I ≤ suc k = without I f p.independent (decided q F r (suc n) A codes (with_n I)) in omega arith)
          ]
        where
          without : (I : ℕ → Bool) → I n ≡ false → IsIndependent q r (suc n) A I →
              IsIndependent q r (suc n) A (with_n I) ⊎ Relation q r (suc n) A (with_n I) → size_below n I ≤ suc k
          without I f d (inl g) =
              let b : size_below n I ≤ k =
              bound n B k h I (IsIndependent-same q r n B (with_n I) I (before I)
              (set_to_rest q F r n A B m e l codes ne B_is cl (with_n I) (own I) g)) in omega arith
          without I f d (inr w) = by (pivot_row n w.a)
            where
              by : ((i : ℕ) × (i < n) × (w.a i ≢ 0)) ⊎ ((i : ℕ) → i < n → w.a i ≡ 0) → size_below n I ≤ suc k
              by (inl (i, o, x)) =
                  let t : I i ≡ true = elim (cases_Bool (I i)) [ inl t ↦ t | inr g ↦ absurd (x (w.coefficients.outside i (omega arith) (before I i o ∙ g))) ] in
                  let a : size_below n (but i I) + 1 ≡ size_below n I = size_but i n I o t in
                  let b : size_below n (but i I) ≤ k =
                  bound n B k h (but i I) (exchanged q F r n A B m e l codes ne B_is cl I (with_n I) (but i I) f
                  (before I) d w i o x (but_own i I)
                  (λ j o' g. elim (cases_eq j i) [ inl y ↦ ap (but i I) y ∙ but_own i I | inr y ↦ but_other i I j y ∙ g ])) in
                  omega arith
              by (inr z) = absurd (times_nonzero q F (A e n) (w.a n) (codes e n l (omega arith)) (w.coefficients.codes n (omega arith)) ne last
                  (sym (F.plus_zero (times q (A e n) (w.a n)) (F.times_below _ _))
                  ∙ ap (λ s. plus q s (times q (A e n) (w.a n)))
                  (sym (sum_same q F n (λ j. times q (A e j) (w.a j)) (λ _. 0)
                  (λ j o. ap (times q (A e j)) (z j o) ∙ times_zero q F (A e j)) ∙ sum_zero q F n)) ∙ w.zero_combination e l))
                where
                  last : w.a n ≢ 0
                  last y = w.nonzero (elim (cases_lt w.at n)
                      [ inl b ↦ z w.at b | inr g ↦ (let u : w.at < suc n = w.at_below in let v : w.at ≡ n = omega arith in ap w.a v ∙ y) ])

-- the same of a matrix with the same codes
row_codes : (q n : ℕ) (A B : Matrix) (a : ℕ → ℕ) (i : ℕ) → ((j : ℕ) → j < n → A i j ≡ B i j) → combination q n A a i ≡ combination q n B a i
row_codes q zero A B a i h = refl
row_codes q (suc n) A B a i h = λ k. plus q (row_codes q n A B a i (λ j l. h j (omega arith)) k) (times q (h n (omega arith) k) (a n))

pub IsIndependent-codes : (q r n : ℕ) (A B : Matrix) (S : ℕ → Bool) → ((i j : ℕ) → i < r → j < n → A i j ≡ B i j) →
    IsIndependent q r n A S → IsIndependent q r n B S
IsIndependent-codes q r n A B S h d = record { only_zero = λ a c z. d.only_zero a c (λ i l. row_codes q n A B a i (λ j m. h i j l m) ∙ z i l) }

pub IsRankOf-codes : (q r n : ℕ) (A B : Matrix) (S : ℕ → Bool) (k : ℕ) → ((i j : ℕ) → i < r → j < n → A i j ≡ B i j) →
    IsRankOf q r n A S k → IsRankOf q r n B S k
IsRankOf-codes q r n A B S k h d = record {
  reached = (let (I, p) = d.reached in (I, record { within = p.within; elements = p.elements; independent = IsIndependent-codes q r n A B I h p.independent }));
  greatest = λ m I p. d.greatest m I
      (record {
        within = p.within;
        elements = p.elements;
        independent = IsIndependent-codes q r n B A I
            (λ i j l m. sym (h i j l m)) p.independent;
      });
}

-- the rank of no column
pub rank_none : (q r : ℕ) (A : Matrix) (S : ℕ → Bool) → IsRankOf q r 0 A S 0
rank_none q r A S = record {
  reached = (
    (λ _. false),
    record { within = λ j l e. absurd (omega arith); elements = refl; independent = record { only_zero = λ a c z j l. absurd (omega arith) } },
  );
  greatest = λ m I p. (let e : zero ≡ m = p.elements in omega arith);
}
