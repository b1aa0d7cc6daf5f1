-- Every standard representation equivalent to M is made of an ordered basis of M, row scalars, column scalars and an order of the columns.
use Rattle.std.proofs.Common.{◌≡◌, ◌≢◌, ℕ, zero, suc, ◌+◌, ◌<◌, ◌≤◌, sym, ◌∙◌, ap, subst, arith, cond, length, inl, inr, false}
use Rattle.std.specs.Bool.{nat_lt}
use Rattle.std.proofs.lemmas.Bool.{cases_lt, le-ltb, lt-ltb}
use Rattle.matroid_theory.specs.Field.{plus, times, inverse, raised, IsField}
use Rattle.matroid_theory.specs.Matrix.{Matrix, sum_below, combination, unit, AreCoefficients, IsIndependent, size_below}
use Rattle.matroid_theory.specs.Rep.{Rep, shape, matrix, order, count, size, IsShaped, IsStandard}
use Rattle.matroid_theory.specs.Matroid.{IsBasis}
use Rattle.matroid_theory.specs.declared.Mode.{Mode}
use Rattle.matroid_theory.specs.Move.{Move, ArePermutation, IsMove, TakesTo}
use Rattle.matrix_lemmas.proofs.FieldLaws.{field_laws}
use Rattle.matrix_lemmas.proofs.Sums.{zero_below, plus_zero_right, sum_same, sum_relabelled, sum_below-code, times_zero, combination-unit, combination-product, combination-same, sum_start}
use Rattle.matrix_lemmas.proofs.Frobenius.{raised_combination, times_undone}
use Rattle.matrix_lemmas.proofs.Masks.{size-same, IsBasis-same}
use Rattle.matrix_lemmas.proofs.Units.{units_independent}
use Rattle.matrix_lemmas.proofs.Steps.{All, Independent, all_coefficients}
use Rattle.matrix_lemmas.proofs.Dimension.{spanning}
use Rattle.matroid_laws.proofs.Carried.{basis_carried}

module _ (q : ℕ) (F : IsField q) (r : ℕ) where
  -- the entry of a standard matrix at row i of a column, by the coordinates c of the column that it came from in the ordered basis p 0, .., p (r - 1)
  standard_entry : (t : ℕ) (G A : Matrix) (s : ℕ → ℕ) (p : ℕ → ℕ)
      → ((j : ℕ) → j < r → s j < q) → ((j : ℕ) → j < r → s j ≢ 0)
      → ((i j : ℕ) → i < r → j < r → times q (s j) (combination q r G (λ k. raised q t (A k (p j))) i) ≡ unit i j)
      → (k : ℕ) (c : ℕ → ℕ) → ((i : ℕ) → i < r → combination q r (λ i l. A i (p l)) c i ≡ A i k)
      → (i : ℕ) → i < r → combination q r G (λ m. raised q t (A m k)) i ≡ times q (inverse q (s i)) (raised q t (c i))
  standard_entry t G A s p s_code s_nonzero units k c is i l =
      combination-same q F r G (λ m. raised q t (A m k))
      (λ m. combination q r (λ i l. raised q t (A i (p l))) (λ l. raised q t (c l)) m) i
      (λ m m'. ap (raised q t) (sym (is m m')) ∙ raised_combination q F t r (λ i l. A i (p l)) c m)
      ∙ sym (combination-product q F r r G (λ i l. raised q t (A i (p l))) (λ l. raised q t (c l)) i)
      ∙ sum_same q F r (λ m. times q (combination q r G (λ k. raised q t (A k (p m))) i) (raised q t (c m)))
      (λ m. times q (unit i m) (times q (inverse q (s m)) (raised q t (c m)))) (λ m m'.
      ap (λ x. times q x (raised q t (c m)))
      (sym (times_undone q F (s m) (combination q r G (λ k. raised q t (A k (p m))) i) (s_code m m') (s_nonzero m m')
      (sum_below-code q F r _)) ∙ ap (times q (inverse q (s m))) (units i m l m') ∙ F.times_comm (inverse q (s m)) (unit i m))
      ∙ F.times_assoc (unit i m) (inverse q (s m)) (raised q t (c m)))
      ∙ combination-unit q F r (λ m. times q (inverse q (s m)) (raised q t (c m))) i l (F.times_below (inverse q (s i)) (raised q t (c i)))

  -- a sum whose terms from r on are 0
  sum_short : (n : ℕ) (f : ℕ → ℕ) → r ≤ n → ((j : ℕ) → r ≤ j → j < n → f j ≡ 0) → sum_below q n f ≡ sum_below q r f
  sum_short zero f le z = (let e : zero ≡ r = omega arith in ap (λ n. sum_below q n f) e)
  sum_short (suc n) f le z =
      elim (cases_lt n r) [
        | inl b ↦ (let e : suc n ≡ r = omega arith in ap (λ n. sum_below q n f) e)
        | inr g ↦ ap (plus q (sum_below q n f)) (z n g (omega arith))
            ∙ plus_zero_right q F (sum_below q n f) (sum_below-code q F n f) ∙ sum_short n f g (λ j l m. z j l (omega arith))
      ]

  -- independent columns p 0, .., p (r - 1), as a set
  pub set_of_independent : (n : ℕ) (A : Matrix) (p u : ℕ → ℕ) → r ≤ n → ArePermutation n p u → Independent q r r (λ i l. A i (p l)) →
      IsIndependent q r n A (λ k. nat_lt (u k) r)
  set_of_independent n A p u le w h = record {
    only_zero = λ a c z k l. elim (cases_lt (u k) r) [
      | inl b ↦ ap a (sym (w.back k l))
          ∙ h.only_zero (λ j. a (p j)) (all_coefficients q F r r r (λ j. a (p j)) (λ j m. c.codes (p j) (w.below j (omega arith))))
          (λ i m. sym (rows a c.outside i) ∙ z i m) (u k) b
      | inr g ↦ c.outside k l (le-ltb (u k) r g)
    ];
  }
    where
      rows : (a : ℕ → ℕ) → ((j : ℕ) → j < n → nat_lt (u j) r ≡ false → a j ≡ 0) → (i : ℕ) →
          combination q n A a i ≡ combination q r (λ i l. A i (p l)) (λ j. a (p j)) i
      rows a o i =
          sym (sum_relabelled q F n p u w (λ k. times q (A i k) (a k)) (λ k _. F.times_below (A i k) (a k)))
          ∙ sum_start q F r n (λ l. times q (A i (p l)) (a (p l))) le
          (λ l m b. ap (times q (A i (p l))) (o (p l) (w.below l b) (ap (λ x. nat_lt x r) (w.there l b) ∙ le-ltb l r m)) ∙ times_zero q F (A i (p l)))

  -- independent columns k with u k < r, in the order of p
  pub ordered_independent : (n : ℕ) (A : Matrix) (p u : ℕ → ℕ) → r ≤ n → ArePermutation n p u →
      IsIndependent q r n A (λ k. nat_lt (u k) r) → Independent q r r (λ i l. A i (p l))
  ordered_independent n A p u le w h =
      record {
        only_zero = λ a c z l m. sym (at a l m) ∙ h.only_zero (spread a) (coefficients a c) (λ i k. rows a i ∙ z i k) (p l)
            (w.below l (omega arith));
      }
    where
      spread : (ℕ → ℕ) → ℕ → ℕ
      spread a k = cond (nat_lt (u k) r) (a (u k)) 0

      at : (a : ℕ → ℕ) (l : ℕ) → l < r → spread a (p l) ≡ a l
      at a l m = ap (λ x. cond (nat_lt x r) (a x) 0) (w.there l (omega arith)) ∙ ap (λ b. cond b (a l) 0) (lt-ltb l r m)

      past : (a : ℕ → ℕ) (l : ℕ) → r ≤ l → l < n → spread a (p l) ≡ 0
      past a l m k = ap (λ x. cond (nat_lt x r) (a x) 0) (w.there l k) ∙ ap (λ b. cond b (a l) 0) (le-ltb l r m)

      code : (a : ℕ → ℕ) → ((l : ℕ) → l < r → a l < q) → (k : ℕ) → spread a k < q
      code a c k =
          elim (cases_lt (u k) r) [
            | inl b ↦ subst (λ (x : ℕ). x < q) (sym (ap (λ b. cond b (a (u k)) 0) (lt-ltb (u k) r b))) (c (u k) b)
            | inr g ↦ subst (λ (x : ℕ). x < q) (sym (ap (λ b. cond b (a (u k)) 0) (le-ltb (u k) r g))) (zero_below q F)
          ]

      coefficients : (a : ℕ → ℕ) → AreCoefficients q r All a → AreCoefficients q n (λ k. nat_lt (u k) r) (spread a)
      coefficients a c = record { codes = λ k l. code a c.codes k; outside = λ k l o. ap (λ b. cond b (a (u k)) 0) o }

      rows : (a : ℕ → ℕ) → (i : ℕ) → combination q n A (spread a) i ≡ combination q r (λ i l. A i (p l)) a i
      rows a i =
          sym (sum_relabelled q F n p u w (λ k. times q (A i k) (spread a k)) (λ k _. F.times_below (A i k) (spread a k)))
          ∙ sum_short n (λ l. times q (A i (p l)) (spread a (p l))) le (λ l m o. ap (times q (A i (p l))) (past a l m o) ∙ times_zero q F (A i (p l)))
          ∙ sum_same q F r (λ l. times q (A i (p l)) (spread a (p l))) (λ l. times q (A i (p l)) (a l)) (λ l m. ap (times q (A i (p l))) (at a l m))

-- how many numbers below n are below r
size_first : (n r : ℕ) → r ≤ n → size_below n (λ j. nat_lt j r) ≡ r
size_first zero r le = omega arith
size_first (suc n) r le =
    elim (cases_lt n r) [
      | inl b ↦ (let e : suc n ≡ r = omega arith in
          ap (λ b. size_below n (λ j. nat_lt j r) + cond b 1 0) (lt-ltb n r b)
          ∙ ap (λ x. x + 1) (size-same n (λ j. nat_lt j r) (λ j. nat_lt j n)
          (λ j l. (let m : j < r = omega arith in lt-ltb j r m) ∙ sym (lt-ltb j n l)) ∙ size_first n n (omega arith)) ∙ omega arith)
      | inr g ↦ ap (λ b. size_below n (λ j. nat_lt j r) + cond b 1 0) (le-ltb n r g) ∙ ap (λ x. x + 0) (size_first n r g) ∙ omega arith
    ]

module _ (mode : Mode) (M N : Rep) (m : Move) (shaped : IsShaped M) (s : IsStandard N) (v : IsMove mode (shape M) m) (t : TakesTo M m N) where
  same_rank : M.rank ≡ N.rank
  same_rank = ap (λ s. s.rank) (sym t.same_shape)

  room : M.rank ≤ size M
  room = subst (λ s. s.rank ≤ s.size) t.same_shape s.room

  inside : (j : ℕ) → j < M.rank → j < size M
  inside j h = let o : M.rank ≤ size M = room in omega arith

  module _ (f : ℕ) (l : f < count M) where
    there : f < count N
    there = subst (λ s. f < length s.factors) (sym t.same_shape) l

    -- the columns that the first columns came from are a basis
    pub standard_basis : IsBasis M f (λ k. nat_lt (m.place k) M.rank)
    standard_basis =
        let first : IsBasis N f (λ j. nat_lt j N.rank) =
        record {
          full = size_first (size N) N.rank s.room;
          independent = units_independent (order N f)
              (field_laws (order N f) (let o = t.shaped in o.orders f there)) N.rank (size N) (matrix N f) s.room (λ i j. s.units f i j there);
        } in
        let c = basis_carried mode M N m shaped v t f l (λ k. nat_lt (m.place k) M.rank) in
        c.1 (IsBasis-same N f (λ j. nat_lt j N.rank) (λ j. nat_lt (m.place (m.label j)) M.rank)
        (λ j k. ap (nat_lt j) (sym same_rank) ∙ ap (λ x. nat_lt x M.rank) (sym (v.labels.there j (subst (λ s. j < s.size) t.same_shape k)))) first)

    -- each column has coordinates in it
    pub standard_coordinates : (k : ℕ) → k < size M → (c : ℕ → ℕ) × ((i : ℕ) → i < M.rank → c i < order M f)
        × ((i : ℕ) → i < M.rank → combination (order M f) M.rank (λ i l. matrix M f i (m.label l)) c i ≡ matrix M f i (m.label k))
    standard_coordinates k b =
        spanning (order M f) (field_laws (order M f) (shaped.orders f l)) M.rank (λ i l. matrix M f i (m.label l))
        (λ i j n o. shaped.codes f i (m.label j) l n (v.labels.below j (inside j o)))
        (ordered_independent (order M f) (field_laws (order M f) (shaped.orders f l)) M.rank (size M)
        (matrix M f) m.label m.place room v.labels (let w = standard_basis in w.independent))
        (λ i. matrix M f i (m.label k)) (λ i n. shaped.codes f i (m.label k) l n (v.labels.below k b))

    -- which determine its entries, with the scalars of the move
    pub standard_by : (k : ℕ) → k < size M → (c : ℕ → ℕ) →
        ((i : ℕ) → i < M.rank → combination (order M f) M.rank (λ i l. matrix M f i (m.label l)) c i ≡ matrix M f i (m.label k))
        → (i : ℕ) → i < M.rank →
        matrix N f i k ≡ times (order M f) (m.scalar f k)
        (times (order M f) (inverse (order M f) (m.scalar f i)) (raised (order M f) (m.power f) (c i)))
    standard_by k b c cc i n =
        t.codes f i k l n b
        ∙ ap (times (order M f) (m.scalar f k))
        (standard_entry (order M f) (field_laws (order M f) (shaped.orders f l)) M.rank (m.power f) (m.rows f) (matrix M f)
        (m.scalar f) m.label
        (λ j h. v.scalars f j l (inside j h)) (λ j h. v.nonzero f j l (inside j h))
        (λ i j h g. sym (t.codes f i j l h (inside j g)) ∙ s.units f i j there (subst (λ x. i < x) same_rank h) (subst (λ x. j < x) same_rank g))
        (m.label k) c cc i n)
