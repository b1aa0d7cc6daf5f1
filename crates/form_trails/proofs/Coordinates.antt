-- Coordinates in an ordered basis are determined up to a factor.
use Rattle.std.proofs.Common.{◌≡◌, ◌≢◌, inl, inr, ℕ, zero, ◌<◌, sym, ◌∙◌, ap, subst, arith, cond}
use Rattle.std.proofs.lemmas.Bool.{cases_eq}
use Rattle.matroid_theory.specs.Field.{IsField, plus, times, negative}
use Rattle.matroid_theory.specs.Matrix.{Matrix, combination, unit}
use Rattle.matroid_theory.specs.Rep.{Rep, count, size, order, matrix, IsShaped}
use Rattle.matrix_lemmas.proofs.Sums.{same_number, other_number, times_zero, plus_cancel, combination-scaled, combination-same, sum_below-code}
use Rattle.matrix_lemmas.proofs.Steps.{Independent, all_coefficients}
use Rattle.matrix_lemmas.proofs.Dimension.{combination_plus, times_unit_column, unit_code}
use Rattle.form_trails.specs.Trail.{Trail, AreCoordinates, IsOrdered}
use Rattle.form_trails.proofs.Scalars.{IsScalar, zero_factor, times_one_right, times_turn}
use Rattle.form_trails.proofs.Entries.{field}

module _ (q : ℕ) (F : IsField q) (r n : ℕ) (A : Matrix) (h : Independent q r n A) where
  -- b + - b
  with_negative : (b : ℕ) → b < q → plus q b (times q (negative q 1) b) ≡ 0
  with_negative b l =
      (λ i. plus q (sym (times_one_right q F b l) i) (F.times_comm (negative q 1) b i)) ∙ sym (F.times_plus b 1 (negative q 1))
      ∙ ap (times q b) (F.plus_negative 1) ∙ times_zero q F b

  -- one combination of independent columns has one list of coefficients
  pub same_coefficients : (a b : ℕ → ℕ) → ((j : ℕ) → j < n → a j < q) → ((j : ℕ) → j < n → b j < q)
      → ((i : ℕ) → i < r → combination q n A a i ≡ combination q n A b i) → (j : ℕ) → j < n → a j ≡ b j
  same_coefficients a b ca cb e j l =
      plus_cancel q F (times q (negative q 1) (b j)) (a j) (b j) (ca j l) (cb j l)
      (F.plus_comm (times q (negative q 1) (b j)) (a j) ∙ h.only_zero difference (all_coefficients q F r n n difference (λ k _. F.plus_below _ _)) rows j l
      ∙ sym (F.plus_comm (times q (negative q 1) (b j)) (b j) ∙ with_negative (b j) (cb j l)))
    where
      difference : ℕ → ℕ
      difference k = plus q (a k) (times q (negative q 1) (b k))

      rows : (i : ℕ) → i < r → combination q n A difference i ≡ 0
      rows i m =
          combination_plus q F n A a (λ k. times q (negative q 1) (b k)) i
          ∙ (λ t. plus q (e i m t) (combination-scaled q F n A (negative q 1) b i t))
          ∙ with_negative (combination q n A b i) (sum_below-code q F n _)

module _ (M : Rep) (shaped : IsShaped M) (d : Trail) (h : IsOrdered M d) where
  pub row_scalars : (f i : ℕ) → f < count M → i < M.rank → IsScalar (order M f) (d.scalar f i)
  row_scalars f i l b = record { code = h.scalar_code f i l b; nonzero = h.scalar_nonzero f i l b }

  -- the same in one factor
  module _ (f : ℕ) (l : f < count M) where
    abbrev F : IsField (order M f)
    F = field M shaped f l

    pub record AreCoordinatesIn (x : ℕ) (c : ℕ → ℕ) : Type 0 where
      pub codes : (i : ℕ) → i < M.rank → c i < order M f
      pub scale : ℕ
      pub scalar : IsScalar (order M f) scale
      pub combined : (i : ℕ) → i < M.rank →
          combination (order M f) M.rank (λ i l. matrix M f i (d.label l)) (λ l. times (order M f) (d.scalar f l) (c l)) i ≡ times
          (order M f) scale (matrix M f i x)

    pub in_factor : (x : ℕ) (c : ℕ → ℕ → ℕ) → AreCoordinates M d x c → AreCoordinatesIn x (c f)
    in_factor x c a = record {
      codes = λ i b. a.codes f i l b;
      scale = a.scale f;
      scalar =
          record { code = a.scale_code f l; nonzero = a.scale_nonzero f l };
      combined = λ i b. a.combined f i l b;
    }

    module _ (x : ℕ) (c v : ℕ → ℕ) (a : AreCoordinatesIn x c) (b : AreCoordinatesIn x v) where
      rows : (i : ℕ) → i < M.rank →
          combination (order M f) M.rank (λ i l. matrix M f i (d.label l))
          (λ i. times (order M f) b.scale (times (order M f) (d.scalar f i) (c i))) i
          ≡ combination (order M f) M.rank (λ i l. matrix M f i (d.label l)) (λ i. times (order M f) a.scale (times (order M f) (d.scalar f i) (v i))) i
      rows i m =
          combination-scaled (order M f) F M.rank (λ i l. matrix M f i (d.label l)) b.scale (λ i. times (order M f) (d.scalar f i) (c i)) i
          ∙ ap (times (order M f) b.scale) (a.combined i m)
          ∙ times_turn (order M f) F b.scale a.scale (matrix M f i x)
          ∙ sym (combination-scaled (order M f) F M.rank (λ i l. matrix M f i (d.label l)) a.scale (λ i. times (order M f) (d.scalar f i) (v i)) i
          ∙ ap (times (order M f) a.scale) (b.combined i m))

      -- with each other's scale
      proportional : (i : ℕ) → i < M.rank →
          times (order M f) b.scale (times (order M f) (d.scalar f i) (c i)) ≡ times (order M f) a.scale (times (order M f) (d.scalar f i) (v i))
      proportional =
          same_coefficients (order M f) F M.rank M.rank (λ i l. matrix M f i (d.label l)) (h.independent f l)
          (λ i. times (order M f) b.scale (times (order M f) (d.scalar f i) (c i))) (λ i. times (order M f) a.scale (times (order M f) (d.scalar f i) (v i)))
          (λ j _. F_below b.scale (times (order M f) (d.scalar f j) (c j))) (λ j _. F_below a.scale (times (order M f) (d.scalar f j) (v j))) rows
        where
          F_below : (x y : ℕ) → times (order M f) x y < order M f
          F_below x y = let F' = field M shaped f l in F'.times_below x y

      -- where one is 0 the other is
      pub zero_in_both_in : (i : ℕ) → i < M.rank → c i ≡ 0 → v i ≡ 0
      zero_in_both_in i m e =
          zero_factor (order M f) F (d.scalar f i) (v i) (row_scalars f i l m) (b.codes i m)
          (zero_factor (order M f) F a.scale (times (order M f) (d.scalar f i) (v i)) a.scalar (let F' = field M shaped f l in F'.times_below _ _)
          (sym (proportional i m) ∙ ap (λ y. times (order M f) b.scale (times (order M f) (d.scalar f i) y)) e
          ∙ ap (times (order M f) b.scale) (times_zero (order M f) F (d.scalar f i)) ∙ times_zero (order M f) F b.scale))

  pub zero_in_both : (x : ℕ) (c v : ℕ → ℕ → ℕ) → AreCoordinates M d x c → AreCoordinates M d x v → (f : ℕ) → f < count M → (i : ℕ) →
      i < M.rank → c f i ≡ 0 → v f i ≡ 0
  zero_in_both x c v a b f l i m e = zero_in_both_in f l x (c f) (v f) (in_factor f l x c a) (in_factor f l x v b) i m e

  -- the coordinates of an element of the basis
  pub own_coordinates : (j : ℕ) → j < M.rank → AreCoordinates M d (d.label j) (λ f i. unit i j)
  own_coordinates j b = record {
    codes = λ f i l m. unit_code (order M f) (field M shaped f l) i j;
    scale = λ f. d.scalar f j;
    scale_code = λ f l. h.scalar_code f j l b;
    scale_nonzero = λ f l. h.scalar_nonzero f j l b;
    combined = λ f i l m. (let F = field M shaped f l in
        combination-same (order M f) F M.rank (λ i l. matrix M f i (d.label l)) (λ k. times (order M f) (d.scalar f k) (unit k j))
        (λ k. times (order M f) (d.scalar f j) (unit k j)) i
        (λ k o. elim (cases_eq k j) [
          | inl e ↦ ap (λ y. times (order M f) (d.scalar f y) (unit k j)) e
          | inr ne ↦ ap (λ e. times (order M f) (d.scalar f k) (cond e 1 0)) (other_number k j ne) ∙ times_zero (order M f) F (d.scalar f k)
              ∙ sym (ap (λ e. times (order M f) (d.scalar f j) (cond e 1 0)) (other_number k j ne) ∙ times_zero (order M f) F (d.scalar f j))
        ])
        ∙ combination-scaled (order M f) F M.rank (λ i l. matrix M f i (d.label l)) (d.scalar f j) (λ k. unit k j) i
        ∙ ap (times (order M f) (d.scalar f j)) (times_unit_column (order M f) F M.rank (λ i l. matrix M f i (d.label l)) i j b
        (shaped.codes f i (d.label j) l m (let w = h.labels in w.below j (let o = h.room in omega arith)))));
  }

  -- an element of the basis has no other coordinate than its own
  pub own_nonzero : (x : ℕ) → x < size M → (c : ℕ → ℕ → ℕ) → AreCoordinates M d x c → d.place x < M.rank → (f : ℕ) → f < count M → c f (d.place x) ≢ 0
  own_nonzero x b c a o f l e =
      let w = h.labels in
      let z : unit (d.place x) (d.place x) ≡ 0 = zero_in_both x c (λ f i. unit i (d.place x)) a
      (subst (λ y. AreCoordinates M d y (λ f i. unit i (d.place x))) (w.back x b) (own_coordinates (d.place x) o)) f l (d.place x) o e in
      let one : unit (d.place x) (d.place x) ≡ 1 = ap (λ e. cond e 1 0) (same_number (d.place x)) in
      let n : zero ≡ 1 = sym z ∙ one in absurd (omega arith)

  pub others_zero : (x : ℕ) → x < size M → (c : ℕ → ℕ → ℕ) → AreCoordinates M d x c → d.place x < M.rank → (f i : ℕ) → f < count M →
      i < M.rank → i ≢ d.place x → c f i ≡ 0
  others_zero x b c a o f i l m ne =
      let w = h.labels in
      zero_in_both x (λ f i. unit i (d.place x)) c
      (subst (λ y. AreCoordinates M d y (λ f i. unit i (d.place x))) (w.back x b) (own_coordinates (d.place x) o)) a f l i m
      (ap (λ e. cond e 1 0) (other_number i (d.place x) ne))
