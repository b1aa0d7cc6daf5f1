-- A new column extends an independent set to a basis where it doesn't lie on the plane of the set.
use Rattle.std.proofs.Common.{◌≡◌, ◌≢◌, ◌↔◌, ℕ, suc, ◌+◌, ◌^◌, ◌<◌, ◌≤◌, refl, sym, ◌∙◌, ap, subst, arith, cond, List, Bool, true, false, ◌||◌, inl, inr, [], ◌∷◌, ◌++◌, ◌*◌, ◌%◌, length, length-append, slice_index, slice_index_or, bit_or, w16}
use Rattle.std.specs.Bool.{◌==◌}
use Rattle.std.specs.Int.{bit_at}
use Rattle.std.specs.List.{All}
use Rattle.std.specs.List.Sorted.{IsPermutation}
use Rattle.std.proofs.lemmas.List.Sorted.{All-permutation, Contains-permutation}
use Rattle.std.proofs.lemmas.Bool.{cases_lt, cases_eq, cases_Bool}
use Rattle.std.proofs.lemmas.List.Elements.{All-contains, All-push, Contains-push, Contains-append_left}
use Rattle.std.proofs.lemmas.List.{get_or_read}
use Rattle.std.proofs.lemmas.Nat.Bits.{bit_at_set_same, bit_at_set_other}
use Rattle.arrayvec.specs.ArrayVec.{ArrayVec}
use mathlib.Core.Bool.{true≢false}
use Rattle.matroid_theory.specs.Field.{plus, times, IsField}
use Rattle.matroid_theory.specs.Matrix.{Matrix, sum_below, combination, unit, size_below, AreCoefficients, IsIndependent}
use Rattle.matroid_theory.specs.Rep.{Rep, size, count, order, matrix, column_of, IsShaped, KeepsLimits, IsProductColumn}
use Rattle.matroid_theory.specs.Matroid.{members, IsIndependentIn, Agrees}
use Rattle.matroid_theory.specs.Level.{IsNormalised, followed_by}
use Rattle.matroid_laws.proofs.Agreement.{one_more}
use Rattle.matrix_lemmas.proofs.Bases.{with_element, with_own, with_other, size_with, smaller_independent, augmentation, set_bound}
use Rattle.matrix_lemmas.proofs.Dimension.{unit_code}
use Rattle.matrix_lemmas.proofs.FieldLaws.{field_laws}
use Rattle.matroid_laws.proofs.Followed.{matrix_before, matrix_last, size_followed, shaped_pushed}
use Rattle.matrix_lemmas.proofs.Frobenius.{times_nonzero}
use Rattle.matrix_lemmas.proofs.Invertible.{combination_zero}
use Rattle.matrix_lemmas.proofs.Masks.{size-same, IsIndependent-same}
use Rattle.matrix_lemmas.proofs.Picked.{size_more}
use Rattle.matrix_lemmas.proofs.Ranks.{without_last, with_last, last_before, combination_last, last_coefficients, IsIndependent-codes, but, but_own, but_other}
use Rattle.matrix_lemmas.proofs.Sums.{zero_below, sum_same, plus_zero_right, sum_one, sum_below-code, combination-product, times_zero, zero_times, same_number, other_number}
use Rattle.elimination.specs.Columns.{column, IsColumn, AreColumns}
use Rattle.elimination.proofs.Lists.{column_before, column_last}
use Rattle.extension.specs.declared.planes.Plane.{Plane}
use Rattle.extension.specs.Planes.{product, IsNormal, LiesOnIn, LiesOn, IsPlaneSet, IsWithin, IsPlane, IsCovered, ArePlanes, IsAlikeAt}
use Rattle.extension.specs.Admissible.{IsAdmissible}
use Rattle.extension.specs.Steps.{AgreeOnRows, IsAlikeWith, IsRefused, with_new}
use Rattle.product_rep.proofs.MoveLemmas.{column-entry}
use Rattle.extension.proofs.Parallel.{column_is}
use Rattle.extension.proofs.Followers.{in_whole, size_new, alike_of_agrees, followed_shaped}
use Rattle.extension.proofs.Nexts.{row_before, normalised_length}
use Rattle.std.proofs.Math.Nat.{le_refl}
use Rattle.std.proofs.lemmas.Grind.{same_number_lists}

module _ (q : ℕ) (F : IsField q) (r : ℕ) (row : List ℕ) where
  -- the products with the columns of a combination that is zero
  product_combination : (n : ℕ) (A : Matrix) (a : ℕ → ℕ) → ((i : ℕ) → i < r → combination q n A a i ≡ 0) →
      sum_below q n (λ j. times q (product q r row A j) (a j)) ≡ 0
  product_combination n A a z =
      combination-product q F n r (λ _ i. slice_index row i) A a 0 ∙ combination_zero q F r (λ _ i. slice_index row i) (combination q n A a) 0 z

  -- of the columns of a combination that is zero, the only one that isn't 0 on the row has the coefficient 0
  only_one : (n : ℕ) (A : Matrix) (S : ℕ → Bool) (a : ℕ → ℕ) (e : ℕ) → e < n → AreCoefficients q n S a →
      ((i : ℕ) → i < r → combination q n A a i ≡ 0) → ((j : ℕ) → j < n → j ≢ e → S j ≡ true → product q r row A j ≡ 0) →
      product q r row A e ≢ 0 → a e ≡ 0
  only_one n A S a e l c z others own = elim (cases_eq (a e) 0) [
    | inl t ↦ t
    | inr ne ↦ absurd (times_nonzero q F (product q r row A e) (a e) (sum_below-code q F r _) (c.codes e l) own ne
        (sym (sum_one q F n e (λ j. times q (product q r row A j) (a j)) l (F.times_below (product q r row A e) (a e)) zero)
        ∙ product_combination n A a z))
  ]
    where
      zero : (j : ℕ) → j < n → j ≢ e → times q (product q r row A j) (a j) ≡ 0
      zero j m ne = elim (cases_Bool (S j)) [
        | inl t ↦ ap (λ x. times q x (a j)) (others j m ne t) ∙ zero_times q F (a j)
        | inr f ↦ ap (times q (product q r row A j)) (c.outside j m f) ∙ times_zero q F (product q r row A j)
      ]

  -- a set stays independent with a column that isn't 0 on a row on which its other columns are 0
  extended : (n : ℕ) (A : Matrix) (S : ℕ → Bool) (e : ℕ) → e < n → IsIndependent q r n A (but e S) →
      ((j : ℕ) → j < n → j ≢ e → S j ≡ true → product q r row A j ≡ 0) → product q r row A e ≢ 0 → IsIndependent q r n A S
  extended n A S e l h others own = record {
    only_zero = λ a c z. h.only_zero a (record {
      codes = c.codes;
      outside = λ j m f. elim (cases_eq j e) [
        | inl i ↦ ap a i ∙ only_one n A S a e l c z others own
        | inr ne ↦ c.outside j m (sym (but_other e S j ne) ∙ f)
      ];
    }) z;
  }

  -- the independent columns on which a row that isn't 0 is 0 are fewer than the rows
  bounded : (n : ℕ) (A : Matrix) → ((i j : ℕ) → i < r → j < n → A i j < q) → (S : ℕ → Bool) → (place : ℕ) → place < r →
      slice_index row place < q → slice_index row place ≢ 0 → ((j : ℕ) → j < n → S j ≡ true → product q r row A j ≡ 0) →
      IsIndependent q r n A S → size_below n S < r
  bounded n A codes S place l code nonzero zero h =
      let b : size_below (suc n) whole ≤ r = set_bound q F r (suc n) longer longer_codes whole
      (extended (suc n) longer whole n (omega arith) old (λ j m ne t. before j m ne t) (λ e. nonzero (sym last ∙ e))) in
      let s : size_below (suc n) whole ≡ suc (size_below n whole) = size_more n whole (with_own n S) in
      let t : size_below n whole ≡ size_below n S = size-same n whole S (λ j m. with_other n S j (λ e. absurd (omega arith))) in
      omega arith
    where
      whole : ℕ → Bool
      whole = with_element n S

      longer : Matrix
      longer i j = cond (j == n) (unit i place) (A i j)

      longer_last : (i : ℕ) → longer i n ≡ unit i place
      longer_last i = ap (λ b. cond b (unit i place) (A i n)) (same_number n)

      longer_before : (i j : ℕ) → j ≢ n → longer i j ≡ A i j
      longer_before i j ne = ap (λ b. cond b (unit i place) (A i j)) (other_number j n ne)

      longer_codes : (i j : ℕ) → i < r → j < suc n → longer i j < q
      longer_codes i j m o = elim (cases_eq j n) [
        | inl e ↦ subst (λ (x : ℕ). longer i x < q) (sym e) (subst (λ (x : ℕ). x < q) (sym (longer_last i)) (unit_code q F i place))
        | inr ne ↦ subst (λ (x : ℕ). x < q) (sym (longer_before i j ne)) (codes i j m (omega arith))
      ]

      old : IsIndependent q r (suc n) longer (but n whole)
      old = without_last q F r n longer (but n whole) (but_own n whole)
          (IsIndependent-codes q r n A longer (but n whole) (λ i j _ m. sym (longer_before i j (λ e. absurd (omega arith))))
          (IsIndependent-same q r n A S (but n whole)
          (λ j m. let ne : j ≢ n = omega arith in sym (but_other n whole j ne ∙ with_other n S j ne)) h))

      product_before : (j : ℕ) → j ≢ n → product q r row longer j ≡ product q r row A j
      product_before j ne = ap (λ (f : ℕ → ℕ). sum_below q r f) (λ t i. times q (slice_index row i) (longer_before i j ne t))

      before : (j : ℕ) → j < suc n → j ≢ n → whole j ≡ true → product q r row longer j ≡ 0
      before j m ne t = product_before j ne ∙ zero j (omega arith) (sym (with_other n S j ne) ∙ t)

      last : product q r row longer n ≡ slice_index row place
      last = sum_one q F r place (λ i. times q (slice_index row i) (longer i n)) l (F.times_below (slice_index row place) (longer place n))
          (λ i m ne. ap (times q (slice_index row i)) (longer_last i ∙ ap (λ b. cond b 1 0) (other_number i place ne)) ∙ times_zero q F (slice_index row i))
          ∙ ap (times q (slice_index row place)) (longer_last place ∙ ap (λ b. cond b 1 0) (same_number place))
          ∙ F.times_comm (slice_index row place) 1 ∙ F.times_one (slice_index row place) code

-- where the factors agree, a set of one column fewer than the rank is independent in each factor or in none
alike_before : (M : Rep) → IsShaped M → Agrees M → (f g : ℕ) → f < count M → g < count M → (S : ℕ → Bool) → size_below (size M) S + 1 ≡ M.rank →
    IsIndependentIn M f S → IsIndependentIn M g S
alike_before M s a f g l m S full d =
    let (B, b) = a.some f l in
    let w : size_below (size M) B ≡ M.rank = b.full in
    let (e, o, t, n, i) = augmentation (order M f) (field_laws (order M f) (s.orders f l)) M.rank (size M) (matrix M f)
    (λ i j x y. s.codes f i j l x y) S B d b.independent (omega arith) in
    let c = a.same f g l m (with_element e S) (record { full = size_with e (size M) S o n ∙ full; independent = i }) in
    smaller_independent (order M g) M.rank (size M) (matrix M g) S (with_element e S) (λ j _ z. smaller e S j z) c.independent
  where
    right : (a b : Bool) → (a || b) ≡ false → b ≡ false
    right true b e = absurd (true≢false e)
    right false b e = e

    smaller : (e : ℕ) (S : ℕ → Bool) (j : ℕ) → with_element e S j ≡ false → S j ≡ false
    smaller e S j z = right (j == e) (S j) z

module _ (M : Rep) (v : List ℕ) (r : KeepsLimits M) (agrees : Agrees M) (c : IsProductColumn M.factors M.rank v) where
  abbrev P : Rep
  P = followed_by M v

  shaped : IsShaped P
  shaped = shaped_pushed M v r.shaped c

  field : (f : ℕ) → f < count M → IsField (order M f)
  field f l = let s = r.shaped in field_laws (order M f) (s.orders f l)

  longer : size P ≡ suc (size M)
  longer = size_followed M v

  -- a set that is independent with the new column is so without it
  without_new : (f : ℕ) → f < count M → (S : ℕ → Bool) → IsIndependentIn P f (with_new M S) → IsIndependentIn M f S
  without_new f l S d =
      IsIndependent-codes (order M f) M.rank (size M) (matrix P f) (matrix M f) S (λ i j _ m. matrix_before M v f i j m) (record {
        only_zero = λ a k z j m.
            sym (last_before (order M f) (field f l) (size M) a 0 j m)
            ∙ whole.only_zero (with_last (order M f) (field f l) (size M) a 0)
            (last_coefficients (order M f) (field f l) (size M) (with_new M S) a 0 (record {
              codes = k.codes;
              outside = λ j m z. k.outside j m (sym (with_other (size M) S j (λ e. absurd (omega arith))) ∙ z);
            }) (zero_below (order M f) (field f l)) (λ _. refl))
            (λ i o. combination_last (order M f) (field f l) (size M) (matrix P f) a 0 i
            ∙ ap (plus (order M f) (combination (order M f) (size M) (matrix P f) a i)) (times_zero (order M f) (field f l) (matrix P f i (size M)))
            ∙ plus_zero_right (order M f) (field f l) (combination (order M f) (size M) (matrix P f) a i) (sum_below-code (order M f) (field f l) (size M) _)
            ∙ z i o) j (omega arith);
      })
    where
      whole : IsIndependent (order M f) M.rank (suc (size M)) (matrix P f) (with_new M S)
      whole = subst (λ n. IsIndependent (order M f) M.rank n (matrix P f) (with_new M S)) longer d

  module _ (plane : Plane) (p : IsPlane M plane) (f : ℕ) (l : f < count M) (X : ℕ) (x : IsPlaneSet M X) (w : IsWithin M X plane) where
    abbrev row : List ℕ
    row = column plane.normals.items f

    on_row : (j : ℕ) → j < size P → j ≢ size M → with_new M (members X) j ≡ true → product (order M f) M.rank row (matrix P f) j ≡ 0
    on_row j m ne t =
        let b : j < size M = (let k : size P ≡ suc (size M) = longer in omega arith) in
        ap (λ (g : ℕ → ℕ). sum_below (order M f) M.rank g) (λ t i. times (order M f) (slice_index row i) (matrix_before M v f i j b t))
        ∙ p.lies_on j b (w j b (sym (with_other (size M) (members X) j ne) ∙ t)) f l

    off_plane : IsIndependentIn P f (with_new M (members X)) → ¬ (LiesOnIn P plane.normals.items (size M) f)
    off_plane d z =
        let n : IsNormal (order M f) M.rank row = p.normals f l in
        let k : IsColumn (order M f) M.rank row = n.codes in
        let b : size_below (size P) (with_new M (members X)) < M.rank = bounded (order M f) (field f l) M.rank row (size P) (matrix P f)
        (λ i j a b. shaped.codes f i j l a b) (with_new M (members X)) n.place n.place_below (k.below n.place n.place_below) n.nonzero
        (λ j m t. elim (cases_eq j (size M)) [
          | inl e ↦ ap (product (order M f) M.rank row (matrix P f)) e ∙ z
          | inr ne ↦ on_row j m ne t
        ]) d in
        let s : size_below (size P) (with_new M (members X)) ≡ size_below (size M) (members X) + 1 = size_new M v (members X) in
        let e : size_below (size M) (members X) + 1 ≡ M.rank = x.full in
        omega arith

    extends_plane : IsIndependentIn M f (members X) → ¬ (LiesOnIn P plane.normals.items (size M) f) → IsIndependentIn P f (with_new M (members X))
    extends_plane d ne = extended (order M f) (field f l) M.rank row (size P) (matrix P f) (with_new M (members X)) (size M)
        (let k : size P ≡ suc (size M) = longer in omega arith)
        (in_whole M v r.shaped f l (but (size M) (with_new M (members X))) (but_own (size M) (with_new M (members X)))
        (IsIndependent-same (order M f) M.rank (size M) (matrix M f) (members X) (but (size M) (with_new M (members X)))
        (λ j m. let ne : j ≢ size M = omega arith in
        sym (but_other (size M) (with_new M (members X)) j ne ∙ with_other (size M) (members X) j ne)) d))
        on_row ne

  -- ---- what the planes tell

  off_same : (plane : Plane) → (f g : ℕ) → IsAlikeAt M v plane → f < count M → g < count M →
      ¬ (LiesOnIn P plane.normals.items (size M) f) → ¬ (LiesOnIn P plane.normals.items (size M) g)
  off_same plane f g h l m n z = n ((h f l).0 ((h g m).1 z))

  covered_same : (plane : Plane) → IsPlane M plane → IsAlikeAt M v plane → (f g : ℕ) → f < count M → g < count M → (X : ℕ) → IsPlaneSet M X →
      IsWithin M X plane → IsIndependentIn P f (with_new M (members X)) → IsIndependentIn P g (with_new M (members X))
  covered_same plane p h f g l m X x w d =
      extends_plane plane p g m X x w (alike_before M r.shaped agrees f g l m (members X) x.full (without_new f l (members X) d))
      (off_same plane f g h l m (off_plane plane p f l X x w d))

  -- where the new column lies on each plane in every factor or in none, the sets that they cover are alike with it
  pub alike_covered : (planes : List Plane) → (from : ℕ) → ArePlanes M planes from → All (IsAlikeAt M v) planes → (X f : ℕ) → X < from →
      X < 2 ^ size M → size_below (size M) (members X) + 1 ≡ M.rank → f < count M →
      (IsIndependentIn P 0 (with_new M (members X)) ↔ IsIndependentIn P f (with_new M (members X)))
  alike_covered planes from a h X f b o full l = (step 0 f some l, step f 0 l some)
    where
      some : 0 < count M
      some = omega arith

      is_set : IsPlaneSet M X
      is_set = record { below = o; full = full }

      step : (f g : ℕ) → f < count M → g < count M → IsIndependentIn P f (with_new M (members X)) → IsIndependentIn P g (with_new M (members X))
      step f g l m d = elim (a.covered X b is_set) [
        | inl n ↦ absurd (n (alike_before M r.shaped agrees f 0 l some (members X) full (without_new f l (members X) d)))
        | inr w ↦ covered_same w.0 (All-contains (IsPlane M) planes w.0 a.each w.1) (All-contains (IsAlikeAt M v) planes w.0 h w.1) f g l m X is_set w.2 d
      ]

  -- and where all sets are alike, it does
  pub alike_on_plane : (plane : Plane) → IsPlane M plane → IsAlikeWith M v → IsAlikeAt M v plane
  alike_on_plane plane p h f l = (
    (λ z. on 0 f some l z (h p.set f s.below s.full l).1),
    (λ z. on f 0 l some z (h p.set f s.below s.full l).0),
  )
    where
      some : 0 < count M
      some = omega arith

      s : IsPlaneSet M p.set
      s = p.is_set

      -- it is decided whether a column lies on a plane
      on : (f g : ℕ) → f < count M → g < count M → LiesOnIn P plane.normals.items (size M) f →
          (IsIndependentIn P g (with_new M (members p.set)) → IsIndependentIn P f (with_new M (members p.set))) → LiesOnIn P plane.normals.items (size M) g
      on f g l m z back = elim (cases_eq (product (order M g) M.rank (column plane.normals.items g) (matrix P g) (size M)) 0) [
        | inl e ↦ e
        | inr ne ↦ absurd (off_plane plane p f l p.set s p.within (back (extends_plane plane p g m p.set s p.within
            (alike_before M r.shaped agrees 0 g some m (members p.set) s.full p.independent) ne)) z)
      ]

-- ---- columns with the same first rows

module _ (M : Rep) (r : KeepsLimits M) (agrees : Agrees M) (v : List ℕ) where
  -- on a plane that is 0 after these rows, they lie alike
  plane_prefix : (w : List ℕ) (plane : Plane) → IsPlane M plane → AgreeOnRows (count M) plane.rows v w → (f : ℕ) → f < count M →
      product (order M f) M.rank (column plane.normals.items f) (matrix (followed_by M w) f) (size M)
      ≡ product (order M f) M.rank (column plane.normals.items f) (matrix (followed_by M v) f) (size M)
  plane_prefix w plane p same f l = sum_same q F M.rank
      (λ i. times q (slice_index row i) (matrix (followed_by M w) f i (size M))) (λ i. times q (slice_index row i) (matrix (followed_by M v) f i (size M)))
      (λ i m. elim (cases_lt i plane.rows) [
        | inl b ↦ ap (times q (slice_index row i)) (matrix_last M w f i ∙ sym (same (i * count M + f) (row_before i plane.rows (count M) f b l))
            ∙ sym (matrix_last M v f i))
        | inr g ↦ zero i g m (matrix (followed_by M w) f i (size M)) ∙ sym (zero i g m (matrix (followed_by M v) f i (size M)))
      ])
    where
      q : ℕ
      q = order M f

      F : IsField q
      F = let s = r.shaped in field_laws q (s.orders f l)

      row : List ℕ
      row = column plane.normals.items f

      zero : (i : ℕ) → plane.rows ≤ i → i < M.rank → (x : ℕ) → times q (slice_index row i) x ≡ 0
      zero i g m x = ap (λ y. times q y x) (p.zeros f i l g m) ∙ zero_times q F x

  -- so all are refused with one that lies on the plane in some factors and not in others
  pub plane_refused : (plane : Plane) → IsPlane M plane → ¬ (IsAlikeAt M v plane) → IsRefused M v plane.rows
  plane_refused plane p unlike = record {
    most = p.rows_most;
    none = λ w a same.
        let alike : IsAlikeAt M w plane = alike_on_plane M w r agrees (let n = a.normalised in n.is_column) plane p
        (alike_of_agrees M w (followed_shaped M w r a.normalised) (let fs = r.fields in fs.some) a.agrees) in
        let lies = λ (f : ℕ) (l : f < count M). plane_prefix w plane p same f l in
        unlike (λ f l. (
          λ z. sym (lies f l) ∙ (alike f l).0 (lies 0 (let fs = r.fields in fs.some) ∙ z),
          λ z. sym (lies 0 (let fs = r.fields in fs.some)) ∙ (alike f l).1 (lies f l ∙ z),
        ));
  }

-- a column that isn't admissible is the only one with all its rows
pub whole_refused : (M : Rep) (v : List ℕ) → KeepsLimits M → IsNormalised M.factors M.rank v → ¬ (IsAdmissible M v) → IsRefused M v M.rank
whole_refused M v r n refused = record {
  most = le_refl M.rank;
  none = λ w a same.
      let e : length v ≡ M.rank * count M = normalised_length M.factors r.fields M.rank v n in
      let l : length v ≡ length w = e ∙ sym (normalised_length M.factors r.fields M.rank w a.normalised) in
      refused (subst (λ (x : List ℕ). IsAdmissible M x) (sym (same_number_lists v w l (λ p b. same p (omega arith)))) a);
}

-- ---- a row and a column, in lists

pub last_below : (M : Rep) (v : List ℕ) → size M < size (followed_by M v)
last_below M v = let k : size (followed_by M v) ≡ suc (size M) = size_followed M v in omega arith

-- a column that is read in a list
pub read_column : (xs ys : List (ArrayVec ℕ)) → ys ≡ xs → (i : ℕ) → i < length xs → (e : ArrayVec ℕ) → e ≡ slice_index_or ys i e →
    (w : List ℕ) → w ≡ e.items → w ≡ column xs i
read_column xs ys s i l e h w d =
    d ∙ ap (λ (v : ArrayVec ℕ). v.items)
    (get_or_read xs i e l (h ∙ ap (λ (xs : List (ArrayVec ℕ)). slice_index_or xs i e) s) (record { items = [] }))

-- a row of coefficients and a column whose products can be added, and their sum
pub record CanMultiply (q : ℕ) (row part : List ℕ) (sum : ℕ) : Type 0 where
  pub rows : length part ≤ length row
  pub row_codes : (k : ℕ) → k < length part → slice_index row k < q
  pub part_codes : (k : ℕ) → k < length part → slice_index part k < q
  pub sum_is : sum_below q (length part) (λ k. times q (slice_index row k) (slice_index part k)) ≡ sum

pub multiplies : (M : Rep) → KeepsLimits M → (f j : ℕ) → f < count M → j < size M → (q : ℕ) → q ≡ order M f → (part : List ℕ) → part ≡ column_of M f j →
    (row : List ℕ) → IsColumn (order M f) M.rank row → (w : List ℕ) → w ≡ row → CanMultiply q w part (product (order M f) M.rank row (matrix M f) j)
multiplies M r f j l m q d part p row n w e = record {
  rows = (let a : length part ≡ M.rank = part_is.rows in let b : length w ≡ M.rank = row_is.rows in omega arith);
  row_codes = λ k o. row_is.below k (let a : length part ≡ M.rank = part_is.rows in omega arith);
  part_codes = λ k o. part_is.below k (let a : length part ≡ M.rank = part_is.rows in omega arith);
  sum_is =
      (λ t. sum_below (d t) (part_is.rows t) (λ k. times (d t) (slice_index (e t) k) (slice_index part k)))
      ∙ sum_same (order M f) (let s = r.shaped in field_laws (order M f) (s.orders f l)) M.rank
      (λ k. times (order M f) (slice_index row k) (slice_index part k)) (λ k. times (order M f) (slice_index row k) (matrix M f k j))
      (λ k o. ap (times (order M f) (slice_index row k)) (column-entry M f j k part p o));
}
  where
    part_is : IsColumn q M.rank part
    part_is = column_is M r f j l m q d part p

    row_is : IsColumn q M.rank w
    row_is = subst (λ (w : List ℕ). IsColumn q M.rank w) (sym e) (subst (λ (q : ℕ). IsColumn q M.rank row) (sym d) n)

-- ---- lists that grow

-- a number more in a mask
pub members_with : (set new j : ℕ) → new < 16 → members (bit_or set (1 * 2 ^ new % 65536)) j ≡ with_element new (members set) j
members_with set new j l = elim (cases_eq j new) [
  | inl e ↦ ap (λ x. bit_at (bit_or set (1 * 2 ^ new % 65536)) x == 1) e ∙ ap (λ x. x == 1) (bit_at_set_same w16 set new l)
      ∙ sym (ap (with_element new (members set)) e ∙ with_own new (members set))
  | inr n ↦ ap (λ x. x == 1) (bit_at_set_other w16 set new l j n) ∙ sym (with_other new (members set) j n)
]

pub more_elements : (M : Rep) (normals : List (ArrayVec ℕ)) (elements new : ℕ) → new < 16 →
    ((j : ℕ) → members elements j ≡ true → (j < new) × LiesOn M normals j) → LiesOn M normals new →
    (j : ℕ) → members (bit_or elements (1 * 2 ^ new % 65536)) j ≡ true → (j < new + 1) × LiesOn M normals j
more_elements M normals elements new l old own j t = elim (cases_eq j new) [
  | inl e ↦ (omega arith, subst (λ (j : ℕ). LiesOn M normals j) (sym e) own)
  | inr ne ↦ (let w = old j (sym (members_with elements new j l ∙ with_other new (members elements) j ne) ∙ t) in
      ((let o : j < new = w.0 in omega arith), w.1))
]

-- a column more, of which something holds as of those before it
pub columns_more : (P : ℕ → List ℕ → Type 0) (n : ℕ) (xs ys : List (ArrayVec ℕ)) (y : ArrayVec ℕ) → ys ≡ xs ++ y ∷ [] → length xs ≡ n →
    ((f : ℕ) → f < n → P f (column xs f)) → P n y.items → (f : ℕ) → f < n + 1 → P f (column ys f)
columns_more P n xs ys y e k h own f l = subst (λ (ys : List (ArrayVec ℕ)). P f (column ys f)) (sym e)
    (elim (cases_lt f n) [
      | inl b ↦ subst (λ (w : List ℕ). P f w) (sym (column_before xs y f (let o : f < length xs = omega arith in o))) (h f b)
      | inr g ↦ (let i : length xs ≡ f = omega arith in
          subst (λ (f : ℕ). P f (column (xs ++ y ∷ []) f)) i
          (subst (λ (w : List ℕ). P (length xs) w) (sym (column_last xs y)) (subst (λ (n : ℕ). P n y.items) (sym k) own)))
    ])

pub columns_pushed : (q r : ℕ) (xs ys : List (ArrayVec ℕ)) (y : ArrayVec ℕ) → ys ≡ xs ++ y ∷ [] → AreColumns q r xs → IsColumn q r y.items →
    AreColumns q r ys
columns_pushed q r xs ys y e h n j l = columns_more (λ _ w. IsColumn q r w) (length xs) xs ys y e refl h n j
    (let m : length ys ≡ length xs + length (y ∷ []) = ap (λ (zs : List (ArrayVec ℕ)). length zs) e ∙ length-append xs (y ∷ []) in omega arith)

-- a set more that is covered, and one that a plane more covers
pub planes_kept : (M : Rep) (planes : List Plane) (n : ℕ) → ArePlanes M planes n → (IsPlaneSet M n → IsCovered M planes n) → ArePlanes M planes (n + 1)
planes_kept M planes n h own = record {
  each = h.each;
  covered = one_more n (λ X. IsPlaneSet M X → IsCovered M planes X) h.covered own;
}

pub planes_pushed : (M : Rep) (planes : List Plane) (n : ℕ) (plane : Plane) → ArePlanes M planes n → IsPlane M plane → IsWithin M n plane →
    ArePlanes M (planes ++ plane ∷ []) (n + 1)
planes_pushed M planes n plane h p w = record {
  each = All-push (IsPlane M) planes plane h.each p;
  covered = one_more n (λ X. IsPlaneSet M X → IsCovered M (planes ++ plane ∷ []) X)
      (λ X l s. elim (h.covered X l s) [
        | inl d ↦ inl d
        | inr v ↦ inr (v.0, Contains-append_left planes (plane ∷ []) v.0 v.1, v.2)
      ])
      (λ _. inr (plane, Contains-push planes plane, w));
}

-- planes in another order
pub planes_moved : (M : Rep) (planes moved : List Plane) (n : ℕ) → ArePlanes M planes n → IsPermutation planes moved → ArePlanes M moved n
planes_moved M planes moved n h s = record {
  each = All-permutation (IsPlane M) planes moved s h.each;
  covered = λ X l x. elim (h.covered X l x) [ inl d ↦ inl d | inr v ↦ inr (v.0, Contains-permutation planes moved v.0 s v.1, v.2) ];
}
