-- What a move that follows a trail makes of the elements.
use Rattle.std.proofs.Common.{◌≡◌, ◌≢◌, inl, inr, ℕ, zero, ◌<◌, ◌≤◌, sym, ◌∙◌, ap, subst, arith, cond, length}
use Rattle.std.proofs.lemmas.Bool.{cases_eq, cases_lt}
use Rattle.matroid_theory.specs.Field.{IsField, times, inverse, raised}
use Rattle.matroid_theory.specs.declared.Mode.TheVariants.{Linear}
use Rattle.matroid_theory.specs.Rep.{Rep, Shape, shape, count, size, order, matrix, IsShaped, IsStandard}
use Rattle.matroid_theory.specs.Move.{Move, IsMove, TakesTo}
use Rattle.matrix_lemmas.proofs.Sums.{same_number, sum_same, times_zero}
use Rattle.matroid_laws.proofs.Standard.{standard_coordinates, standard_by}
use Rattle.matrix_lemmas.proofs.Bases.{search_below}
use Rattle.form_trails.specs.Trail.{Trail, AreCoordinates, AreZeroBefore, IsOrdered, row_factor}
use Rattle.form_trails.proofs.Scalars.{IsScalar, one_scalar, inverse_scalar, zero_factor, undone_back}
use Rattle.form_trails.proofs.Entries.{field, column_factor, reached_entry}
use Rattle.form_trails.proofs.Coordinates.{row_scalars, zero_in_both_in, AreCoordinatesIn, in_factor}

module _ (M : Rep) (shaped : IsShaped M) (some : 0 < count M) (d : Trail) (h : IsOrdered M d) (k : ℕ) (low : k ≤ M.rank)
    (m : Move) (N : Rep) (standard : IsStandard N) (valid : IsMove Linear (shape M) m) (takes : TakesTo M m N)
    (rows : (i : ℕ) → k ≤ i → i < M.rank → m.label i ≡ d.label i) where
  -- an element with coordinates from row k on isn't taken to a row before k
  pub not_before : (x : ℕ) → x < size M → (c : ℕ → ℕ → ℕ) → AreCoordinates M d x c → AreZeroBefore M k c → k ≤ m.place x
  not_before x b c a z = elim (cases_lt (m.place x) k) [
    | inr g ↦ g
    | inl l ↦ (let w = valid.labels in
        let p : m.place x < M.rank = omega arith in
        let inside : m.place x < size M = w.inverse_below x b in
        let a' : AreCoordinates M d (m.label (m.place x)) c = subst (λ y. AreCoordinates M d y c) (sym (w.back x b)) a in
        let F = field M shaped 0 some in
        let none : matrix N 0 (m.place x) (m.place x) ≡ 0 =
        reached_entry M shaped d (row_scalars M shaped d h) k m N standard valid takes rows (m.place x) inside c a' z 0 (m.place x) some p
        ∙ ap (λ y. times (order M 0)
        (column_factor M shaped d (row_scalars M shaped d h) k m N standard valid takes rows (m.place x) inside c a' z 0)
        (times (order M 0) (row_factor M d m 0 (m.place x)) y)) (z 0 (m.place x) some l)
        ∙ ap (times (order M 0) (column_factor M shaped d (row_scalars M shaped d h) k m N standard valid takes rows
        (m.place x) inside c a' z 0)) (times_zero (order M 0) F (row_factor M d m 0 (m.place x)))
        ∙ times_zero (order M 0) F (column_factor M shaped d (row_scalars M shaped d h) k m N standard valid takes rows (m.place x) inside c a' z 0) in
        let one : matrix N 0 (m.place x) (m.place x) ≡ 1 =
        standard.units 0 (m.place x) (m.place x) (subst (λ (S : Shape). 0 < length S.factors) (sym takes.same_shape) some)
        (subst (λ (S : Shape). m.place x < S.rank) (sym takes.same_shape) p) (subst (λ (S : Shape). m.place x < S.rank) (sym takes.same_shape) p)
        ∙ ap (λ e. cond e 1 0) (same_number (m.place x)) in
        let n : zero ≡ 1 = sym none ∙ one in absurd (omega arith))
  ]

  -- an element with a coordinate before row k is taken to a column with a code before row k
  module _ (p : ℕ) (inside : p < size M) (c : ℕ → ℕ → ℕ) (a : AreCoordinates M d (m.label p) c) (f i : ℕ) (l : f < count M) (b : i < k) (ne : c f i ≢ 0) where
    F : IsField (order M f)
    F = field M shaped f l

    x_below : m.label p < size M
    x_below = let w = valid.labels in w.below p inside

    scalar_at : (j : ℕ) → j < size M → IsScalar (order M f) (m.scalar f j)
    scalar_at j o = record { code = valid.scalars f j l o; nonzero = valid.nonzero f j l o }

    abbrev e : ℕ → ℕ
    e = (standard_coordinates Linear M N m shaped standard valid takes f l p inside).0

    e_code : (j : ℕ) → j < M.rank → e j < order M f
    e_code = (standard_coordinates Linear M N m shaped standard valid takes f l p inside).1

    -- a code 0 in the column is a coordinate 0
    coordinate_zero : (j : ℕ) → j < M.rank → matrix N f j p ≡ 0 → e j ≡ 0
    coordinate_zero j o z =
        zero_factor (order M f) F (inverse (order M f) (m.scalar f j)) (e j)
        (inverse_scalar (order M f) F (m.scalar f j) (scalar_at j (let r = h.room in omega arith))) (e_code j o)
        (zero_factor (order M f) F (m.scalar f p) (times (order M f) (inverse (order M f) (m.scalar f j)) (e j)) (scalar_at p inside) (F.times_below _ _)
        (sym (standard_by Linear M N m shaped standard valid takes f l p inside e
        ((standard_coordinates Linear M N m shaped standard valid takes f l p inside).2) j o
        ∙ ap (λ t. times (order M f) (m.scalar f p)
        (times (order M f) (inverse (order M f) (m.scalar f j)) (raised (order M f) t (e j)))) (valid.allowed f l)) ∙ z))

    -- in factor f alone the coordinates at the trail's elements, where all codes before row k are 0
    module _ (z : (j : ℕ) → j < k → matrix N f j p ≡ 0) where
      abbrev v : ℕ → ℕ
      v j = times (order M f) (inverse (order M f) (d.scalar f j)) (e j)

      v_coordinates : AreCoordinatesIn M shaped d h f l (m.label p) v
      v_coordinates = record {
        codes = λ j _. F.times_below _ _;
        scale = 1;
        scalar = one_scalar (order M f) F;
        combined = λ i' b'.
            sum_same (order M f) F M.rank
            (λ j. times (order M f) (matrix M f i' (d.label j)) (times (order M f) (d.scalar f j) (v j)))
            (λ j. times (order M f) (matrix M f i' (m.label j)) (e j)) (same i')
            ∙ ((standard_coordinates Linear M N m shaped standard valid takes f l p inside).2) i' b'
            ∙ sym (F.times_one (matrix M f i' (m.label p)) (shaped.codes f i' (m.label p) l b' x_below));
      }
        where
          same : (i' j : ℕ) → j < M.rank →
              times (order M f) (matrix M f i' (d.label j)) (times (order M f) (d.scalar f j) (v j)) ≡ times (order M f)
              (matrix M f i' (m.label j)) (e j)
          same i' j o =
              ap (times (order M f) (matrix M f i' (d.label j)))
              (undone_back (order M f) F (d.scalar f j) (e j) (row_scalars M shaped d h f j l o) (e_code j o))
              ∙ (elim (cases_lt j k) [
                | inl b' ↦ (let n : e j ≡ 0 = coordinate_zero j o (z j b') in
                    ap (times (order M f) (matrix M f i' (d.label j))) n ∙ times_zero (order M f) F (matrix M f i' (d.label j))
                    ∙ sym (ap (times (order M f) (matrix M f i' (m.label j))) n ∙ times_zero (order M f) F (matrix M f i' (m.label j))))
                | inr g ↦ ap (λ y. times (order M f) (matrix M f i' y) (e j)) (sym (rows j g o))
              ])

      none_before : c f i ≡ 0
      none_before =
          zero_in_both_in M shaped d h f l (m.label p) v (c f) v_coordinates (in_factor M shaped d h f l (m.label p) c a) i (omega arith)
          (ap (times (order M f) (inverse (order M f) (d.scalar f i))) (coordinate_zero i (omega arith) (z i b))
          ∙ times_zero (order M f) F (inverse (order M f) (d.scalar f i)))

    pub some_before : (j : ℕ) × (j < k) × (matrix N f j p ≢ 0)
    some_before = elim (search_below k (λ j. matrix N f j p ≢ 0) (λ j. matrix N f j p ≡ 0)
        (λ j _. elim (cases_eq (matrix N f j p) 0) [ inl e ↦ inr e | inr n ↦ inl n ])) [
          | inl w ↦ w
          | inr z ↦ absurd (ne (none_before z))
        ]
