-- The entries of a standard representation, by the coordinates at the chosen elements.
use Rattle.std.proofs.Common.{◌≡◌, inl, inr, ℕ, ◌+◌, ◌-◌, ◌<◌, ◌≤◌, ◌⊎◌, refl, sym, ◌∙◌, ap, subst, arith}
use Rattle.std.specs.Bool.{nat_lt}
use Rattle.std.proofs.lemmas.Bool.{cases_lt}
use Rattle.matroid_theory.specs.Field.{IsField, times, inverse, raised}
use Rattle.matroid_theory.specs.Matrix.{combination}
use Rattle.matroid_theory.specs.declared.Mode.TheVariants.{Linear}
use Rattle.matroid_theory.specs.Rep.{Rep, count, size, order, matrix, shape, IsShaped, IsStandard}
use Rattle.matroid_theory.specs.Matroid.{IsBasis}
use Rattle.matroid_theory.specs.Move.{Move, ArePermutation, IsMove, TakesTo, AreEquivalent}
use Rattle.matrix_lemmas.proofs.FieldLaws.{field_laws}
use Rattle.matrix_lemmas.proofs.Sums.{sum_same, times_zero, combination-scaled}
use Rattle.matrix_lemmas.proofs.Frobenius.{times_undone}
use Rattle.matroid_laws.proofs.Standard.{standard_by}
use Rattle.matroid_laws.proofs.Built.{standard_each}
use Rattle.form_trails.specs.Trail.{Trail, AreCoordinates, AreZeroBefore, row_factor}
use Rattle.form_trails.proofs.Scalars.{IsScalar, one_scalar, inverse_scalar, times_scalar, factored, through, times_turn}

-- a scalar of each row
abbrev pub AreRowScalars : Rep → (ℕ → ℕ → ℕ) → Type 0
AreRowScalars M t = (f i : ℕ) → f < count M → i < M.rank → IsScalar (order M f) (t f i)

module _ (M : Rep) (shaped : IsShaped M) where
  pub field : (f : ℕ) → f < count M → IsField (order M f)
  field f l = field_laws (order M f) (shaped.orders f l)

  -- coordinates from row k on are coordinates in each ordered basis with the same elements from there on
  module _ (d : Trail) (k : ℕ) (label : ℕ → ℕ) (rows : (i : ℕ) → k ≤ i → i < M.rank → label i ≡ d.label i)
      (x : ℕ) (below : x < size M) (c : ℕ → ℕ → ℕ) (a : AreCoordinates M d x c) (zeros : AreZeroBefore M k c) (f : ℕ) (l : f < count M) where
    abbrev pub coefficient : ℕ → ℕ
    coefficient i = times (order M f) (inverse (order M f) (a.scale f)) (times (order M f) (d.scalar f i) (c f i))

    pub coefficient_zero : (i : ℕ) → c f i ≡ 0 → coefficient i ≡ 0
    coefficient_zero i z =
        ap (λ y. times (order M f) (inverse (order M f) (a.scale f)) (times (order M f) (d.scalar f i) y)) z
        ∙ ap (times (order M f) (inverse (order M f) (a.scale f))) (times_zero (order M f) (field f l) (d.scalar f i))
        ∙ times_zero (order M f) (field f l) (inverse (order M f) (a.scale f))

    pub coefficients_combined : (i : ℕ) → i < M.rank → combination (order M f) M.rank (λ i l. matrix M f i (label l)) coefficient i ≡ matrix M f i x
    coefficients_combined i b =
        sum_same (order M f) (field f l) M.rank (λ j. times (order M f) (matrix M f i (label j)) (coefficient j))
        (λ j. times (order M f) (matrix M f i (d.label j)) (coefficient j)) same
        ∙ combination-scaled (order M f) (field f l) M.rank (λ i l. matrix M f i (d.label l)) (inverse (order M f) (a.scale f))
        (λ j. times (order M f) (d.scalar f j) (c f j)) i
        ∙ ap (times (order M f) (inverse (order M f) (a.scale f))) (a.combined f i l b)
        ∙ times_undone (order M f) (field f l) (a.scale f) (matrix M f i x) (a.scale_code f l) (a.scale_nonzero f l) (shaped.codes f i x l b below)
      where
        same : (j : ℕ) → j < M.rank → times (order M f) (matrix M f i (label j)) (coefficient j) ≡ times (order M f) (matrix M f i (d.label j)) (coefficient j)
        same j o = elim (cases_lt j k) [
          | inl z ↦ (let none : coefficient j ≡ 0 = coefficient_zero j (zeros f j l z) in
              ap (times (order M f) (matrix M f i (label j))) none ∙ times_zero (order M f) (field f l) (matrix M f i (label j))
              ∙ sym (ap (times (order M f) (matrix M f i (d.label j))) none ∙ times_zero (order M f) (field f l) (matrix M f i (d.label j))))
          | inr g ↦ ap (λ y. times (order M f) (matrix M f i y) (coefficient j)) (rows j g o)
        ]

  -- ---- of a standard representation that is reached

  module _ (d : Trail) (scalars : AreRowScalars M d.scalar) (k : ℕ) (m : Move) (N : Rep) (standard : IsStandard N)
      (valid : IsMove Linear (shape M) m) (takes : TakesTo M m N)
      (rows : (i : ℕ) → k ≤ i → i < M.rank → m.label i ≡ d.label i) (p : ℕ) (inside : p < size M)
      (c : ℕ → ℕ → ℕ) (a : AreCoordinates M d (m.label p) c) (zeros : AreZeroBefore M k c) where
    -- what all rows of the column are multiplied by
    abbrev pub column_factor : ℕ → ℕ
    column_factor f = times (order M f) (m.scalar f p) (inverse (order M f) (a.scale f))

    pub column_factor_scalar : (f : ℕ) → f < count M → IsScalar (order M f) (column_factor f)
    column_factor_scalar f l =
        times_scalar (order M f) (field f l) (m.scalar f p) (inverse (order M f) (a.scale f))
        (record { code = valid.scalars f p l inside; nonzero = valid.nonzero f p l inside })
        (inverse_scalar (order M f) (field f l) (a.scale f) (record { code = a.scale_code f l; nonzero = a.scale_nonzero f l }))

    pub reached_entry : (f i : ℕ) → f < count M → i < M.rank →
        matrix N f i p ≡ times (order M f) (column_factor f) (times (order M f) (row_factor M d m f i) (c f i))
    reached_entry f i l b =
        standard_by Linear M N m shaped standard valid takes f l p inside
        (coefficient d k m.label rows (m.label p) x_below c a zeros f l)
        (coefficients_combined d k m.label rows (m.label p) x_below c a zeros f l) i b
        ∙ ap (λ t. times (order M f) (m.scalar f p)
        (times (order M f) (inverse (order M f) (m.scalar f i))
        (raised (order M f) t (coefficient d k m.label rows (m.label p) x_below c a zeros f l i)))) (valid.allowed f l)
        ∙ regroup
      where
        F : IsField (order M f)
        F = field f l

        x_below : m.label p < size M
        x_below = let w = valid.labels in w.below p inside

        -- e (o (s (t c))) = (e s) ((o t) c)
        regroup : times (order M f) (m.scalar f p)
            (times (order M f) (inverse (order M f) (m.scalar f i))
            (times (order M f) (inverse (order M f) (a.scale f)) (times (order M f) (d.scalar f i) (c f i))))
            ≡ times (order M f) (column_factor f) (times (order M f) (row_factor M d m f i) (c f i))
        regroup =
            ap (times (order M f) (m.scalar f p))
            (times_turn (order M f) F (inverse (order M f) (m.scalar f i)) (inverse (order M f) (a.scale f))
            (times (order M f) (d.scalar f i) (c f i)))
            ∙ sym (F.times_assoc (m.scalar f p) (inverse (order M f) (a.scale f))
            (times (order M f) (inverse (order M f) (m.scalar f i)) (times (order M f) (d.scalar f i) (c f i))))
            ∙ ap (times (order M f) (column_factor f)) (sym (F.times_assoc (inverse (order M f) (m.scalar f i)) (d.scalar f i) (c f i)))

  -- ---- of one that is made

  module _ (some : 0 < count M) (d : Trail) (scalars : AreRowScalars M d.scalar) (k : ℕ) (label place : ℕ → ℕ) (labels : ArePermutation (size M) label place)
      (bases : (f : ℕ) → f < count M → IsBasis M f (λ j. nat_lt (place j) M.rank)) (rows : (i : ℕ) → k ≤ i → i < M.rank → label i ≡ d.label i)
      (own : ℕ → ℕ → ℕ) (own_scalars : AreRowScalars M own) (s : ℕ) (room : M.rank + s ≤ size M) (columns : ℕ → ℕ → ℕ → ℕ)
      (coordinates : (j : ℕ) → j < s → AreCoordinates M d (label (M.rank + j)) (columns j)) (zeros : (j : ℕ) → j < s → AreZeroBefore M k (columns j))
      (multiple : ℕ → ℕ → ℕ) (multiple_scalar : (f j : ℕ) → f < count M → j < s → IsScalar (order M f) (multiple f j)) where
    -- the first s later columns are multiples of these, with the rows multiplied
    pub record IsMade (L : Rep) : Type 0 where
      pub standard : IsStandard L
      pub equivalent : AreEquivalent Linear M L
      pub entries : (j f i : ℕ) → j < s → f < count M → i < M.rank →
          matrix L f i (M.rank + j) ≡ times (order M f) (multiple f j) (times (order M f) (own f i) (columns j f i))

    later_by : (f j : ℕ) → (j < s) ⊎ (s ≤ j) → ℕ
    later_by f j (inl l) = times (order M f) (multiple f j) (let a = coordinates j l in a.scale f)
    later_by f j (inr g) = 1

    later_is : (f j : ℕ) (w : (j < s) ⊎ (s ≤ j)) → f < count M → IsScalar (order M f) (later_by f j w)
    unfolding later_by
    later_is f j (inl l) b = let a = coordinates j l in
        times_scalar (order M f) (field f b) (multiple f j) (a.scale f) (multiple_scalar f j b l)
        (record { code = a.scale_code f b; nonzero = a.scale_nonzero f b })
    later_is f j (inr g) b = one_scalar (order M f) (field f b)

    abbrev row_scalar : ℕ → ℕ → ℕ
    row_scalar f i = times (order M f) (d.scalar f i) (inverse (order M f) (own f i))

    row_scalar_is : (f i : ℕ) → f < count M → i < M.rank → IsScalar (order M f) (row_scalar f i)
    row_scalar_is f i b o = times_scalar (order M f) (field f b) (d.scalar f i) (inverse (order M f) (own f i)) (scalars f i b o)
        (inverse_scalar (order M f) (field f b) (own f i) (own_scalars f i b o))

    scalar_by : (f p : ℕ) → (p < M.rank) ⊎ (M.rank ≤ p) → ℕ
    scalar_by f p (inl l) = row_scalar f p
    scalar_by f p (inr g) = later_by f (p - M.rank) (cases_lt (p - M.rank) s)

    scalar_is : (f p : ℕ) (w : (p < M.rank) ⊎ (M.rank ≤ p)) → f < count M → IsScalar (order M f) (scalar_by f p w)
    unfolding scalar_by
    scalar_is f p (inl l) b = row_scalar_is f p b l
    scalar_is f p (inr g) b = later_is f (p - M.rank) (cases_lt (p - M.rank) s) b

    abbrev scalar : ℕ → ℕ → ℕ
    scalar f p = scalar_by f p (cases_lt p M.rank)

    scalar_row : (f p : ℕ) (w : (p < M.rank) ⊎ (M.rank ≤ p)) → p < M.rank → scalar_by f p w ≡ row_scalar f p
    unfolding scalar_by
    scalar_row f p (inl l) b = refl
    scalar_row f p (inr g) b = absurd (omega arith)

    scalar_later : (f j : ℕ) (w : (M.rank + j < M.rank) ⊎ (M.rank ≤ M.rank + j)) → scalar_by f (M.rank + j) w ≡ later_by f j (cases_lt j s)
    unfolding scalar_by
    scalar_later f j (inl l) = absurd (omega arith)
    scalar_later f j (inr g) = let z : M.rank + j - M.rank ≡ j = omega arith in ap (λ t. later_by f t (cases_lt t s)) z

    module _ (L : Rep) (n : Move) (standard : IsStandard L) (valid : IsMove Linear (shape M) n) (takes : TakesTo M n L)
        (labels_are : n.label ≡ label) (scalars_are : n.scalar ≡ scalar) where
      module _ (j : ℕ) (o : j < s) (f : ℕ) (l : f < count M) where
        x_below : label (M.rank + j) < size M
        x_below = labels.below (M.rank + j) (omega arith)

        abbrev coeff : ℕ → ℕ
        coeff = let a = coordinates j o in coefficient d k label rows (label (M.rank + j)) x_below (columns j) a (zeros j o) f l

        combined : (i : ℕ) → i < M.rank → combination (order M f) M.rank (λ i l. matrix M f i (n.label l)) coeff i ≡ matrix M f i (n.label (M.rank + j))
        combined = subst (λ (p : ℕ → ℕ). (i : ℕ) → i < M.rank →
            combination (order M f) M.rank (λ i l. matrix M f i (p l)) coeff i ≡ matrix M f i (p (M.rank + j))) (sym labels_are)
            (coefficients_combined d k label rows (label (M.rank + j)) x_below (columns j) (coordinates j o) (zeros j o) f l)

        entry : (i : ℕ) → i < M.rank →
            matrix L f i (M.rank + j) ≡ times (order M f) (scalar f (M.rank + j))
            (times (order M f) (own f i) (let a = coordinates j o in times (order M f) (inverse (order M f) (a.scale f)) (columns j f i)))
        entry i b =
            standard_by Linear M L n shaped standard valid takes f l (M.rank + j) (omega arith) coeff combined i b
            ∙ ap (λ t. times (order M f) (n.scalar f (M.rank + j))
            (times (order M f) (inverse (order M f) (n.scalar f i)) (raised (order M f) t (coeff i)))) (valid.allowed f l)
            ∙ (λ t. times (order M f) (scalars_are t f (M.rank + j)) (times (order M f) (inverse (order M f) (scalars_are t f i)) (coeff i)))
            ∙ ap (times (order M f) (scalar f (M.rank + j)))
            (ap (λ y. times (order M f) (inverse (order M f) y) (coeff i)) (scalar_row f i (cases_lt i M.rank) b)
            ∙ (let a = coordinates j o in factored (order M f) (field f l) (d.scalar f i) (own f i) (a.scale f) (columns j f i)
            (scalars f i l b) (own_scalars f i l b) (record { code = a.scale_code f l; nonzero = a.scale_nonzero f l }) (a.codes f i l b)))

      made_by : (j f i : ℕ) (w : (j < s) ⊎ (s ≤ j)) → j < s → f < count M → i < M.rank → scalar f (M.rank + j) ≡ later_by f j w
          → matrix L f i (M.rank + j) ≡ times (order M f) (multiple f j) (times (order M f) (own f i) (columns j f i))
      unfolding later_by
      made_by j f i (inl o) _ l b is =
          entry j o f l i b
          ∙ (let a = coordinates j o in
          ap (λ y. times (order M f) y (times (order M f) (own f i) (times (order M f) (inverse (order M f) (a.scale f)) (columns j f i)))) is
          ∙ through (order M f) (field f l) (multiple f j) (a.scale f) (own f i) (columns j f i)
          (record { code = a.scale_code f l; nonzero = a.scale_nonzero f l }) (a.codes f i l b))
      made_by j f i (inr g) o l b is = absurd (omega arith)

      made_entry : (j f i : ℕ) → j < s → f < count M → i < M.rank →
          matrix L f i (M.rank + j) ≡ times (order M f) (multiple f j) (times (order M f) (own f i) (columns j f i))
      made_entry j f i o l b = made_by j f i (cases_lt j s) o l b (scalar_later f j (cases_lt (M.rank + j) M.rank))

    pub made : (L : Rep) × IsMade L
    made =
        let (L, n, standard, valid, takes, labels_are, scalars_are, _) = standard_each Linear M label place scalar (λ _. 0) shaped some labels bases
        (λ f j l _. (let x = scalar_is f j (cases_lt j M.rank) l in x.code)) (λ f j l _. (let x = scalar_is f j (cases_lt j M.rank) l in x.nonzero))
        (λ f l. let F = field f l in F.degree_positive) (λ _ _. refl) in (
          L,
          record {
            standard = standard;
            equivalent = record { shaped = shaped; move = n; valid = valid; takes = takes };
            entries = made_entry L n standard valid takes labels_are scalars_are;
          },
        )
