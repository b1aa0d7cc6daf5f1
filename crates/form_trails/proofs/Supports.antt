-- Where the factors agree, coordinates in an ordered basis are 0 in all factors or in none.
use Rattle.std.proofs.Common.{◌≡◌, ◌≢◌, inl, inr, ℕ, ◌<◌, ◌≤◌, sym, ◌∙◌, ap, subst, arith, cond}
use Rattle.std.specs.Bool.{◌==◌, nat_lt}
use Rattle.std.proofs.lemmas.Bool.{cases_lt, cases_eq}
use Rattle.matroid_theory.specs.Field.{IsField, times, inverse}
use Rattle.matroid_theory.specs.Matrix.{Matrix, combination, unit}
use Rattle.matroid_theory.specs.Rep.{Rep, count, size, order, matrix, IsShaped}
use Rattle.matroid_theory.specs.Matroid.{Agrees}
use Rattle.matroid_theory.specs.Move.{ArePermutation}
use Rattle.matrix_lemmas.proofs.Sums.{same_number, other_number, sum_same, times_zero, combination-scaled}
use Rattle.matrix_lemmas.proofs.Steps.{Independent}
use Rattle.matrix_lemmas.proofs.Ranks.{IsIndependent-codes}
use Rattle.matrix_lemmas.proofs.Dimension.{times_unit_column}
use Rattle.matroid_laws.proofs.Standard.{ordered_independent}
use Rattle.form_trails.specs.Trail.{Trail, AreCoordinates, IsOrdered}
use Rattle.matroid_theory.specs.Exchange.{exchange}
use Rattle.form_trails.proofs.Scalars.{IsScalar, inverse_scalar, times_scalar, times_one_right}
use Rattle.matrix_lemmas.proofs.Exchanges.{exchange_one, exchange_other, exchanged_permutation}
use Rattle.form_trails.proofs.Entries.{field}
use Rattle.form_trails.proofs.Coordinates.{row_scalars, same_coefficients, own_nonzero, others_zero}
use Rattle.form_trails.proofs.Ordered.{first_basis}
use Rattle.form_trails.proofs.Chosen.{combination_factors, scaled_independent, unscaled_independent}
use Rattle.form_trails.proofs.PivotColumn.{base, pivoted, pivoted_independent}

module _ (M : Rep) (shaped : IsShaped M) (d : Trail) (h : IsOrdered M d) (x : ℕ) (below : x < size M) (c : ℕ → ℕ → ℕ) (a : AreCoordinates M d x c)
    (p : ℕ) (p_below : p < M.rank) (outside : M.rank ≤ d.place x) where
  abbrev label : ℕ → ℕ
  label y = d.label (exchange p (d.place x) y)

  abbrev place : ℕ → ℕ
  place y = exchange p (d.place x) (d.place y)

  label_here : label p ≡ x
  label_here = let w = h.labels in ap d.label (exchange_one p (d.place x)) ∙ w.back x below

  label_row : (l : ℕ) → l < M.rank → l ≢ p → label l ≡ d.label l
  label_row l b n = ap d.label (exchange_other p (d.place x) l n (λ e. absurd (omega arith)))

  permutation : ArePermutation (size M) label place
  permutation = exchanged_permutation p (d.place x) (size M) d.label d.place (let r = h.room in omega arith)
      (let w = h.labels in w.inverse_below x below) h.labels

  -- in a factor where the coordinate isn't 0 the element can take the row
  module _ (g : ℕ) (l : g < count M) (ne : c g p ≢ 0) where
    F : IsField (order M g)
    F = field M shaped g l

    abbrev U : Matrix
    U i j = times (order M g) (matrix M g i (d.label j)) (d.scalar g j)

    -- with the coordinates scaled to 1 there
    abbrev by : ℕ
    by = inverse (order M g) (c g p)

    by_scalar : IsScalar (order M g) by
    by_scalar = inverse_scalar (order M g) F (c g p) (record { code = a.codes g p l p_below; nonzero = ne })

    abbrev B : ℕ → ℕ
    B i = times (order M g) by (c g i)

    one : B p ≡ 1
    one = F.times_comm by (c g p) ∙ F.times_inverse (c g p) (a.codes g p l p_below) ne

    abbrev scalar : ℕ → ℕ
    scalar j = cond (j == p) (times (order M g) by (a.scale g)) (d.scalar g j)

    scalars : (j : ℕ) → j < M.rank → IsScalar (order M g) (scalar j)
    scalars j b = elim (cases_eq j p) [
      | inl e ↦ subst (IsScalar (order M g)) (sym (ap (λ b. cond b (times (order M g) by (a.scale g)) (d.scalar g j)) (ap (λ y. y == p) e ∙ same_number p)))
          (times_scalar (order M g) F by (a.scale g) by_scalar (record { code = a.scale_code g l; nonzero = a.scale_nonzero g l }))
      | inr n ↦ subst (IsScalar (order M g))
          (sym (ap (λ b. cond b (times (order M g) by (a.scale g)) (d.scalar g j)) (other_number j p n))) (row_scalars M shaped d h g j l b)
    ]

    same_pivoted : (i j : ℕ) → i < M.rank → j < M.rank →
        pivoted (order M g) F M.rank U p p_below B one i j ≡ times (order M g) (matrix M g i (label j)) (scalar j)
    same_pivoted i j b o = elim (cases_eq j p) [
      | inl e ↦ ap (λ b. cond b (base (order M g) F M.rank U p p_below B one i) (U i j)) (ap (λ y. y == p) e ∙ same_number p)
          ∙ combination-scaled (order M g) F M.rank U by (c g) i
          ∙ ap (times (order M g) by)
          (combination_factors (order M g) F M.rank (λ i l. matrix M g i (d.label l)) (d.scalar g)
          (λ j o. row_scalars M shaped d h g j l o) M.rank (c g) i ∙ a.combined g i l b)
          ∙ sym (F.times_assoc by (a.scale g) (matrix M g i x)) ∙ F.times_comm (times (order M g) by (a.scale g)) (matrix M g i x)
          ∙ sym (ap (λ j. times (order M g) (matrix M g i (label j)) (scalar j)) e
          ∙ (λ t. times (order M g) (matrix M g i (label_here t)) (ap (λ b. cond b (times (order M g) by (a.scale g)) (d.scalar g p)) (same_number p) t)))
      | inr n ↦ ap (λ b. cond b (base (order M g) F M.rank U p p_below B one i) (U i j)) (other_number j p n)
          ∙ sym (λ t. times (order M g) (matrix M g i (label_row j o n t))
          (ap (λ b. cond b (times (order M g) by (a.scale g)) (d.scalar g j)) (other_number j p n) t))
    ]

    row_taken : Independent (order M g) M.rank M.rank (λ i j. matrix M g i (label j))
    row_taken =
        unscaled_independent (order M g) F M.rank (λ i j. matrix M g i (label j)) scalar scalars
        (IsIndependent-codes (order M g) M.rank M.rank (pivoted (order M g) F M.rank U p p_below B one)
        (λ i j. times (order M g) (matrix M g i (label j)) (scalar j)) _ same_pivoted
        (pivoted_independent (order M g) F M.rank U p p_below B one
        (scaled_independent (order M g) F M.rank (λ i j. matrix M g i (d.label j)) (d.scalar g) (λ j o. row_scalars M shaped d h g j l o) (h.independent g l))))

  -- in a factor where it is 0 the element can't
  row_refused : (f : ℕ) → f < count M → c f p ≡ 0 → ¬ (Independent (order M f) M.rank M.rank (λ i j. matrix M f i (label j)))
  row_refused f l z w =
      a.scale_nonzero f l
      ((sym (times_one_right (order M f) F (a.scale f) (a.scale_code f l)) ∙ ap (λ b. times (order M f) (a.scale f) (cond b 1 0)) (sym (same_number p)))
      ∙ sym (same_coefficients (order M f) F M.rank M.rank (λ i j. matrix M f i (label j)) w
      (λ j. times (order M f) (d.scalar f j) (c f j)) (λ j. times (order M f) (a.scale f) (unit j p))
      (λ j _. F_below (d.scalar f j) (c f j)) (λ j _. F_below (a.scale f) (unit j p)) rows p p_below)
      ∙ ap (times (order M f) (d.scalar f p)) z ∙ times_zero (order M f) F (d.scalar f p))
    where
      F : IsField (order M f)
      F = field M shaped f l

      F_below : (x y : ℕ) → times (order M f) x y < order M f
      F_below x y = let G = field M shaped f l in G.times_below x y

      term : (i j : ℕ) → j < M.rank → times (order M f) (matrix M f i (label j)) (times (order M f) (d.scalar f j) (c f j)) ≡ times
          (order M f) (matrix M f i (d.label j)) (times (order M f) (d.scalar f j) (c f j))
      term i j o = elim (cases_eq j p) [
        | inl e ↦ nothing (matrix M f i (label j)) e ∙ sym (nothing (matrix M f i (d.label j)) e)
        | inr n ↦ ap (λ y. times (order M f) (matrix M f i y) (times (order M f) (d.scalar f j) (c f j))) (label_row j o n)
      ]
        where
          nothing : (y : ℕ) → j ≡ p → times (order M f) y (times (order M f) (d.scalar f j) (c f j)) ≡ 0
          nothing y e = ap (λ j. times (order M f) y (times (order M f) (d.scalar f j) (c f j))) e
              ∙ ap (λ v. times (order M f) y (times (order M f) (d.scalar f p) v)) z
              ∙ ap (times (order M f) y) (times_zero (order M f) (field M shaped f l) (d.scalar f p)) ∙ times_zero (order M f) (field M shaped f l) y

      rows : (i : ℕ) → i < M.rank → combination (order M f) M.rank (λ i j. matrix M f i (label j)) (λ j. times (order M f) (d.scalar f j) (c f j)) i
          ≡ combination (order M f) M.rank (λ i j. matrix M f i (label j)) (λ j. times (order M f) (a.scale f) (unit j p)) i
      rows i b =
          sum_same (order M f) F M.rank (λ j. times (order M f) (matrix M f i (label j)) (times (order M f) (d.scalar f j) (c f j)))
          (λ j. times (order M f) (matrix M f i (d.label j)) (times (order M f) (d.scalar f j) (c f j))) (term i)
          ∙ a.combined f i l b
          ∙ ap (λ y. times (order M f) (a.scale f) (matrix M f i y)) (sym label_here)
          ∙ sym (combination-scaled (order M f) F M.rank (λ i j. matrix M f i (label j)) (a.scale f) (λ j. unit j p) i
          ∙ ap (times (order M f) (a.scale f)) (times_unit_column (order M f) F M.rank (λ i j. matrix M f i (label j)) i p p_below
          (shaped.codes f i (label p) l b (let w = permutation in w.below p (let r = h.room in omega arith)))))

  module _ (agrees : Agrees M) where
    outside_support : (f g : ℕ) → f < count M → g < count M → c f p ≡ 0 → c g p ≡ 0
    outside_support f g l m z = elim (cases_eq (c g p) 0) [
      | inl e ↦ e
      | inr ne ↦ absurd (row_refused f l z
          (ordered_independent (order M f) (field M shaped f l) M.rank (size M) (matrix M f) label place h.room permutation
          (let b = agrees.same g f m l (λ j. nat_lt (place j) M.rank)
          (first_basis M shaped label place permutation h.room g m (row_taken g m ne)) in b.independent)))
    ]

pub same_support : (M : Rep) → IsShaped M → Agrees M → (d : Trail) → IsOrdered M d → (x : ℕ) → x < size M → (c : ℕ → ℕ → ℕ) → AreCoordinates M d x c
    → (f g p : ℕ) → f < count M → g < count M → p < M.rank → c f p ≡ 0 → c g p ≡ 0
same_support M shaped agrees d h x below c a f g p l m b z = elim (cases_lt (d.place x) M.rank) [
  | inr r ↦ outside_support M shaped d h x below c a p b r agrees f g l m z
  | inl r ↦ others_zero M shaped d h x below c a r g p m b (λ e. own_nonzero M shaped d h x below c a r f l (ap (c f) (sym e) ∙ z))
]
