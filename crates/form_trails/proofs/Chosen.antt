-- The trail after an element is chosen for the next row, and the coordinates of the others.
use Rattle.std.proofs.Common.{◌≡◌, ◌≢◌, ◌⊎◌, inl, inr, ℕ, zero, suc, ◌+◌, ◌<◌, ◌≤◌, sym, ◌∙◌, ap, subst, arith, cond}
use Rattle.std.specs.Bool.{◌==◌}
use Rattle.std.proofs.lemmas.Bool.{cases_lt, cases_eq}
use Rattle.matroid_theory.specs.Field.{IsField, plus, times, inverse}
use Rattle.matroid_theory.specs.Matrix.{Matrix, combination}
use Rattle.matroid_theory.specs.Rep.{Rep, count, size, order, matrix, IsShaped}
use Rattle.matroid_theory.specs.Move.{Move}
use Rattle.matrix_lemmas.proofs.Sums.{same_number, other_number, sum_same, sum_relabelled}
use Rattle.matrix_lemmas.proofs.Steps.{Independent, all_coefficients}
use Rattle.matrix_lemmas.proofs.Ranks.{IsIndependent-codes}
use Rattle.form_trails.specs.Trail.{ReachesForm, Trail, AreCoordinates, Follows, IsOrdered, ArePlaced, IsTrail, row_factor}
use Rattle.matroid_theory.specs.Exchange.{exchange}
use Rattle.form_trails.specs.Pivot.{cleared, pivoted as pivoted_codes}
use Rattle.form_trails.proofs.Scalars.{IsScalar, inverse_scalar, times_scalar, zero_factor, undone_back}
use Rattle.matrix_lemmas.proofs.Exchanges.{exchange_one, exchange_two, exchange_other, exchange_below, exchange_permutation, exchanged_permutation}
use Rattle.form_trails.proofs.Entries.{field, AreRowScalars}
use Rattle.form_trails.proofs.Coordinates.{row_scalars, others_zero}
use Rattle.form_trails.proofs.Ordered.{independent_relabelled, coordinates_kept}
use Rattle.form_trails.proofs.PivotColumn.{base, pivoted, pivoted_independent, cleared_combined}

module _ (q : ℕ) (F : IsField q) (r : ℕ) (A : Matrix) (t : ℕ → ℕ) (scalars : (l : ℕ) → l < r → IsScalar q (t l)) where
  -- columns with their scalars, and coefficients with them
  pub combination_factors : (n : ℕ) (c : ℕ → ℕ) (i : ℕ) → combination q n (λ i l. times q (A i l) (t l)) c i ≡ combination q n A (λ l. times q (t l) (c l)) i
  combination_factors n c i = sum_same q F n (λ l. times q (times q (A i l) (t l)) (c l))
      (λ l. times q (A i l) (times q (t l) (c l))) (λ l _. F.times_assoc (A i l) (t l) (c l))

  pub scaled_independent : Independent q r r A → Independent q r r (λ i l. times q (A i l) (t l))
  scaled_independent h = record {
    only_zero = λ a c z l b. zero_factor q F (t l) (a l) (scalars l b) (c.codes l b)
        (h.only_zero (λ l. times q (t l) (a l)) (all_coefficients q F r r r _ (λ l _. F.times_below _ _)) (λ i m. sym (combination_factors r a i) ∙ z i m) l b);
  }

  pub unscaled_independent : Independent q r r (λ i l. times q (A i l) (t l)) → Independent q r r A
  unscaled_independent h = record {
    only_zero = λ a c z l b. zero_factor q F (inverse q (t l)) (a l) (inverse_scalar q F (t l) (scalars l b)) (c.codes l b)
        (h.only_zero (λ l. times q (inverse q (t l)) (a l)) (all_coefficients q F r r r _ (λ l _. F.times_below _ _))
        (λ i m. combination_factors r (λ l. times q (inverse q (t l)) (a l)) i
        ∙ sum_same q F r (λ l. times q (A i l) (times q (t l) (times q (inverse q (t l)) (a l)))) (λ l. times q (A i l) (a l))
        (λ l o. ap (times q (A i l)) (undone_back q F (t l) (a l) (scalars l o) (c.codes l o)))
        ∙ z i m) l b);
  }

-- ---- an element takes a row at which its coordinate is 1

module _ (M : Rep) (shaped : IsShaped M) (d : Trail) (h : IsOrdered M d) (x : ℕ) (below : x < size M) (c : ℕ → ℕ → ℕ) (a : AreCoordinates M d x c)
    (p : ℕ) (p_below : p < M.rank) (ones : (f : ℕ) → f < count M → c f p ≡ 1) (own_place : d.place x < M.rank → d.place x ≡ p) where
  abbrev pub taken : Trail
  taken = record {
    label = λ y. d.label (exchange p (d.place x) y);
    place = λ y. exchange p (d.place x) (d.place y);
    scalar = λ f i. cond (i == p) (a.scale f) (d.scalar f i);
    columns = d.columns;
  }

  pub taken_here : taken.label p ≡ x
  taken_here = let w = h.labels in ap d.label (exchange_one p (d.place x)) ∙ w.back x below

  pub taken_other : (y : ℕ) → y ≢ p → y ≢ d.place x → taken.label y ≡ d.label y
  taken_other y n n' = ap d.label (exchange_other p (d.place x) y n n')

  pub taken_row : (l : ℕ) → l < M.rank → l ≢ p → taken.label l ≡ d.label l
  taken_row l b n = taken_other l n (λ e. n (e ∙ own_place (subst (λ y. y < M.rank) e b)))

  scalar_here : (f : ℕ) → taken.scalar f p ≡ a.scale f
  scalar_here f = ap (λ b. cond b (a.scale f) (d.scalar f p)) (same_number p)

  pub scalar_other : (f i : ℕ) → i ≢ p → taken.scalar f i ≡ d.scalar f i
  scalar_other f i n = ap (λ b. cond b (a.scale f) (d.scalar f i)) (other_number i p n)

  taken_scalars : AreRowScalars M taken.scalar
  taken_scalars f i l b = elim (cases_eq i p) [
    | inl e ↦ subst (IsScalar (order M f)) (sym (ap (taken.scalar f) e ∙ scalar_here f)) (record { code = a.scale_code f l; nonzero = a.scale_nonzero f l })
    | inr n ↦ subst (IsScalar (order M f)) (sym (scalar_other f i n)) (row_scalars M shaped d h f i l b)
  ]

  module _ (f : ℕ) (l : f < count M) where
    F : IsField (order M f)
    F = field M shaped f l

    abbrev U : Matrix
    U i j = times (order M f) (matrix M f i (d.label j)) (d.scalar f j)

    abbrev V : Matrix
    V i j = times (order M f) (matrix M f i (taken.label j)) (taken.scalar f j)

    same_pivoted : (i j : ℕ) → i < M.rank → j < M.rank → pivoted (order M f) F M.rank U p p_below (c f) (ones f l) i j ≡ V i j
    same_pivoted i j b o = elim (cases_eq j p) [
      | inl e ↦ ap (λ b. cond b (base (order M f) F M.rank U p p_below (c f) (ones f l) i) (U i j)) (ap (λ y. y == p) e ∙ same_number p)
          ∙ combination_factors (order M f) F M.rank (λ i l. matrix M f i (d.label l)) (d.scalar f)
          (λ j o. row_scalars M shaped d h f j l o) M.rank (c f) i ∙ a.combined f i l b
          ∙ F.times_comm (a.scale f) (matrix M f i x)
          ∙ sym (ap (V i) e ∙ (λ t. times (order M f) (matrix M f i (taken_here t)) (scalar_here f t)))
      | inr n ↦ ap (λ b. cond b (base (order M f) F M.rank U p p_below (c f) (ones f l) i) (U i j)) (other_number j p n)
          ∙ sym (λ t. times (order M f) (matrix M f i (taken_row j o n t)) (scalar_other f j n t))
    ]

    taken_independent : Independent (order M f) M.rank M.rank (λ i j. matrix M f i (taken.label j))
    taken_independent =
        unscaled_independent (order M f) F M.rank (λ i j. matrix M f i (taken.label j)) (taken.scalar f) (λ j o. taken_scalars f j l o)
        (IsIndependent-codes (order M f) M.rank M.rank (pivoted (order M f) F M.rank U p p_below (c f) (ones f l)) V _ same_pivoted
        (pivoted_independent (order M f) F M.rank U p p_below (c f) (ones f l)
        (scaled_independent (order M f) F M.rank (λ i j. matrix M f i (d.label j)) (d.scalar f) (λ j o. row_scalars M shaped d h f j l o) (h.independent f l))))

  pub taken_ordered : IsOrdered M taken
  taken_ordered = record {
    labels = exchanged_permutation p (d.place x) (size M) d.label d.place (let r = h.room in omega arith)
        (let w = h.labels in w.inverse_below x below) h.labels;
    room = h.room;
    independent = taken_independent;
    scalar_code = λ f i l b. let t = taken_scalars f i l b in t.code;
    scalar_nonzero = λ f i l b. let t = taken_scalars f i l b in t.nonzero;
  }

  -- an element keeps its coordinate at the row, and its multiple of the chosen element's coordinates is taken from the others
  pub taken_coordinates : (minus : ℕ → ℕ → ℕ) → ((f i : ℕ) → f < count M → i < M.rank → plus (order M f) (c f i) (minus f i) ≡ 0)
      → (y : ℕ) (e : ℕ → ℕ → ℕ) → AreCoordinates M d y e → AreCoordinates M taken y (cleared M p minus e)
  taken_coordinates minus opposite y e w = record {
    codes = λ f i l b. elim (cases_eq i p) [
      | inl o ↦ subst (λ v. v < order M f)
          (sym (ap (λ b. cond b (e f p) (plus (order M f) (e f i) (times (order M f) (e f p) (minus f i))))
          (ap (λ y. y == p) o ∙ same_number p))) (w.codes f p l p_below)
      | inr n ↦ subst (λ v. v < order M f)
          (sym (ap (λ b. cond b (e f p) (plus (order M f) (e f i) (times (order M f) (e f p) (minus f i)))) (other_number i p n)))
          (let F = field M shaped f l in F.plus_below _ _)
    ];
    scale = w.scale;
    scale_code = w.scale_code;
    scale_nonzero = w.scale_nonzero;
    combined = λ f i l b.
        sym (combination_factors (order M f) (field M shaped f l) M.rank (λ i j. matrix M f i (taken.label j)) (taken.scalar f)
        (λ j o. taken_scalars f j l o) M.rank (cleared M p minus e f) i)
        ∙ sum_same (order M f) (field M shaped f l) M.rank (λ j. times (order M f) (V f l i j) (cleared M p minus e f j))
        (λ j. times (order M f) (pivoted (order M f) (field M shaped f l) M.rank (U f l) p p_below (c f) (ones f l) i j) (cleared M p minus e f j))
        (λ j o. ap (λ v. times (order M f) v (cleared M p minus e f j)) (sym (same_pivoted f l i j b o)))
        ∙ cleared_combined (order M f) (field M shaped f l) M.rank (U f l) p p_below (c f) (ones f l) (minus f)
        (λ j o. opposite f j l o) (e f) (λ j o. w.codes f j l o) i
        ∙ combination_factors (order M f) (field M shaped f l) M.rank (λ i j. matrix M f i (d.label j)) (d.scalar f)
        (λ j o. row_scalars M shaped d h f j l o) M.rank (e f) i
        ∙ w.combined f i l b;
  }

-- ---- two rows exchanged

module _ (M : Rep) (shaped : IsShaped M) (d : Trail) (h : IsOrdered M d) (p k : ℕ) (p_below : p < M.rank) (k_below : k < M.rank) where
  abbrev pub turned_rows : Trail
  turned_rows = record {
    label = λ y. d.label (exchange p k y);
    place = λ y. exchange p k (d.place y);
    scalar = λ f i. d.scalar f (exchange p k i);
    columns = d.columns;
  }

  pub turned_ordered : IsOrdered M turned_rows
  turned_ordered = record {
    labels = exchanged_permutation p k (size M) d.label d.place (let r = h.room in omega arith) (let r = h.room in omega arith) h.labels;
    room = h.room;
    independent = λ f l. independent_relabelled (order M f) (field M shaped f l) M.rank (λ i j. matrix M f i (d.label j))
        (exchange p k) (exchange p k) (exchange_permutation p k M.rank p_below k_below) (h.independent f l);
    scalar_code = λ f i l b. h.scalar_code f (exchange p k i) l (exchange_below p k M.rank p_below k_below i b);
    scalar_nonzero = λ f i l b. h.scalar_nonzero f (exchange p k i) l (exchange_below p k M.rank p_below k_below i b);
  }

  pub turned_coordinates : (y : ℕ) (e : ℕ → ℕ → ℕ) → AreCoordinates M d y e → AreCoordinates M turned_rows y (λ f i. e f (exchange p k i))
  turned_coordinates y e w = record {
    codes = λ f i l b. w.codes f (exchange p k i) l (exchange_below p k M.rank p_below k_below i b);
    scale = w.scale;
    scale_code = w.scale_code;
    scale_nonzero = w.scale_nonzero;
    combined = λ f i l b.
        sum_relabelled (order M f) (field M shaped f l) M.rank (exchange p k) (exchange p k) (exchange_permutation p k M.rank p_below k_below)
        (λ j. times (order M f) (matrix M f i (d.label j)) (times (order M f) (d.scalar f j) (e f j))) (λ j _. let F = field M shaped f l in F.times_below _ _)
        ∙ w.combined f i l b;
  }

-- ---- the element of the next row

module _ (M : Rep) (shaped : IsShaped M) (some : 0 < count M) (k s : ℕ) (groups : ℕ → ℕ) (d : Trail) (h : IsTrail M (suc k) s groups d)
    (x : ℕ) (below : x < size M) (is_open : (d.place x < suc k) ⊎ (M.rank + s ≤ d.place x)) (c : ℕ → ℕ → ℕ) (a : AreCoordinates M d x c)
    (p : ℕ) (p_most : p ≤ k) (ones : (f : ℕ) → f < count M → c f p ≡ 1) where
  pub is_ordered : IsOrdered M d
  is_ordered = h.ordered

  pub k_below : k < M.rank
  k_below = let w : suc k ≤ M.rank = h.rows in omega arith

  pub p_below : p < M.rank
  p_below = let w : k < M.rank = k_below in omega arith

  -- an element of the basis is at the row where its coordinate is
  pub own_place : d.place x < M.rank → d.place x ≡ p
  own_place l = elim (cases_eq p (d.place x)) [
    | inl e ↦ sym e
    | inr n ↦ (let e : zero ≡ 1 = sym (others_zero M shaped d is_ordered x below c a l 0 p some p_below n) ∙ ones 0 some in absurd (omega arith))
  ]

  abbrev pub first : Trail
  first = taken M shaped d is_ordered x below c a p p_below ones own_place

  pub first_ordered : IsOrdered M first
  first_ordered = taken_ordered M shaped d is_ordered x below c a p p_below ones own_place

  abbrev pub chosen : Trail
  chosen = turned_rows M shaped first first_ordered p k p_below k_below

  pub chosen_ordered : IsOrdered M chosen
  chosen_ordered = turned_ordered M shaped first first_ordered p k p_below k_below

  pub chosen_here : chosen.label k ≡ x
  chosen_here = ap first.label (exchange_two p k) ∙ taken_here M shaped d is_ordered x below c a p p_below ones own_place

  pub chosen_after : (y : ℕ) → suc k ≤ y → y < M.rank + s → chosen.label y ≡ d.label y
  chosen_after y g l =
      ap first.label (exchange_other p k y (λ e. absurd (omega arith)) (λ e. absurd (omega arith)))
      ∙ taken_other M shaped d is_ordered x below c a p p_below ones own_place y (λ e. absurd (omega arith))
      (λ e. elim is_open [ inl b ↦ omega arith | inr b ↦ omega arith ])

  pub chosen_scalar : (f i : ℕ) → suc k ≤ i → chosen.scalar f i ≡ d.scalar f i
  chosen_scalar f i g =
      ap (first.scalar f) (exchange_other p k i (λ e. absurd (omega arith)) (λ e. absurd (omega arith)))
      ∙ scalar_other M shaped d is_ordered x below c a p p_below ones own_place f i (λ e. absurd (omega arith))

  -- the coordinates of an element
  pub chosen_coordinates : (minus : ℕ → ℕ → ℕ) → ((f i : ℕ) → f < count M → i < M.rank → plus (order M f) (c f i) (minus f i) ≡ 0)
      → (y : ℕ) (e : ℕ → ℕ → ℕ) → AreCoordinates M d y e → AreCoordinates M chosen y (pivoted_codes M p k minus e)
  chosen_coordinates minus opposite y e w =
      turned_coordinates M shaped first first_ordered p k p_below k_below y (cleared M p minus e)
      (taken_coordinates M shaped d is_ordered x below c a p p_below ones own_place minus opposite y e w)

  t : ArePlaced M (suc k) s groups d
  t = h.placed

  are_placed : ArePlaced M k s groups chosen
  are_placed = record {
    room = t.room;
    coordinates = λ j l.
        subst (λ y. AreCoordinates M chosen y (d.columns j)) (sym (chosen_after (M.rank + j) (let w : k < M.rank = k_below in omega arith) (omega arith)))
        (coordinates_kept M shaped d chosen (suc k) (λ i g b. chosen_after i g (omega arith)) (λ f i _ g _. chosen_scalar f i g)
        (d.label (M.rank + j)) (d.columns j) (t.coordinates j l) (t.zeros j l));
    zeros = λ j l f i b o. t.zeros j l f i b (omega arith);
    in_one_group = t.in_one_group;
  }

  module _ (m : Move) (N : Rep) (reach : ReachesForm M m N) (f' : Follows M chosen k s m) where
    pub follows_before_choice : Follows M d (suc k) s m
    follows_before_choice = record { same = λ q g l. f'.same q (omega arith) l ∙ chosen_after q g l }

    factor_is : (f i : ℕ) → f < count M → i < M.rank → IsScalar (order M f) (row_factor M chosen m f i)
    factor_is f i l b =
        times_scalar (order M f) (field M shaped f l) (inverse (order M f) (m.scalar f i)) (chosen.scalar f i)
        (inverse_scalar (order M f) (field M shaped f l) (m.scalar f i)
        (record { code = reach.valid.scalars f i l inside; nonzero = reach.valid.nonzero f i l inside }))
        (row_scalars M shaped chosen chosen_ordered f i l b)
      where
        inside : i < size M
        inside = let r : M.rank ≤ size M = is_ordered.room in omega arith

    -- where there is no scalar but 1
    only_ones : (f i l : ℕ) → f < count M → i < M.rank → l < M.rank → order M f ≡ 2 → row_factor M chosen m f i ≡ row_factor M chosen m f l
    only_ones f i l b w w' e =
        let u = factor_is f i b w in let v = factor_is f l b w' in
        let n : row_factor M chosen m f i ≢ 0 = u.nonzero in let n' : row_factor M chosen m f l ≢ 0 = v.nonzero in
        let a : row_factor M chosen m f i < order M f = u.code in let a' : row_factor M chosen m f l < order M f = v.code in
        omega arith

    same_factor : (f i : ℕ) → suc k ≤ i → row_factor M chosen m f i ≡ row_factor M d m f i
    same_factor f i g = ap (times (order M f) (inverse (order M f) (m.scalar f i))) (chosen_scalar f i g)

    tied : (f i l : ℕ) → f < count M → k ≤ i → i < M.rank → k ≤ l → l < M.rank → groups i ≡ groups l → row_factor M chosen m f i ≡ row_factor M chosen m f l
    tied f i l b q w q' w' e = elim (cases_lt k i) [
      | inl g ↦ elim (cases_lt k l) [
        | inl g' ↦ same_factor f i g ∙ (let z = h.determines in z.tied m N reach follows_before_choice f i l b g w g' w' e) ∙ sym (same_factor f l g')
        | inr n ↦ elim (h.fresh l i (omega arith) w (sym e)) [
          | inl z ↦ ap (row_factor M chosen m f) (sym z)
          | inr two ↦ only_ones f i l b w w' (two f b)
        ]
      ]
      | inr n ↦ elim (h.fresh i l (omega arith) w' e) [
        | inl z ↦ ap (row_factor M chosen m f) z
        | inr two ↦ only_ones f i l b w w' (two f b)
      ]
    ]

  pub chosen_trail : IsTrail M k s groups chosen
  chosen_trail = record {
    rows = (let w : k < M.rank = k_below in omega arith);
    ordered = chosen_ordered;
    placed = are_placed;
    determines = record {
      tied = λ m N reach f'. tied m N reach f';
      begins = λ m N reach f'. (let z = h.determines in z.begins m N reach (follows_before_choice m N reach f'));
    };
    fresh = λ i l b. h.fresh i l (omega arith);
  }
