-- The trail after an element is placed.
use Rattle.std.proofs.Common.{◌≡◌, ◌≢◌, ◌⊎◌, inl, inr, refl, ℕ, ◌+◌, ◌<◌, ◌≤◌, sym, ◌∙◌, ap, subst, arith, cond}
use Rattle.std.specs.Bool.{nat_lt}
use Rattle.std.proofs.lemmas.Bool.{cases_lt, cases_eq, lt-ltb, le-ltb}
use Rattle.matroid_theory.specs.Field.{IsField, times, inverse}
use Rattle.matroid_theory.specs.Rep.{Rep, count, size, order, matrix, IsShaped}
use Rattle.matroid_theory.specs.Move.{Move}
use Rattle.matrix_lemmas.proofs.Sums.{times_zero, combination-scaled, sum_same}
use Rattle.matrix_lemmas.proofs.Steps.{pivot_row}
use Rattle.matrix_lemmas.proofs.Ranks.{IsIndependent-codes}
use Rattle.form_trails.specs.Trail.{ReachesForm, Trail, AreCoordinates, AreZeroBefore, Follows, IsOrdered, ArePlaced, IsTrail, TiesGroups, row_factor}
use Rattle.form_trails.specs.Least.{scaled, MakesOnes}
use Rattle.matroid_theory.specs.Exchange.{exchange}
use Rattle.form_trails.proofs.Scalars.{IsScalar, one_scalar, inverse_scalar, times_scalar, undone, times_turn}
use Rattle.matrix_lemmas.proofs.Exchanges.{exchange_one, exchange_other, exchanged_permutation}
use Rattle.form_trails.proofs.Coordinates.{row_scalars}
use Rattle.form_trails.proofs.Entries.{field, AreRowScalars}
use Rattle.form_trails.proofs.LeastNext.{next_is_own, met_rows}

-- the rows scaled
module _ (M : Rep) (shaped : IsShaped M) (d d' : Trail) (same : (l : ℕ) → l < M.rank → d'.label l ≡ d.label l) (scalars : AreRowScalars M d.scalar)
    (by : ℕ → ℕ → ℕ) (by_scalars : AreRowScalars M by)
    (scaled_by : (f i : ℕ) → f < count M → i < M.rank → d'.scalar f i ≡ times (order M f) (d.scalar f i) (inverse (order M f) (by f i))) where
  -- coordinates v whose multiples are the coordinates c with the rows scaled
  pub rescaled : (x : ℕ) (c v : ℕ → ℕ → ℕ) (multiple : ℕ → ℕ) → AreCoordinates M d x c → ((f i : ℕ) → f < count M → i < M.rank → v f i < order M f)
      → ((f : ℕ) → f < count M → IsScalar (order M f) (multiple f))
      → ((f i : ℕ) → f < count M → i < M.rank → times (order M f) (by f i) (c f i) ≡ times (order M f) (multiple f) (v f i)) → AreCoordinates M d' x v
  rescaled x c v multiple a codes w e = record {
    codes = codes;
    scale = λ f. times (order M f) (inverse (order M f) (multiple f)) (a.scale f);
    scale_code = λ f l. let F = field M shaped f l in F.times_below _ _;
    scale_nonzero = λ f l. let t = times_scalar (order M f) (field M shaped f l) (inverse (order M f) (multiple f)) (a.scale f)
        (inverse_scalar (order M f) (field M shaped f l) (multiple f) (w f l))
        (record { code = a.scale_code f l; nonzero = a.scale_nonzero f l }) in t.nonzero;
    combined = λ f i l b.
        sum_same (order M f) (field M shaped f l) M.rank (λ j. times (order M f) (matrix M f i (d'.label j)) (times (order M f) (d'.scalar f j) (v f j)))
        (λ j. times (order M f) (matrix M f i (d.label j)) (times (order M f) (inverse (order M f) (multiple f)) (times (order M f) (d.scalar f j) (c f j))))
        (λ j o. (λ t. times (order M f) (matrix M f i (same j o t)) (term f j l o t)))
        ∙ combination-scaled (order M f) (field M shaped f l) M.rank (λ i l. matrix M f i (d.label l))
        (inverse (order M f) (multiple f)) (λ j. times (order M f) (d.scalar f j) (c f j)) i
        ∙ ap (times (order M f) (inverse (order M f) (multiple f))) (a.combined f i l b)
        ∙ sym (let F = field M shaped f l in F.times_assoc (inverse (order M f) (multiple f)) (a.scale f) (matrix M f i x));
  }
    where
      -- (t u^-1) v = w^-1 (t c)
      term : (f j : ℕ) → f < count M → j < M.rank →
          times (order M f) (d'.scalar f j) (v f j) ≡ times (order M f) (inverse (order M f) (multiple f))
          (times (order M f) (d.scalar f j) (c f j))
      term f j l o =
          ap (λ y. times (order M f) y (v f j)) (scaled_by f j l o)
          ∙ F.times_assoc (d.scalar f j) (inverse (order M f) (by f j)) (v f j)
          ∙ ap (times (order M f) (d.scalar f j)) (ap (times (order M f) (inverse (order M f) (by f j))) known
          ∙ times_turn (order M f) F (inverse (order M f) (by f j)) (inverse (order M f) (multiple f)) (times (order M f) (by f j) (c f j))
          ∙ ap (times (order M f) (inverse (order M f) (multiple f))) (undone (order M f) F (by f j) (c f j) (by_scalars f j l o) (a.codes f j l o)))
          ∙ times_turn (order M f) F (d.scalar f j) (inverse (order M f) (multiple f)) (c f j)
        where
          F : IsField (order M f)
          F = field M shaped f l

          known : v f j ≡ times (order M f) (inverse (order M f) (multiple f)) (times (order M f) (by f j) (c f j))
          known = sym (ap (times (order M f) (inverse (order M f) (multiple f))) (e f j l o)
              ∙ undone (order M f) F (multiple f) (v f j) (w f l) (codes f j l o))

module _ (M : Rep) (shaped : IsShaped M) (some : 0 < count M) (k s : ℕ) (groups : ℕ → ℕ) (d : Trail) (h : IsTrail M k s groups d)
    (x : ℕ) (below : x < size M) (is_open : M.rank + s ≤ d.place x) (c : ℕ → ℕ → ℕ) (a : AreCoordinates M d x c) (z : AreZeroBefore M k c)
    (own : ℕ → ℕ → ℕ) (ones : MakesOnes M groups c own) (more : ℕ → ℕ) (ties : TiesGroups M k groups c more) where
  abbrev here : ℕ
  here = M.rank + s

  -- the element in the next place, and the rows scaled by the factors
  abbrev pub placed : Trail
  placed = record {
    label = λ y. d.label (exchange here (d.place x) y);
    place = λ y. exchange here (d.place x) (d.place y);
    scalar = λ f i. times (order M f) (d.scalar f i) (inverse (order M f) (own f (groups i)));
    columns = λ j f i. cond (nat_lt j s) (d.columns j f i) (scaled M groups own c f i);
  }

  o : IsOrdered M d
  o = h.ordered

  place_below : d.place x < size M
  place_below = let w = o.labels in w.inverse_below x below

  here_below : here < size M
  here_below = let b : d.place x < size M = place_below in omega arith

  pub label_before : (y : ℕ) → y < M.rank + s → placed.label y ≡ d.label y
  label_before y l = ap d.label (exchange_other here (d.place x) y (λ e. absurd (omega arith)) (λ e. absurd (omega arith)))

  pub label_here : placed.label (M.rank + s) ≡ x
  label_here = let w = o.labels in ap d.label (exchange_one here (d.place x)) ∙ w.back x below

  label_row : (y : ℕ) → y < M.rank → placed.label y ≡ d.label y
  label_row y l = label_before y (omega arith)

  label_placed : (j : ℕ) → j < s → placed.label (M.rank + j) ≡ d.label (M.rank + j)
  label_placed j l = label_before (M.rank + j) (omega arith)

  own_scalar : (f g : ℕ) → f < count M → IsScalar (order M f) (own f g)
  own_scalar f g l = record { code = ones.codes f g l; nonzero = ones.nonzero f g l }

  scalar_is : AreRowScalars M placed.scalar
  scalar_is f i l b = times_scalar (order M f) (field M shaped f l) (d.scalar f i) (inverse (order M f) (own f (groups i))) (row_scalars M shaped d o f i l b)
      (inverse_scalar (order M f) (field M shaped f l) (own f (groups i)) (own_scalar f (groups i) l))

  ordered : IsOrdered M placed
  ordered = record {
    labels = exchanged_permutation here (d.place x) (size M) d.label d.place here_below place_below o.labels;
    room = o.room;
    independent = λ f l. IsIndependent-codes (order M f) M.rank M.rank (λ i l. matrix M f i (d.label l))
        (λ i l. matrix M f i (placed.label l)) _ (λ i j b b'. ap (matrix M f i) (sym (label_row j b'))) (o.independent f l);
    scalar_code = λ f i l b. let t = scalar_is f i l b in t.code;
    scalar_nonzero = λ f i l b. let t = scalar_is f i l b in t.nonzero;
  }

  pub columns_before : (j : ℕ) → j < s → placed.columns j ≡ d.columns j
  columns_before j l = ap (λ b f i. cond b (d.columns j f i) (scaled M groups own c f i)) (lt-ltb j s l)

  pub columns_here : (j : ℕ) → s ≤ j → placed.columns j ≡ scaled M groups own c
  columns_here j g = ap (λ b f i. cond b (d.columns j f i) (scaled M groups own c f i)) (le-ltb j s g)

  p : ArePlaced M k s groups d
  p = h.placed

  -- the rows scaled, at this trail
  pub placed_rescaled : (y : ℕ) (c v : ℕ → ℕ → ℕ) (multiple : ℕ → ℕ) → AreCoordinates M d y c → ((f i : ℕ) → f < count M → i < M.rank → v f i < order M f)
      → ((f : ℕ) → f < count M → IsScalar (order M f) (multiple f))
      → ((f i : ℕ) → f < count M → i < M.rank →
      times (order M f) (own f (groups i)) (c f i) ≡ times (order M f) (multiple f) (v f i)) → AreCoordinates M placed y v
  placed_rescaled = rescaled M shaped d placed label_row (row_scalars M shaped d o) (λ f i. own f (groups i))
      (λ f i l _. own_scalar f (groups i) l) (λ f i _ _. refl)

  pub placed_coordinates : (y : ℕ) (c : ℕ → ℕ → ℕ) → AreCoordinates M d y c → AreCoordinates M placed y (scaled M groups own c)
  placed_coordinates y c a = placed_rescaled y c (scaled M groups own c) (λ _. 1) a
      (λ f i l b. let F = field M shaped f l in F.times_below _ _) (λ f l. one_scalar (order M f) (field M shaped f l))
      (λ f i l b. let F = field M shaped f l in sym (F.times_one (scaled M groups own c f i) (F.times_below _ _)))

  -- a column placed before keeps its codes
  multiple_by : (f j : ℕ) → ((i : ℕ) × (i < M.rank) × (d.columns j f i ≢ 0)) ⊎ ((i : ℕ) → i < M.rank → d.columns j f i ≡ 0) → ℕ
  multiple_by f j (inl w) = own f (groups w.0)
  multiple_by f j (inr v) = 1

  multiple_is : (f j : ℕ) (w : ((i : ℕ) × (i < M.rank) × (d.columns j f i ≢ 0)) ⊎ ((i : ℕ) → i < M.rank → d.columns j f i ≡ 0)) →
      f < count M → IsScalar (order M f) (multiple_by f j w)
  unfolding multiple_by
  multiple_is f j (inl w) l = own_scalar f (groups w.0) l
  multiple_is f j (inr v) l = one_scalar (order M f) (field M shaped f l)

  multiple_at : (f j i : ℕ) (w : ((i : ℕ) × (i < M.rank) × (d.columns j f i ≢ 0)) ⊎ ((i : ℕ) → i < M.rank → d.columns j f i ≡ 0)) →
      j < s → f < count M → i < M.rank
      → times (order M f) (own f (groups i)) (d.columns j f i) ≡ times (order M f) (multiple_by f j w) (d.columns j f i)
  unfolding multiple_by
  multiple_at f j i (inl w) q l b = elim (cases_eq (d.columns j f i) 0) [
    | inl e ↦ nothing (own f (groups i)) e ∙ sym (nothing (own f (groups w.0)) e)
    | inr ne ↦ ap (λ g. times (order M f) (own f g) (d.columns j f i)) (p.in_one_group j f f i w.0 q l l b w.1 ne w.2)
  ]
    where
      nothing : (y : ℕ) → d.columns j f i ≡ 0 → times (order M f) y (d.columns j f i) ≡ 0
      nothing y e = ap (times (order M f) y) e ∙ times_zero (order M f) (field M shaped f l) y
  multiple_at f j i (inr v) q l b =
      ap (times (order M f) (own f (groups i))) (v i b) ∙ times_zero (order M f) (field M shaped f l) (own f (groups i))
      ∙ sym (ap (times (order M f) 1) (v i b) ∙ times_zero (order M f) (field M shaped f l) 1)

  old_coordinates : (j : ℕ) → j < s → AreCoordinates M placed (d.label (M.rank + j)) (d.columns j)
  old_coordinates j l =
      placed_rescaled (d.label (M.rank + j)) (d.columns j) (d.columns j) (λ f. multiple_by f j (pivot_row M.rank (d.columns j f))) (p.coordinates j l)
      (let v = p.coordinates j l in v.codes) (λ f b. multiple_is f j (pivot_row M.rank (d.columns j f)) b)
      (λ f i b o. multiple_at f j i (pivot_row M.rank (d.columns j f)) l b o)

  scaled_zero : (f i : ℕ) → f < count M → c f i ≡ 0 → scaled M groups own c f i ≡ 0
  scaled_zero f i l e = ap (times (order M f) (own f (groups i))) e ∙ times_zero (order M f) (field M shaped f l) (own f (groups i))

  scaled_nonzero : (f i : ℕ) → f < count M → scaled M groups own c f i ≢ 0 → c f i ≢ 0
  scaled_nonzero f i l ne e = ne (scaled_zero f i l e)

  are_placed : ArePlaced M k (s + 1) more placed
  are_placed = record {
    room = let b : here < size M = here_below in omega arith;
    coordinates = λ j l. elim (cases_lt j s) [
      | inl b ↦ subst (λ y. AreCoordinates M placed y (placed.columns j)) (sym (label_placed j b))
          (subst (AreCoordinates M placed (d.label (M.rank + j))) (sym (columns_before j b)) (old_coordinates j b))
      | inr g ↦ (let e : s ≡ j = omega arith in
          subst (λ y. AreCoordinates M placed y (placed.columns j)) (sym label_here ∙ ap (λ y. placed.label (M.rank + y)) e)
          (subst (AreCoordinates M placed x) (sym (columns_here j g)) (placed_coordinates x c a)))
    ];
    zeros = λ j l. elim (cases_lt j s) [
      | inl b ↦ subst (AreZeroBefore M k) (sym (columns_before j b)) (p.zeros j b)
      | inr g ↦ subst (AreZeroBefore M k) (sym (columns_here j g)) (λ f i q b. scaled_zero f i q (z f i q b))
    ];
    in_one_group = λ j f g i l q b b' t t' ne ne'. elim (cases_lt j s) [
      | inl w ↦ ties.kept i l t t'
          (p.in_one_group j f g i l w b b' t t' (λ e. ne (ap (λ (y : ℕ → ℕ → ℕ). y f i) (columns_before j w) ∙ e))
          (λ e. ne' (ap (λ (y : ℕ → ℕ → ℕ). y g l) (columns_before j w) ∙ e)))
      | inr w ↦ ties.together f g i l b b' t t'
          (scaled_nonzero f i b (λ e. ne (ap (λ (y : ℕ → ℕ → ℕ). y f i) (columns_here j w) ∙ e)))
          (scaled_nonzero g l b' (λ e. ne' (ap (λ (y : ℕ → ℕ → ℕ). y g l) (columns_here j w) ∙ e)))
    ];
  }

  module _ (m : Move) (N : Rep) (reach : ReachesForm M m N) (f' : Follows M placed k (s + 1) m) where
    pub follows_before : Follows M d k s m
    follows_before = record { same = λ q g l. f'.same q g (omega arith) ∙ label_before q l }

    is_next : m.label (M.rank + s) ≡ x
    is_next = f'.same (M.rank + s) (let w : k ≤ M.rank = h.rows in omega arith) (omega arith) ∙ label_here

    place_next : M.rank + s ≤ m.place x
    place_next =
        let w = reach.valid.labels in
        let e : m.place x ≡ M.rank + s = ap m.place (sym is_next) ∙ w.there (M.rank + s) here_below in omega arith

    -- the factor of a row, with that of its group taken off
    abbrev left : ℕ → ℕ → ℕ
    left f i = times (order M f) (row_factor M d m f i) (inverse (order M f) (own f (groups i)))

    row_left : (f i : ℕ) → f < count M → row_factor M placed m f i ≡ left f i
    row_left f i l = let F = field M shaped f l in
        sym (F.times_assoc (inverse (order M f) (m.scalar f i)) (d.scalar f i) (inverse (order M f) (own f (groups i))))

    same_left : (f i l : ℕ) → f < count M → k ≤ i → i < M.rank → k ≤ l → l < M.rank → groups i ≡ groups l → left f i ≡ left f l
    same_left f i l b q t q' t' e = let w = h.determines in
        (λ u. times (order M f) (w.tied m N reach follows_before f i l b q t q' t' e u) (inverse (order M f) (own f (e u))))

    met_after : (f i : ℕ) → f < count M → c f i ≢ 0 → k ≤ i
    met_after f i l ne = elim (cases_lt i k) [ inl b ↦ absurd (ne (z f i l b)) | inr g ↦ g ]

    tied : (f i l : ℕ) → f < count M → k ≤ i → i < M.rank → k ≤ l → l < M.rank → more i ≡ more l → row_factor M placed m f i ≡ row_factor M placed m f l
    tied f i l b q t q' t' e =
        row_left f i b ∙ (elim (ties.merged i l q t q' t' e) [
          | inl g ↦ same_left f i l b q t q' t' g
          | inr w ↦ (let (i', bi, gi, ni) = w.0 in let (l', bl, gl, nl) = w.1 in
              same_left f i i' b q t (met_after f i' b (ni f b)) bi (sym gi)
              ∙ met_rows M shaped some k s groups d h m N reach follows_before x below place_next c a z own ones is_next f i' l' b bi bl (ni f b) (nl f b)
              ∙ same_left f l' l b (met_after f l' b (nl f b)) bl q' t' gl)
        ]) ∙ sym (row_left f l b)

  pub placed_trail : IsTrail M k (s + 1) more placed
  placed_trail = record {
    rows = h.rows;
    ordered = ordered;
    placed = are_placed;
    determines = record {
      tied = λ m N reach f'. tied m N reach f';
      begins = λ m N reach f' j f i q l b. elim (cases_lt j s) [
        | inl w ↦ (let t = h.determines in t.begins m N reach (follows_before m N reach f') j f i w l b)
            ∙ sym (ap (λ (y : ℕ → ℕ → ℕ). y f i) (columns_before j w))
        | inr w ↦ (let e : s ≡ j = omega arith in
            ap (λ j. matrix N f i (M.rank + j)) (sym e)
            ∙ next_is_own M shaped some k s groups d h m N reach (follows_before m N reach f') x below
            (place_next m N reach f') c a z own ones (is_next m N reach f') f i l b
            ∙ sym (ap (λ (y : ℕ → ℕ → ℕ). y f i) (columns_here j w)))
      ];
    };
    fresh = ties.fresh;
  }
