-- The next column of a form is the least of those that the open elements can have, and that of its own element.
use Rattle.std.proofs.Common.{◌≡◌, ◌≢◌, ◌⊎◌, inl, inr, refl, ℕ, ◌+◌, ◌-◌, ◌*◌, ◌^◌, ◌<◌, ◌≤◌, length, sym, ◌∙◌, ap, subst, arith, slice_index}
use Rattle.std.proofs.lemmas.Bool.{cases_lt, cases_eq}
use Rattle.std.specs.declared.cmp.Ordering.TheVariants.{Greater}
use Rattle.std.specs.Cmp.Lexicographic.{slice_cmp}
use Rattle.std.specs.Ordering.{nat_cmp}
use Rattle.matroid_theory.specs.Field.{IsField, times, inverse}
use Rattle.matroid_theory.specs.declared.Mode.TheVariants.{Linear}
use Rattle.matroid_theory.specs.Rep.{Rep, Shape, count, size, order, matrix, shape, IsShaped, IsStandard}
use Rattle.matroid_theory.specs.Move.{Move, AreEquivalent}
use Rattle.matrix_lemmas.proofs.Sums.{times_zero}
use Rattle.matrix_lemmas.proofs.Bases.{search_below}
use Rattle.matroid_laws.proofs.Equivalence.{equivalent-symmetric, equivalent-transitive}
use Rattle.matroid_laws.proofs.GroupLeast.{group_least}
use Rattle.form_trails.specs.Trail.{ReachesForm, Trail, AreCoordinates, AreZeroBefore, Follows, IsTrail, row_factor}
use Rattle.form_trails.specs.Least.{number, scaled, MakesOnes}
use Rattle.form_trails.proofs.Scalars.{IsScalar, one_scalar, inverse_scalar, times_scalar, zero_factor, undone, cancelled, inverse_only}
use Rattle.form_trails.proofs.Coordinates.{row_scalars}
use Rattle.form_trails.proofs.Entries.{field, column_factor, column_factor_scalar, reached_entry}
use Rattle.form_trails.proofs.Columns.{column, column_length, column_code, number_entries, number_at_most, number_same, number_from, number_within, next_at_most}
use Rattle.form_trails.proofs.Reached.{some_before}
use Rattle.form_trails.proofs.Next.{AreGroupScalars, IsNext, exchange_open}

module _ (M : Rep) (shaped : IsShaped M) (some : 0 < count M) (k s : ℕ) (groups : ℕ → ℕ) (d : Trail) (h : IsTrail M k s groups d)
    (m : Move) (N : Rep) (reach : ReachesForm M m N) (follows : Follows M d k s m) where
  n_shaped : IsShaped N
  n_shaped = reach.takes.shaped

  n_same : shape N ≡ shape M
  n_same = reach.takes.same_shape

  n_standard : IsStandard N
  n_standard = let f = reach.form in f.standard

  rows : (i : ℕ) → k ≤ i → i < M.rank → m.label i ≡ d.label i
  rows i a b = follows.same i a (omega arith)

  same_class : AreEquivalent Linear N M
  same_class = equivalent-symmetric Linear M N (record { shaped = shaped; move = m; valid = reach.valid; takes = reach.takes })

  -- an open element, with the factors that make ones
  module _ (x : ℕ) (below : x < size M) (is_open : M.rank + s ≤ m.place x) (c : ℕ → ℕ → ℕ) (a : AreCoordinates M d x c) (z : AreZeroBefore M k c)
      (own : ℕ → ℕ → ℕ) (ones : MakesOnes M groups c own) where
    own_scalars : AreGroupScalars M own
    own_scalars f g l = record { code = ones.codes f g l; nonzero = ones.nonzero f g l }

    abbrev p : ℕ
    p = M.rank + s

    p_below : p < size M
    p_below = let w = reach.valid.labels in let b : m.place x < size M = w.inverse_below x below in omega arith

    abbrev L : Rep
    L = (exchange_open M shaped some k s groups d h m N reach follows own own_scalars x below is_open c a z).0

    next : IsNext M shaped some k s groups d h m N reach follows own own_scalars x below is_open c a z L
    next = (exchange_open M shaped some k s groups d h m N reach follows own own_scalars x below is_open c a z).1

    l_shaped : IsShaped L
    l_shaped = let w = next in let e = w.equivalent in e.takes.shaped

    l_same : shape L ≡ shape M
    l_same = let w = next in let e = w.equivalent in e.takes.same_shape

    -- the columns before it are the same
    same_before : (j f i : ℕ) → j < p → f < count M → i < M.rank → matrix N f i j ≡ matrix L f i j
    same_before j f i l b o = elim (cases_lt j M.rank) [
      | inl q ↦ n_standard.units f i j (in_count N n_same b) (in_rank N n_same o) (in_rank N n_same q)
          ∙ sym (let w = next in let t = w.standard in t.units f i j (in_count L l_same b) (in_rank L l_same o) (in_rank L l_same q))
      | inr g ↦ (let e : M.rank + (j - M.rank) ≡ j = omega arith in
          subst (λ j. matrix N f i j ≡ matrix L f i j) e
          ((let t = h.determines in t.begins m N reach follows (j - M.rank) f i (omega arith) b o)
          ∙ sym (let w = next in w.as_before (j - M.rank) f i (omega arith) b o)))
    ]
      where
        in_count : (P : Rep) → shape P ≡ shape M → {f : ℕ} → f < count M → f < count P
        in_count P e {f} b = subst (λ (S : Shape). f < length S.factors) (sym e) b

        in_rank : (P : Rep) → shape P ≡ shape M → {i : ℕ} → i < M.rank → i < P.rank
        in_rank P e {i} b = subst (λ (S : Shape). i < S.rank) (sym e) b

    l_number : number M (λ f i. matrix L f i p) ≡ number M (scaled M groups own c)
    l_number = number_entries M (λ f i. matrix L f i p) (scaled M groups own c) (let w = next in w.next)

    -- the form's next column isn't above the element's
    pub next_at_most_open : number M (λ f i. matrix N f i p) ≤ number M (scaled M groups own c)
    next_at_most_open =
        subst (λ v. number M (λ f i. matrix N f i p) ≤ v) l_number
        (next_at_most M N L n_shaped l_shaped n_same l_same p p_below same_before
        (let f = reach.form in let w = next in f.least L w.standard (equivalent-transitive Linear N M L same_class w.equivalent)))

    -- and lies in the rows from k on
    pub next_within : number M (λ f i. matrix N f i p) < 16 ^ ((M.rank - k) * count M)
    next_within =
        let n : number M (λ f i. matrix N f i p) ≤ number M (scaled M groups own c) = next_at_most_open in
        let w : number M (λ f i. matrix L f i p) < 16 ^ ((M.rank - k) * count M) =
        number_within M L l_shaped l_same p p_below k (h.rows)
        (λ f i l b. (let w = next in w.next f i l (let r : k ≤ M.rank = h.rows in omega arith))
        ∙ ap (times (order M f) (own f (groups i))) (z f i l b) ∙ times_zero (order M f) (field M shaped f l) (own f (groups i))) in
        let e : number M (λ f i. matrix L f i p) ≡ number M (scaled M groups own c) = l_number in omega arith

    -- ---- where the element is the form's own

    module _ (is_next : m.label p ≡ x) where
      a' : AreCoordinates M d (m.label p) c
      a' = subst (λ y. AreCoordinates M d y c) (sym is_next) a

      abbrev factor : ℕ → ℕ
      factor = column_factor M shaped d (row_scalars M shaped d h.ordered) k m N n_standard reach.valid reach.takes rows p p_below c a' z

      factor_scalar : (f : ℕ) → f < count M → IsScalar (order M f) (factor f)
      factor_scalar = column_factor_scalar M shaped d (row_scalars M shaped d h.ordered) k m N n_standard reach.valid reach.takes rows p p_below c a' z

      n_entry : (f i : ℕ) → f < count M → i < M.rank → matrix N f i p ≡ times (order M f) (factor f) (times (order M f) (row_factor M d m f i) (c f i))
      n_entry = reached_entry M shaped d (row_scalars M shaped d h.ordered) k m N n_standard reach.valid reach.takes rows p p_below c a' z

      row_factor_scalar : (f i : ℕ) → f < count M → i < M.rank → IsScalar (order M f) (row_factor M d m f i)
      row_factor_scalar f i l b =
          times_scalar (order M f) (field M shaped f l) (inverse (order M f) (m.scalar f i)) (d.scalar f i)
          (inverse_scalar (order M f) (field M shaped f l) (m.scalar f i)
          (record { code = reach.valid.scalars f i l inside; nonzero = reach.valid.nonzero f i l inside }))
          (row_scalars M shaped d h.ordered f i l b)
        where
          inside : i < size M
          inside = let o = h.ordered in let r : M.rank ≤ size M = o.room in omega arith

      -- a row from k on of a group
      Chosen : ℕ → Type 0
      Chosen g = ((i : ℕ) × (i < M.rank) × ((k ≤ i) × (groups i ≡ g))) ⊎ ((i : ℕ) → i < M.rank → (k ≤ i) → groups i ≢ g)

      chosen : (g : ℕ) → Chosen g
      unfolding Chosen
      chosen g = search_below M.rank (λ i. (k ≤ i) × (groups i ≡ g)) (λ i. (k ≤ i) → groups i ≢ g) (λ i _. elim (cases_lt i k) [
        | inl b ↦ inr (λ q. absurd (omega arith))
        | inr q ↦ elim (cases_eq (groups i) g) [ inl e ↦ inl (q, e) | inr n ↦ inr (λ _. n) ]
      ])

      multiple_by : (f g : ℕ) → Chosen g → ℕ
      unfolding Chosen
      multiple_by f g (inl w) = times (order M f) (factor f) (times (order M f) (row_factor M d m f w.0) (inverse (order M f) (own f g)))
      multiple_by f g (inr n) = 1

      multiple_is : (f g : ℕ) (w : Chosen g) → f < count M → IsScalar (order M f) (multiple_by f g w)
      unfolding Chosen multiple_by
      multiple_is f g (inl w) l =
          times_scalar (order M f) (field M shaped f l) (factor f)
          (times (order M f) (row_factor M d m f w.0) (inverse (order M f) (own f g))) (factor_scalar f l)
          (times_scalar (order M f) (field M shaped f l) (row_factor M d m f w.0) (inverse (order M f) (own f g))
          (row_factor_scalar f w.0 l w.1) (inverse_scalar (order M f) (field M shaped f l) (own f g) (own_scalars f g l)))
      multiple_is f g (inr n) l = one_scalar (order M f) (field M shaped f l)

      multiple_at : (f i : ℕ) (w : Chosen (groups i)) → f < count M → i < M.rank → k ≤ i →
          matrix N f i p ≡ times (order M f) (multiple_by f (groups i) w) (scaled M groups own c f i)
      unfolding Chosen multiple_by
      multiple_at f i (inl w) l b q =
          n_entry f i l b
          ∙ ap (times (order M f) (factor f)) (sym (F.times_assoc (row_factor M d m f w.0) (inverse (order M f) (own f (groups i))) (scaled M groups own c f i)
          ∙ (λ t. times (order M f) (sym same t) (undone (order M f) F (own f (groups i)) (c f i) (own_scalars f (groups i) l) (a.codes f i l b) t))))
          ∙ sym (F.times_assoc (factor f) (times (order M f) (row_factor M d m f w.0) (inverse (order M f) (own f (groups i)))) (scaled M groups own c f i))
        where
          F : IsField (order M f)
          F = field M shaped f l

          same : row_factor M d m f i ≡ row_factor M d m f w.0
          same = let t = h.determines in let o = w.2 in t.tied m N reach follows f i w.0 l q b o.0 w.1 (sym o.1)
      multiple_at f i (inr n) l b q = absurd (n i b q refl)

      entries : (i f : ℕ) → i < M.rank → f < count M → matrix N f i p ≡ times (order M f) (multiple_by f (groups i) (chosen (groups i))) (matrix L f i p)
      entries i f b l = elim (cases_lt i k) [
        | inr q ↦ multiple_at f i (chosen (groups i)) l b q ∙ ap (times (order M f) (multiple_by f (groups i) (chosen (groups i))))
            (sym (let w = next in w.next f i l b))
        | inl q ↦ (let F = field M shaped f l in
            n_entry f i l b ∙ ap (λ v. times (order M f) (factor f) (times (order M f) (row_factor M d m f i) v)) (z f i l q)
            ∙ ap (times (order M f) (factor f)) (times_zero (order M f) F (row_factor M d m f i)) ∙ times_zero (order M f) F (factor f)
            ∙ sym (ap (times (order M f) (multiple_by f (groups i) (chosen (groups i))))
            ((let w = next in w.next f i l b) ∙ ap (times (order M f) (own f (groups i))) (z f i l q)
            ∙ times_zero (order M f) F (own f (groups i)))
            ∙ times_zero (order M f) F (multiple_by f (groups i) (chosen (groups i)))))
      ]

      l_code : (f i : ℕ) → f < count M → i < M.rank → slice_index (column L p) (i * count M + f) ≡ scaled M groups own c f i
      l_code f i l b = sym (column_code M L l_shaped l_same p p_below f i) ∙ (let w = next in w.next f i l b)

      own_least : slice_cmp nat_cmp (column L p) (column N p) ≢ Greater
      own_least =
          group_least (count M) M.rank (order M) (field M shaped) (column L p) (column N p) groups (λ f g. multiple_by f g (chosen g))
          (column_length M L l_shaped l_same p p_below) (column_length M N n_shaped n_same p p_below)
          (λ i f b l. subst (λ v. v < order M f) (sym (l_code f i l b)) (let F = field M shaped f l in F.times_below _ _))
          (λ i f b l zs ne. l_code f i l b ∙ ones.leads f i l b
          (λ j q e. zero_factor (order M f) (field M shaped f l) (own f (groups j)) (c f j) (own_scalars f (groups j) l)
          (a.codes f j l (omega arith)) (sym (l_code f j l (omega arith)) ∙ zs j q e))
          (λ e. ne (l_code f i l b ∙ ap (times (order M f) (own f (groups i))) e ∙ times_zero (order M f) (field M shaped f l) (own f (groups i)))))
          (λ f g l. (let w = multiple_is f g (chosen g) l in w.code)) (λ f g l. (let w = multiple_is f g (chosen g) l in w.nonzero))
          (λ i f b l. sym (column_code M N n_shaped n_same p p_below f i) ∙ entries i f b l
          ∙ ap (times (order M f) (multiple_by f (groups i) (chosen (groups i)))) (column_code M L l_shaped l_same p p_below f i))

      same_number : number M (λ f i. matrix N f i p) ≡ number M (λ f i. matrix L f i p)
      same_number =
          let u : number M (λ f i. matrix L f i p) ≤ number M (λ f i. matrix N f i p) =
          number_at_most M L N l_shaped n_shaped l_same n_same p p_below own_least in
          let v : number M (λ f i. matrix N f i p) ≤ number M (scaled M groups own c) = next_at_most_open in
          let e : number M (λ f i. matrix L f i p) ≡ number M (scaled M groups own c) = l_number in omega arith

      -- it has the element's least column
      pub next_is_own : (f i : ℕ) → f < count M → i < M.rank → matrix N f i p ≡ scaled M groups own c f i
      next_is_own f i l b = number_same M N L n_shaped l_shaped n_same l_same p p_below same_number f i ∙ (let w = next in w.next f i l b)

      pub next_number : number M (λ f i. matrix N f i p) ≡ number M (scaled M groups own c)
      next_number = number_entries M (λ f i. matrix N f i p) (scaled M groups own c) next_is_own

      -- so the rows that it meets have one factor, where that of the group is taken off
      met : (f i : ℕ) → f < count M → i < M.rank → c f i ≢ 0 →
          times (order M f) (row_factor M d m f i) (inverse (order M f) (own f (groups i))) ≡ inverse (order M f) (factor f)
      met f i l b ne =
          inverse_only (order M f) F (factor f) (times (order M f) (row_factor M d m f i) (inverse (order M f) (own f (groups i))))
          (factor_scalar f l) (F.times_below _ _)
          (sym (F.times_assoc (factor f) (row_factor M d m f i) (inverse (order M f) (own f (groups i))))
          ∙ ap (λ v. times (order M f) v (inverse (order M f) (own f (groups i)))) product
          ∙ F.times_inverse (own f (groups i)) (ones.codes f (groups i) l) (ones.nonzero f (groups i) l))
        where
          F : IsField (order M f)
          F = field M shaped f l

          product : times (order M f) (factor f) (row_factor M d m f i) ≡ own f (groups i)
          product =
              cancelled (order M f) F (c f i) (times (order M f) (factor f) (row_factor M d m f i)) (own f (groups i))
              (record { code = a.codes f i l b; nonzero = ne }) (F.times_below _ _) (ones.codes f (groups i) l)
              (F.times_comm (c f i) (times (order M f) (factor f) (row_factor M d m f i))
              ∙ F.times_assoc (factor f) (row_factor M d m f i) (c f i) ∙ sym (n_entry f i l b) ∙ next_is_own f i l b
              ∙ F.times_comm (own f (groups i)) (c f i))

      pub met_rows : (f i j : ℕ) → f < count M → i < M.rank → j < M.rank → c f i ≢ 0 → c f j ≢ 0
          → times (order M f) (row_factor M d m f i) (inverse (order M f) (own f (groups i))) ≡ times (order M f)
          (row_factor M d m f j) (inverse (order M f) (own f (groups j)))
      met_rows f i j l b o ne ne' = met f i l b ne ∙ sym (met f j l o ne')

  -- an element with a code before row k, in the next place
  module _ (p_below : M.rank + s < size M) (c : ℕ → ℕ → ℕ) (a : AreCoordinates M d (m.label (M.rank + s)) c) (f i : ℕ)
      (l : f < count M) (b : i < k) (ne : c f i ≢ 0) where
    pub next_outside : 16 ^ ((M.rank - k) * count M) ≤ number M (λ f i. matrix N f i (M.rank + s))
    next_outside =
        let w = some_before M shaped some d h.ordered k h.rows m N n_standard reach.valid reach.takes rows (M.rank + s) p_below c a f i l b ne in
        number_from M N n_shaped n_same (M.rank + s) p_below k f w.0 l w.1 h.rows w.2
