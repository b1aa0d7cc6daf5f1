-- A candidate of an ordered basis and row scalars is not above what any move with this basis and these scalars makes.
use Rattle.std.proofs.Common.{◌≡◌, ◌≢◌, ℕ, ◌+◌, ◌-◌, ◌*◌, ◌<◌, ◌≤◌, sym, ◌∙◌, ap, subst, arith, List, [], length, map, get_or-drop, length-drop, inl, inr, ◌⊎◌, slice_index, slice_index_or, refl}
use Rattle.std.specs.List.{Contains, range_with_len}
use Rattle.std.specs.Cmp.Lexicographic.{slice_cmp}
use Rattle.std.specs.Ordering.{nat_cmp}
use Rattle.std.specs.declared.cmp.Ordering.TheVariants.{Greater}
use Rattle.std.proofs.lemmas.Bool.{cases_lt}
use Rattle.std.proofs.lemmas.Cmp.{nat_list_cmp_total}
use Rattle.std.proofs.lemmas.List.{get_or_default}
use Rattle.std.proofs.lemmas.List.FromFn.{length-map-range_with_len, get_or-map-range_with_len}
use Rattle.std.proofs.lemmas.List.Kept.{AllPairs-from_increasing}
use Rattle.std.proofs.lemmas.Nat.{mul-add-lt, div-mul-add, mod-mul-add}
use Rattle.matroid_theory.specs.Field.{IsField, times, inverse, raised}
use Rattle.matroid_theory.specs.Matrix.{combination}
use Rattle.matroid_theory.specs.Rep.{Rep, shape, count, size, order, matrix, KeepsLimits, IsShaped}
use Rattle.matroid_theory.specs.declared.Mode.TheVariants.{Linear}
use Rattle.matroid_theory.specs.Move.{Move, IsMove, TakesTo}
use Rattle.matrix_lemmas.proofs.FieldLaws.{field_laws}
use Rattle.matrix_lemmas.proofs.Sums.{sum_same}
use Rattle.matrix_lemmas.proofs.Frobenius.{times_undone, times_nonzero, inverse_nonzero}
use Rattle.matrix_lemmas.proofs.Lists.{distinct_length}
use Rattle.matroid_laws.proofs.Standard.{standard_by}
use Rattle.matroid_laws.proofs.GroupLeast.{group_least}
use Rattle.canonical_form.specs.Search.{Reaches, PicksFirst, HasScalars, row_scalar, later, columns_cmp, chosen, IsOrderedBasis, AreScalars, AreOthers, AreCoordinates, IsScaled, AreOtherCoordinates, IsCandidate}
use Rattle.canonical_form.proofs.Sorted.{IsMatched, ArePlaces, sorted_least, permutation_places}

-- what one scaled column is multiplied by to get the other
abbrev ratio : ℕ → ℕ → ℕ → ℕ → ℕ
ratio q a s z = times q a (times q (inverse q s) (inverse q z))

module _ (q : ℕ) (F : IsField q) where
  ratio_nonzero : (a s z : ℕ) → a < q → a ≢ 0 → s < q → s ≢ 0 → z < q → z ≢ 0 → ratio q a s z ≢ 0
  ratio_nonzero a s z l n m o k p =
      times_nonzero q F a (times q (inverse q s) (inverse q z)) l (F.times_below (inverse q s) (inverse q z)) n
      (times_nonzero q F (inverse q s) (inverse q z) (F.inverse_below s m) (F.inverse_below z k) (inverse_nonzero q F s m o) (inverse_nonzero q F z k p))

  ratio_times : (a s z d x : ℕ) → s < q → s ≢ 0 → z < q → z ≢ 0 → times q (ratio q a s z) (times q z (times q (times q s d) x)) ≡ times q a (times q d x)
  ratio_times a s z d x m o k p =
      F.times_assoc a (times q (inverse q s) (inverse q z)) (times q z (times q (times q s d) x))
      ∙ ap (times q a) (F.times_assoc (inverse q s) (inverse q z) (times q z (times q (times q s d) x))
      ∙ ap (times q (inverse q s)) (times_undone q F z (times q (times q s d) x) k p (F.times_below (times q s d) x) ∙ F.times_assoc s d x)
      ∙ times_undone q F s (times q d x) m o (F.times_below d x))

module _ (M : Rep) (basis scalars : List ℕ) (rep : KeepsLimits M) (b : IsOrderedBasis M basis) (m : Move) (N : Rep) (reach : Reaches M m N)
    (begins : PicksFirst basis m) (long : length scalars ≡ M.rank * count M) (has : HasScalars M scalars m) where
  shaped : IsShaped M
  shaped = rep.shaped

  field : (f : ℕ) → f < count M → IsField (order M f)
  field f l = field_laws (order M f) (shaped.orders f l)

  valid : IsMove Linear (shape M) m
  valid = reach.valid

  takes : TakesTo M m N
  takes = reach.takes

  room : M.rank ≤ size M
  room = let s = reach.standard in subst (λ s. s.rank ≤ s.size) takes.same_shape s.room

  same_rank : N.rank ≡ M.rank
  same_rank = ap (λ s. s.rank) takes.same_shape

  some : 0 < size M
  some = let p : 0 < M.rank = rep.rank_positive in let o : M.rank ≤ size M = room in omega arith

  after : (t : ℕ) → t < size M - M.rank → M.rank + t < size M
  after t l = omega arith

  -- ---- the columns that aren't in the basis

  later_length : length (later N) ≡ size M - M.rank
  later_length = length-drop N.rank N.columns ∙ ap (λ s. s.size - s.rank) takes.same_shape

  -- the basis begins the labels
  front : (l : ℕ) → l < M.rank → m.label l ≡ slice_index basis l
  front l h = begins l (subst (λ n. l < n) (sym b.full) h)

  not_in_basis : (t : ℕ) → t < size M - M.rank → ¬ (Contains basis (m.label (M.rank + t)))
  not_in_basis t l (i, h, e) =
      let p = valid.labels in
      let i_below : i < M.rank = subst (λ n. i < n) b.full h in
      let o : M.rank ≤ size M = room in
      let same : m.label i ≡ m.label (M.rank + t) = begins i h ∙ get_or_default basis i 0 (m.label (M.rank + t)) h ∙ e in
      let k : i ≡ M.rank + t = sym (p.there i (omega arith)) ∙ ap m.place same ∙ p.there (M.rank + t) (after t l) in
      absurd (omega arith)

  module _ (others : List ℕ) (are : AreOthers M basis others) where
    other : (t : ℕ) → t < size M - M.rank → Contains others (m.label (M.rank + t))
    other t l = let p = valid.labels in (are.exact (m.label (M.rank + t))).1 (p.below (M.rank + t) (after t l), not_in_basis t l)

    -- there are no more of them than labels after the basis
    labels : List ℕ
    labels = map (λ j. m.label j) (range_with_len M.rank (size M - M.rank))

    is_label : (k : ℕ) → Contains others k → Contains labels k
    unfolding labels
    is_label k c =
        let p = valid.labels in
        let is = (are.exact k).0 c in
        let back : m.label (m.place k) ≡ k = p.back k is.0 in
        let at : m.place k < size M = p.inverse_below k is.0 in
        elim (cases_lt (m.place k) M.rank) [
          | inl h ↦ (let h' : m.place k < length basis = subst (λ n. m.place k < n) (sym b.full) h in
              absurd (is.1 (m.place k, h', get_or_default basis (m.place k) k 0 h' ∙ sym (begins (m.place k) h') ∙ back)))
          | inr g ↦ (let n : m.place k - M.rank < size M - M.rank = omega arith in (
            m.place k - M.rank,
            subst (λ n. m.place k - M.rank < n) (sym (length-map-range_with_len (λ j. m.label j) M.rank (size M - M.rank))) n,
            get_or-map-range_with_len (λ j. m.label j) M.rank (size M - M.rank) (m.place k - M.rank) (m.place k) k n (omega arith) ∙ back,
          ))
        ]

    others_most : length others ≤ size M - M.rank
    unfolding labels
    others_most =
        subst (λ n. length others ≤ n) (length-map-range_with_len (λ j. m.label j) M.rank (size M - M.rank))
        (distinct_length others labels
        (λ i j d l k e. (let n : slice_index_or others i d < slice_index_or others j d =
        AllPairs-from_increasing others are.rising i j d l k in absurd (omega arith))) is_label)

    -- the place among them of a column's label
    place_by : (t : ℕ) → (t < size M - M.rank) ⊎ (size M - M.rank ≤ t) → ℕ
    place_by t (inl l) = (other t l).0
    place_by t (inr g) = 0

    place_by-below : (t : ℕ) (c : (t < size M - M.rank) ⊎ (size M - M.rank ≤ t)) → t < size M - M.rank → place_by t c < length others
    unfolding place_by
    place_by-below t (inl l) k = (other t l).1
    place_by-below t (inr g) k = absurd (omega arith)

    place_by-at : (t : ℕ) (c : (t < size M - M.rank) ⊎ (size M - M.rank ≤ t)) → t < size M - M.rank → slice_index others (place_by t c) ≡ m.label (M.rank + t)
    unfolding place_by
    place_by-at t (inl l) k = let o = other t l in get_or_default others o.0 0 (m.label (M.rank + t)) o.1 ∙ o.2
    place_by-at t (inr g) k = absurd (omega arith)

    place : ℕ → ℕ
    place t = place_by t (cases_lt t (size M - M.rank))

    place-below : (t : ℕ) → t < size M - M.rank → place t < length others
    unfolding place
    place-below t l = place_by-below t (cases_lt t (size M - M.rank)) l

    place-at : (t : ℕ) → t < size M - M.rank → slice_index others (place t) ≡ m.label (M.rank + t)
    unfolding place
    place-at t l = place_by-at t (cases_lt t (size M - M.rank)) l

    place_apart : (s t : ℕ) → s < size M - M.rank → t < size M - M.rank → place s ≡ place t → s ≡ t
    place_apart s t l k e =
        let p = valid.labels in
        let same : m.label (M.rank + s) ≡ m.label (M.rank + t) = sym (place-at s l) ∙ ap (slice_index others) e ∙ place-at t k in
        let d : M.rank + s ≡ M.rank + t = sym (p.there (M.rank + s) (after s l)) ∙ ap m.place same ∙ p.there (M.rank + t) (after t k) in
        omega arith

  -- ---- one later column

  scalar_at : (i f : ℕ) → i < M.rank → f < count M →
      slice_index scalars (i * count M + f) ≡ times (order M f) (m.scalar f 0) (inverse (order M f) (m.scalar f i))
  scalar_at i f n l =
      let h : i * count M + f < count M * M.rank = mul-add-lt i (count M) f M.rank n l in
      let in_scalars : i * count M + f < length scalars = subst (λ n. i * count M + f < n) (sym long) (omega arith) in
      sym (has (i * count M + f) in_scalars) ∙ (λ t. row_scalar M m (mod-mul-add i (count M) f l t) (div-mul-add i (count M) f l t))

  module _ (t : ℕ) (tl : t < size M - M.rank) (c v : List ℕ) (coordinates : AreCoordinates M basis (m.label (M.rank + t)) c)
      (scaled : IsScaled M scalars c v) where
    abbrev coordinate : ℕ → ℕ → ℕ
    coordinate i f = slice_index c (i * count M + f)

    column : List ℕ
    column = slice_index_or N.columns (M.rank + t) []

    entry : (i f : ℕ) → i < M.rank → f < count M →
        slice_index column (i * count M + f) ≡ times (order M f) (m.scalar f (M.rank + t))
        (times (order M f) (inverse (order M f) (m.scalar f i)) (coordinate i f))
    unfolding column
    entry i f n l =
        ap (λ s. slice_index (slice_index_or N.columns (M.rank + t) []) (i * length s.factors + f)) (sym takes.same_shape)
        ∙ standard_by Linear M N m shaped reach.standard valid takes f l (M.rank + t) (after t tl) (λ i. coordinate i f) combined i n
        ∙ ap (λ p. times (order M f) (m.scalar f (M.rank + t))
        (times (order M f) (inverse (order M f) (m.scalar f i)) (raised (order M f) p (coordinate i f)))) (valid.allowed f l)
      where
        combined : (i : ℕ) → i < M.rank →
            combination (order M f) M.rank (λ i l. matrix M f i (m.label l)) (λ i. coordinate i f) i ≡ matrix M f i (m.label (M.rank + t))
        combined i n =
            sum_same (order M f) (field f l) M.rank (λ j. times (order M f) (matrix M f i (m.label j)) (coordinate j f))
            (λ j. times (order M f) (chosen M basis f i j) (coordinate j f))
            (λ j h. ap (λ x. times (order M f) (matrix M f i x) (coordinate j f)) (front j h))
            ∙ coordinates.combined f i l n

    factor : ℕ → ℕ
    factor f = ratio (order M f) (m.scalar f (M.rank + t)) (m.scalar f 0) (scaled.scale f)

    multiple : (i f : ℕ) → i < M.rank → f < count M → slice_index column (i * count M + f) ≡ times (order M f) (factor f) (slice_index v (i * count M + f))
    unfolding factor
    multiple i f n l =
        entry i f n l
        ∙ sym (ratio_times (order M f) (field f l) (m.scalar f (M.rank + t)) (m.scalar f 0) (scaled.scale f)
        (inverse (order M f) (m.scalar f i)) (coordinate i f)
        (valid.scalars f 0 l some) (valid.nonzero f 0 l some) (scaled.scale_code f l) (scaled.scale_nonzero f l))
        ∙ ap (times (order M f) (factor f)) (sym (scaled.entries i f n l
        ∙ ap (λ x. times (order M f) (scaled.scale f) (times (order M f) x (coordinate i f))) (scalar_at i f n l)))

    column_rows : length column ≡ M.rank * count M
    unfolding column
    column_rows =
        let s = takes.shaped in
        s.lengths (M.rank + t) (subst (λ s. M.rank + t < s.size) (sym takes.same_shape) (after t tl)) ∙ ap (λ s. s.rank * length s.factors) takes.same_shape

    factor_nonzero : (f : ℕ) → f < count M → factor f ≢ 0
    unfolding factor
    factor_nonzero f l =
        ratio_nonzero (order M f) (field f l) (m.scalar f (M.rank + t)) (m.scalar f 0) (scaled.scale f)
        (valid.scalars f (M.rank + t) l (after t tl)) (valid.nonzero f (M.rank + t) l (after t tl)) (valid.scalars f 0 l some)
        (valid.nonzero f 0 l some) (scaled.scale_code f l) (scaled.scale_nonzero f l)

    factor_code : (f : ℕ) → f < count M → factor f < order M f
    unfolding factor
    factor_code f l = let F = field f l in
        F.times_below (m.scalar f (M.rank + t)) (times (order M f) (inverse (order M f) (m.scalar f 0)) (inverse (order M f) (scaled.scale f)))

    column_least : slice_cmp nat_cmp v column ≢ Greater
    column_least = let w = scaled.column in
        group_least (count M) M.rank (order M) field v column (λ _. 0) (λ f _. factor f) w.rows column_rows w.codes
        (λ i f l m z. scaled.leads i f l m (λ k b. z k b refl)) (λ f _. factor_code f) (λ f _. factor_nonzero f) multiple

  later-at : (t : ℕ) → slice_index_or (later N) t [] ≡ slice_index_or N.columns (M.rank + t) []
  later-at t = get_or-drop N.rank N.columns t [] ∙ ap (λ r. slice_index_or N.columns (r + t) []) same_rank

  later_least : (t : ℕ) → t < size M - M.rank → (c v : List ℕ) → AreCoordinates M basis (m.label (M.rank + t)) c →
      IsScaled M scalars c v → slice_cmp nat_cmp v (slice_index_or (later N) t []) ≢ Greater
  unfolding column
  later_least t l c v coordinates scaled = subst (λ w. slice_cmp nat_cmp v w ≢ Greater) (sym (later-at t)) (column_least t l c v coordinates scaled)

  -- ---- all of them

  module _ (columns : List (List ℕ)) (h : IsCandidate M basis scalars columns) (pi : ℕ → ℕ)
      (as_long : length columns ≡ length h.scaled) (places : ArePlaces [] h.scaled columns pi) where
    known : AreOtherCoordinates M basis h.coordinates
    known = h.are_coordinates

    scaled_length : length h.scaled ≡ length known.others
    scaled_length = h.count_is ∙ known.count_is

    most : length columns ≤ size M - M.rank
    most = let o : length known.others ≤ size M - M.rank = others_most known.others known.are_others in
        let e : length columns ≡ length h.scaled = as_long in let d : length h.scaled ≡ length known.others = scaled_length in omega arith

    at : ℕ → ℕ
    at t = place known.others known.are_others t

    at_below : (t : ℕ) → t < length columns → at t < length h.scaled
    unfolding at
    at_below t l = subst (λ n. place known.others known.are_others t < n) (sym scaled_length)
        (place-below known.others known.are_others t (let o : length columns ≤ size M - M.rank = most in omega arith))

    matched : IsMatched (slice_cmp nat_cmp) nat_list_cmp_total [] columns (later N) (λ t. pi (at t))
    unfolding at
    matched = record {
      injection = record {
        below = λ t l. (let p = places.injection in subst (λ n. pi (at t) < n) (sym as_long) (p.below (at t) (at_below t l)));
        apart = λ s t l k e. (let p = places.injection in let o : length columns ≤ size M - M.rank = most in
            place_apart known.others known.are_others s t (omega arith) (omega arith) (p.apart (at s) (at t) (at_below s l) (at_below t k) e));
      };
      at_most = λ t l. (let o : length columns ≤ size M - M.rank = most in
          let in_others : at t < length known.others = subst (λ n. at t < n) scaled_length (at_below t l) in
          subst (λ w. slice_cmp nat_cmp w (slice_index_or (later N) t []) ≢ Greater) (sym (places.at (at t) (at_below t l)))
          (later_least t (omega arith) (slice_index_or h.coordinates (at t) []) (slice_index_or h.scaled (at t) [])
          (subst (λ k. AreCoordinates M basis k (slice_index_or h.coordinates (at t) []))
          (place-at known.others known.are_others t (omega arith)) (known.each (at t) in_others))
          (h.each (at t) (subst (λ n. at t < n) (sym known.count_is) in_others))));
    }

    rows_least : columns_cmp columns (later N) ≢ Greater
    rows_least = sorted_least (slice_cmp nat_cmp) nat_list_cmp_total [] columns (later N) (λ t. pi (at t))
        (subst (λ n. length columns ≤ n) (sym later_length) most) h.rising matched

pub candidate_least : (M : Rep) (basis scalars : List ℕ) (columns : List (List ℕ)) → KeepsLimits M → IsOrderedBasis M basis →
    AreScalars M scalars → IsCandidate M basis scalars columns
    → (m : Move) (N : Rep) → Reaches M m N → PicksFirst basis m → length scalars ≡ M.rank * count M → HasScalars M scalars m
    → columns_cmp columns (later N) ≢ Greater
candidate_least M basis scalars columns rep b _ h m N reach begins long has =
    let places = permutation_places [] h.scaled columns h.permuted in
    rows_least M basis scalars rep b m N reach begins long has columns h places.0 places.1 places.2
