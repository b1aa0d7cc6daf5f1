-- Each candidate of the search is the later columns of a standard representation of the class.
use Rattle.std.proofs.Common.{◌≡◌, ◌≢◌, ◌⊎◌, ℕ, zero, suc, ◌+◌, ◌-◌, ◌*◌, ◌<◌, ◌≤◌, refl, sym, ◌∙◌, ap, subst, arith, List, [], ◌∷◌, ◌++◌, length, length-append, drop, cond, true, inl, inr, slice_index}
use Rattle.std.specs.Bool.{◌==◌, nat_lt}
use Rattle.std.specs.List.{slice_index_or, Contains, AllPairs, range_with_len, swap}
use Rattle.std.proofs.lemmas.Bool.{cases_lt, cases_eq, le-ltb, lt-ltb}
use Rattle.std.proofs.lemmas.List.{ext_get_or, length-drop, get_or-drop, get_or_default, get_or_append_left, get_or-append_right, get_or-append-add}
use Rattle.std.proofs.lemmas.List.Edits.{Swapped, swapped_from_swap, length-swap}
use Rattle.std.proofs.lemmas.List.Elements.{Contains-get_or, Contains-append_left, Contains-append_right}
use Rattle.std.proofs.lemmas.List.FromFn.{length-range_with_len, get_or-range_with_len}
use Rattle.std.proofs.lemmas.List.Kept.{AllPairs-from_increasing}
use Rattle.std.proofs.lemmas.List.Sorted.{IsPermutation-keeps}
use Rattle.matroid_theory.specs.declared.Mode.TheVariants.{Linear}
use Rattle.matroid_theory.specs.Field.{plus, times, negative, inverse, raised, IsField}
use Rattle.matroid_theory.specs.Matrix.{Matrix, combination, unit, IsIndependent}
use Rattle.matroid_theory.specs.Rep.{Rep, shape, count, size, order, matrix, IsStandard, IsProductColumn, KeepsLimits}
use Rattle.matroid_theory.specs.Move.{Move, ArePermutation, IsMove, TakesTo}
use Rattle.matrix_lemmas.proofs.FieldLaws.{field_laws}
use Rattle.matrix_lemmas.proofs.Sums.{plus_zero_right, sum_same, sum_plus, times_zero, same_number, other_number, combination-scaled}
use Rattle.matrix_lemmas.proofs.Frobenius.{times_undone, inverse_nonzero}
use Rattle.matrix_lemmas.proofs.Steps.{Independent, all_coefficients}
use Rattle.matroid_laws.proofs.Standard.{standard_by, set_of_independent}
use Rattle.matroid_laws.proofs.Built.{standard_made}
use Rattle.matrix_lemmas.proofs.Lists.{distinct_length}
use Rattle.matrix_lemmas.proofs.Columns.{column_with, column_with-at, column_with_codes}
use Rattle.matroid_theory.specs.Exchange.{exchange}
use Rattle.matrix_lemmas.proofs.Exchanges.{exchange_one, exchange_two, exchange_other, exchanged_permutation}
use Rattle.matrix_lemmas.proofs.Dimension.{times_unit_column}
use Rattle.matroid_laws.proofs.First.{same_column}
use Rattle.canonical_form.specs.Search.{later, chosen, IsOrderedBasis, AreScalars, AreOthers, AreCoordinates, AreOtherCoordinates, IsCandidate, AreOfClass}
use Rattle.canonical_form.proofs.Whole.{independent_same}

-- ---- a list without repeats that has each number below n, and the places in it

abbrev seat : List ℕ → ℕ → ℕ
seat [] k = 0
seat (x ∷ xs) k = cond (x == k) 0 (suc (seat xs k))

seat_first : (x k : ℕ) (xs : List ℕ) → x ≡ k → seat (x ∷ xs) k ≡ 0
seat_first x k xs e = ap (λ b. cond b 0 (suc (seat xs k))) (ap (λ y. y == k) e ∙ same_number k)

seat_rest : (x k : ℕ) (xs : List ℕ) → x ≢ k → seat (x ∷ xs) k ≡ suc (seat xs k)
seat_rest x k xs ne = ap (λ b. cond b 0 (suc (seat xs k))) (other_number x k ne)

contained_in_rest : (x k : ℕ) (xs : List ℕ) → x ≢ k → Contains (x ∷ xs) k → Contains xs k
contained_in_rest x k xs ne (zero, l, e) = absurd (ne e)
contained_in_rest x k xs ne (suc i, l, e) = (i, omega arith, e)

seat_of : (xs : List ℕ) (k : ℕ) → Contains xs k → (seat xs k < length xs) × (slice_index xs (seat xs k) ≡ k)
seat_of [] k c = let (i, l, e) = c in absurd (omega arith)
seat_of (x ∷ xs) k c =
    elim (cases_eq x k) [
      | inl e ↦ (let z : seat (x ∷ xs) k ≡ 0 = seat_first x k xs e in (omega arith, ap (slice_index (x ∷ xs)) z ∙ e))
      | inr ne ↦ (let r : (seat xs k < length xs) × (slice_index xs (seat xs k) ≡ k) = seat_of xs k (contained_in_rest x k xs ne c) in
          let z : seat (x ∷ xs) k ≡ suc (seat xs k) = seat_rest x k xs ne in
          let b : seat xs k < length xs = r.0 in
          (omega arith, ap (slice_index (x ∷ xs)) z ∙ r.1))
    ]

contained : (xs : List ℕ) (k : ℕ) → Contains xs k ⊎ (Contains xs k → ⊥)
contained [] k = inr (λ c. let (i, l, e) = c in absurd (omega arith))
contained (x ∷ xs) k =
    elim (cases_eq x k) [
      | inl e ↦ inl (0, omega arith, e)
      | inr ne ↦ elim (contained xs k) [
        | inl c ↦ inl (suc c.0, (let l = c.1 in omega arith), c.2)
        | inr out ↦ inr (λ c. out (contained_in_rest x k xs ne c))
      ]
    ]

module _ (n : ℕ) (labels : List ℕ) (below : (i : ℕ) → i < length labels → slice_index labels i < n)
    (apart : AllPairs (λ x y. x ≢ y) labels) (whole : (k : ℕ) → k < n → Contains labels k) where
  in_range : (k : ℕ) → k < n → Contains (range_with_len 0 n) k
  in_range k l = let e : length (range_with_len 0 n) ≡ n = length-range_with_len 0 n in (k, omega arith, get_or-range_with_len 0 n k k l ∙ omega arith)

  range_apart : AllPairs (λ x y. x ≢ y) (range_with_len 0 n)
  range_apart i j d l m e =
      let s : length (range_with_len 0 n) ≡ n = length-range_with_len 0 n in
      let a : slice_index_or (range_with_len 0 n) i d ≡ 0 + i = get_or-range_with_len 0 n i d (omega arith) in
      let b : slice_index_or (range_with_len 0 n) j d ≡ 0 + j = get_or-range_with_len 0 n j d (omega arith) in
      let x : 0 + i ≡ 0 + j = sym a ∙ e ∙ b in
      omega arith

  all_labels : length labels ≡ n
  all_labels =
      let s : length (range_with_len 0 n) ≡ n = length-range_with_len 0 n in
      let a : length labels ≤ length (range_with_len 0 n) = distinct_length labels (range_with_len 0 n) apart
      (λ k c. let (i, l, e) = c in in_range k (subst (λ (x : ℕ). x < n) (get_or_default labels i 0 k l ∙ e) (below i l))) in
      let b : length (range_with_len 0 n) ≤ length labels = distinct_length (range_with_len 0 n) labels range_apart (λ k c.
      let (i, l, e) = c in
      let z : 0 + i ≡ k = sym (get_or-range_with_len 0 n i k (omega arith)) ∙ e in
      whole k (omega arith)) in
      omega arith

  one_place : (i j : ℕ) → i < length labels → j < length labels → slice_index labels i ≡ slice_index labels j → i ≡ j
  one_place i j l m e =
      elim (cases_lt i j) [
        | inl a ↦ absurd (apart i j 0 a m e)
        | inr g ↦ elim (cases_lt j i) [ inl b ↦ absurd (apart j i 0 b l (sym e)) | inr g' ↦ omega arith ]
      ]

  label_permutation : ArePermutation n (slice_index labels) (seat labels)
  label_permutation =
      let s : length labels ≡ n = all_labels in
      record {
        below = λ j l. below j (omega arith);
        inverse_below = λ j l. subst (λ (x : ℕ). seat labels j < x) s (seat_of labels j (whole j l)).0;
        there = λ j l. (let j' : j < length labels = omega arith in
            let w = seat_of labels (slice_index labels j) (Contains-get_or labels j 0 j') in
            one_place (seat labels (slice_index labels j)) j w.0 j' w.1);
        back = λ j l. (seat_of labels j (whole j l)).1;
      }

-- ---- independent columns

module _ (q : ℕ) (F : IsField q) (r : ℕ) where
  -- two of them differ
  columns_differ : (n : ℕ) (A : Matrix) → ((i j : ℕ) → i < r → j < n → A i j < q) → Independent q r n A → (l m : ℕ) → l < n →
      m < n → l ≢ m → ((i : ℕ) → i < r → A i l ≡ A i m) → ⊥
  columns_differ n A codes h l m b c ne e =
      let z : zero ≡ 1 = sym (h.only_zero a (all_coefficients q F r n n a (λ j _. F.plus_below _ _)) rows l b) ∙ at in
      omega arith
    where
      a : ℕ → ℕ
      a j = plus q (unit j l) (times q (negative q 1) (unit j m))

      at : a l ≡ 1
      at =
          (λ i. plus q (cond (same_number l i) 1 0) (times q (negative q 1) (cond (other_number l m ne i) 1 0)))
          ∙ ap (plus q 1) (times_zero q F (negative q 1)) ∙ plus_zero_right q F 1 F.two

      -- x - x
      cancelled : (x : ℕ) → x < q → plus q x (times q (negative q 1) x) ≡ 0
      cancelled x k =
          (λ i. plus q (sym (F.times_comm x 1 ∙ F.times_one x k) i) (F.times_comm (negative q 1) x i))
          ∙ sym (F.times_plus x 1 (negative q 1)) ∙ ap (times q x) (F.plus_negative 1) ∙ times_zero q F x

      rows : (i : ℕ) → i < r → combination q n A a i ≡ 0
      rows i k =
          sum_same q F n (λ j. times q (A i j) (a j))
          (λ j. plus q (times q (A i j) (unit j l)) (times q (A i j) (times q (negative q 1) (unit j m))))
          (λ j _. F.times_plus (A i j) (unit j l) (times q (negative q 1) (unit j m)))
          ∙ sum_plus q F n (λ j. times q (A i j) (unit j l)) (λ j. times q (A i j) (times q (negative q 1) (unit j m)))
          ∙ (λ t. plus q (times_unit_column q F n A i l b (codes i l k b) t)
          ((combination-scaled q F n A (negative q 1) (λ j. unit j m) i
          ∙ ap (times q (negative q 1)) (times_unit_column q F n A i m c (codes i m k c) ∙ sym (e i k))) t))
          ∙ cancelled (A i l) (codes i l k b)

  inverse_twice : (a : ℕ) → a < q → a ≢ 0 → inverse q (inverse q a) ≡ a
  inverse_twice a l ne =
      let b : inverse q a < q = F.inverse_below a l in
      let c : inverse q (inverse q a) < q = F.inverse_below (inverse q a) b in
      sym (F.times_one (inverse q (inverse q a)) c) ∙ F.times_comm 1 (inverse q (inverse q a))
      ∙ ap (times q (inverse q (inverse q a))) (sym (F.times_inverse a l ne) ∙ F.times_comm a (inverse q a))
      ∙ times_undone q F (inverse q a) a b (inverse_nonzero q F a l ne) l

-- ---- columns that are made of the basis, in any order

-- v has the coordinates of column k of M with its rows multiplied by the scalars, each factor scaled in some way
record IsFrom (M : Rep) (basis scalars : List ℕ) (k : ℕ) (v : List ℕ) : Type 0 where
  pub coordinates : List ℕ
  pub are_coordinates : AreCoordinates M basis k coordinates
  pub column : IsProductColumn M.factors M.rank v
  pub scale : ℕ → ℕ
  pub scale_code : (f : ℕ) → f < count M → scale f < order M f
  pub scale_nonzero : (f : ℕ) → f < count M → scale f ≢ 0
  pub entries : (i f : ℕ) → i < M.rank → f < count M →
      slice_index v (i * count M + f) ≡ times (order M f) (scale f)
      (times (order M f) (slice_index scalars (i * count M + f)) (slice_index coordinates (i * count M + f)))

IsFrom-same : (M : Rep) (basis scalars : List ℕ) (k k' : ℕ) (v v' : List ℕ) → k ≡ k' → v ≡ v' → IsFrom M basis scalars k v → IsFrom M basis scalars k' v'
IsFrom-same M basis scalars k k' v v' e d h = subst (IsFrom M basis scalars k') d (subst (λ (x : ℕ). IsFrom M basis scalars x v) e h)

-- the basis and then other columns, in some order, are all columns, and these are made of the others
record AreMade (M : Rep) (basis scalars : List ℕ) (columns : List (List ℕ)) : Type 0 where
  pub label : ℕ → ℕ
  pub place : ℕ → ℕ
  pub labels : ArePermutation (size M) label place
  pub first : (i : ℕ) → i < M.rank → label i ≡ slice_index basis i
  pub number : M.rank + length columns ≡ size M
  pub each : (t : ℕ) → t < length columns → IsFrom M basis scalars (label (M.rank + t)) (slice_index_or columns t [])

made_exchanged : (M : Rep) (basis scalars : List ℕ) (columns : List (List ℕ)) (i j : ℕ) → i < length columns → j < length columns →
    AreMade M basis scalars columns → AreMade M basis scalars (swap columns i j)
made_exchanged M basis scalars columns i j l m w = record {
  label = λ x. w.label (turn x);
  place = λ k. turn (w.place k);
  labels = exchanged_permutation (M.rank + i) (M.rank + j) (size M) w.label w.place (let e = w.number in omega arith)
      (let e = w.number in omega arith) w.labels;
  first = λ k o. ap w.label (exchange_other (M.rank + i) (M.rank + j) k (λ e. absurd (omega arith)) (λ e. absurd (omega arith))) ∙ w.first k o;
  number = ap (λ (n : ℕ). M.rank + n) as_long ∙ w.number;
  each = λ t o. at t (subst (λ (n : ℕ). t < n) as_long o);
}
  where
    turn : ℕ → ℕ
    turn = exchange (M.rank + i) (M.rank + j)

    as_long : length (swap columns i j) ≡ length columns
    as_long = length-swap columns i j

    swapped : Swapped (λ t. slice_index_or columns t []) (λ t. slice_index_or (swap columns i j) t []) i j
    swapped = swapped_from_swap columns (swap columns i j) i j [] l m refl

    at : (t : ℕ) → t < length columns → IsFrom M basis scalars (w.label (turn (M.rank + t))) (slice_index_or (swap columns i j) t [])
    at t o =
        elim (cases_eq t i) [
          | inl e ↦ IsFrom-same M basis scalars (w.label (M.rank + j)) (w.label (turn (M.rank + t))) (slice_index_or columns j [])
              (slice_index_or (swap columns i j) t [])
              (ap w.label (sym (ap (λ x. turn (M.rank + x)) e ∙ exchange_one (M.rank + i) (M.rank + j))))
              (sym (ap (λ x. slice_index_or (swap columns i j) x []) e ∙ swapped.0)) (w.each j m)
          | inr n ↦ elim (cases_eq t j) [
            | inl e ↦ IsFrom-same M basis scalars (w.label (M.rank + i)) (w.label (turn (M.rank + t))) (slice_index_or columns i [])
                (slice_index_or (swap columns i j) t [])
                (ap w.label (sym (ap (λ x. turn (M.rank + x)) e ∙ exchange_two (M.rank + i) (M.rank + j))))
                (sym (ap (λ x. slice_index_or (swap columns i j) x []) e ∙ swapped.1)) (w.each i l)
            | inr k ↦ IsFrom-same M basis scalars (w.label (M.rank + t)) (w.label (turn (M.rank + t))) (slice_index_or columns t [])
                (slice_index_or (swap columns i j) t [])
                (ap w.label (sym (exchange_other (M.rank + i) (M.rank + j) (M.rank + t) (λ e. n (omega arith))
                (λ e. k (omega arith))))) (sym (swapped.2 t n k)) (w.each t o)
          ]
        ]

-- ---- such columns are of the class

module _ (M : Rep) (basis scalars : List ℕ) (columns : List (List ℕ)) (h : KeepsLimits M) (b : IsOrderedBasis M basis)
    (g : AreScalars M scalars) (w : AreMade M basis scalars columns) where
  room : M.rank ≤ size M
  room = let e = w.number in omega arith

  field : (f : ℕ) → f < count M → IsField (order M f)
  field f l = field_laws (order M f) (let s = h.shaped in s.orders f l)

  row_scalar_at : ℕ → ℕ → ℕ
  row_scalar_at f i = slice_index scalars (i * count M + f)

  scale_of : (f t : ℕ) → t < length columns → ℕ
  scale_of f t l = let x = w.each t l in x.scale f

  scale : (f t : ℕ) → (t < length columns) ⊎ (length columns ≤ t) → ℕ
  scale f t (inl l) = scale_of f t l
  scale f t (inr _) = 1

  -- the scalars of the move: those of the rows undone, and the scales of the later columns
  column_scalar : ℕ → ℕ → ℕ
  column_scalar f j = cond (nat_lt j M.rank) (inverse (order M f) (row_scalar_at f j)) (scale f (j - M.rank) (cases_lt (j - M.rank) (length columns)))

  first_scalar : (f j : ℕ) → j < M.rank → column_scalar f j ≡ inverse (order M f) (row_scalar_at f j)
  unfolding column_scalar
  first_scalar f j l = ap (λ b. cond b (inverse (order M f) (row_scalar_at f j))
      (scale f (j - M.rank) (cases_lt (j - M.rank) (length columns)))) (lt-ltb j M.rank l)

  chosen_scale : (f t : ℕ) (c : (t < length columns) ⊎ (length columns ≤ t)) → t < length columns → (l : t < length columns) × (scale f t c ≡ scale_of f t l)
  unfolding scale
  chosen_scale f t (inl l) _ = (l, refl)
  chosen_scale f t (inr o) l = absurd (omega arith)

  later_scalar : (f t : ℕ) → t < length columns → (l : t < length columns) × (column_scalar f (M.rank + t) ≡ scale_of f t l)
  unfolding column_scalar
  later_scalar f t l =
      let c = chosen_scale f t (cases_lt t (length columns)) l in
      let e : M.rank + t - M.rank ≡ t = omega arith in (
        c.0,
        ap (λ b. cond b (inverse (order M f) (row_scalar_at f (M.rank + t)))
            (scale f (M.rank + t - M.rank) (cases_lt (M.rank + t - M.rank) (length columns)))) (le-ltb (M.rank + t) M.rank (omega arith))
            ∙ ap (λ x. scale f x (cases_lt x (length columns))) e ∙ c.1,
      )

  -- a column is one of the first or one of the later
  by_columns : (P : ℕ → Type 0) → ((j : ℕ) → j < M.rank → P j) → ((t : ℕ) → t < length columns → P (M.rank + t)) → (j : ℕ) → j < size M → P j
  by_columns P first rest j l =
      elim (cases_lt j M.rank) [
        | inl b ↦ first j b
        | inr o ↦ (let e = w.number in let s : M.rank + (j - M.rank) ≡ j = omega arith in subst P s (rest (j - M.rank) (omega arith)))
      ]

  scalar_codes : (f j : ℕ) → f < count M → j < size M → column_scalar f j < order M f
  unfolding row_scalar_at scale_of
  scalar_codes f j l = by_columns (λ j. column_scalar f j < order M f)
      (λ i m. let F = field f l in subst (λ (x : ℕ). x < order M f) (sym (first_scalar f i m)) (F.inverse_below (row_scalar_at f i) (g.column.codes i f m l)))
      (λ t m. let c = later_scalar f t m in let x = w.each t c.0 in subst (λ (x : ℕ). x < order M f) (sym c.1) (x.scale_code f l)) j

  scalar_nonzero : (f j : ℕ) → f < count M → j < size M → column_scalar f j ≢ 0
  unfolding row_scalar_at scale_of
  scalar_nonzero f j l = by_columns (λ j. column_scalar f j ≢ 0)
      (λ i m z. inverse_nonzero (order M f) (field f l) (row_scalar_at f i) (g.column.codes i f m l) (g.nonzero i f m l) (sym (first_scalar f i m) ∙ z))
      (λ t m z. let c = later_scalar f t m in let x = w.each t c.0 in x.scale_nonzero f l (sym c.1 ∙ z)) j

  basis_set : (f : ℕ) → f < count M → IsIndependent (order M f) M.rank (size M) (matrix M f) (λ k. nat_lt (w.place k) M.rank)
  basis_set f l =
      set_of_independent (order M f) (field f l) M.rank (size M) (matrix M f) w.label w.place room w.labels
      (independent_same (order M f) (field f l) M.rank M.rank (chosen M basis f) (λ i j. matrix M f i (w.label j))
      (λ i j m. ap (matrix M f i) (sym (w.first j m)))
      (subst (λ (n : ℕ). IsIndependent (order M f) M.rank n (chosen M basis f) (λ _. true)) b.full (b.are_independent.independent f l)))

  module _ (N : Rep) (m : Move) (standard : IsStandard N) (valid : IsMove Linear (shape M) m) (takes : TakesTo M m N)
      (labels_are : m.label ≡ w.label) (scalars_are : m.scalar ≡ column_scalar) (powers_are : m.power ≡ (λ _. 0)) where
    -- the codes of a later column
    entry : (f i t : ℕ) → f < count M → i < M.rank → t < length columns →
        matrix N f i (M.rank + t) ≡ slice_index (slice_index_or columns t []) (i * count M + f)
    unfolding row_scalar_at scale_of
    entry f i t l n o =
        let F = field f l in
        let (o', e) = later_scalar f t o in
        let x = w.each t o' in
        let c : ℕ → ℕ = λ j. slice_index x.coordinates (j * count M + f) in
        let k = w.number in
        standard_by Linear M N m h.shaped standard valid takes f l (M.rank + t) (omega arith) c
        (λ i n.
        sum_same (order M f) F M.rank (λ j. times (order M f) (matrix M f i (m.label j)) (c j)) (λ j. times (order M f) (chosen M basis f i j) (c j))
        (λ j a. ap (λ y. times (order M f) (matrix M f i y) (c j)) (ap (λ p. p j) labels_are ∙ w.first j a))
        ∙ x.are_coordinates.combined f i l n ∙ ap (λ p. matrix M f i (p (M.rank + t))) (sym labels_are))
        i n
        ∙ (λ z. times (order M f) (scalars_are z f (M.rank + t))
        (times (order M f) (inverse (order M f) (scalars_are z f i)) (raised (order M f) (powers_are z f) (c i))))
        ∙ (λ z. times (order M f) (e z) (times (order M f) (inverse (order M f) (first_scalar f i n z)) (c i)))
        ∙ ap (λ y. times (order M f) (scale_of f t o') (times (order M f) y (c i)))
        (inverse_twice (order M f) F M.rank (row_scalar_at f i) (g.column.codes i f n l) (g.nonzero i f n l))
        ∙ sym (x.entries i f n l)

    later_columns : later N ≡ columns
    later_columns =
        ap (λ s. drop s.rank N.columns) takes.same_shape
        ∙ ext_get_or [] (drop M.rank N.columns) columns as_long (λ t l. get_or-drop M.rank N.columns t [] ∙ one t (subst (λ (n : ℕ). t < n) as_long l))
      where
        as_long : length (drop M.rank N.columns) ≡ length columns
        as_long = let d = length-drop M.rank N.columns in let e : size N ≡ size M = ap (λ s. s.size) takes.same_shape in let k = w.number in omega arith

        one : (t : ℕ) → t < length columns → slice_index_or N.columns (M.rank + t) [] ≡ slice_index_or columns t []
        one t l =
            let e : size N ≡ size M = ap (λ s. s.size) takes.same_shape in
            let k = w.number in
            let x = w.each t l in
            let F = h.fields in
            same_column M.rank (count M) (slice_index_or N.columns (M.rank + t) []) (slice_index_or columns t [])
            (takes.shaped.lengths (M.rank + t) (omega arith) ∙ ap (λ s. s.rank * length s.factors) takes.same_shape) x.column.rows F.some
            (λ f i a n. ap (λ s. slice_index (slice_index_or N.columns (M.rank + t) []) (i * length s.factors + f)) (sym takes.same_shape) ∙ entry f i t a n l)

  of_class : AreOfClass M columns
  of_class =
      let (N, m, standard, valid, takes, labels_are, scalars_are, powers_are) =
      standard_made Linear M h.shaped room w.label w.place w.labels column_scalar (λ _. 0) basis_set scalar_codes scalar_nonzero
      (λ f l. let F = field f l in F.degree_positive) (λ _ _. refl) in
      record {
        member = N;
        standard = standard;
        equivalent = record { shaped = h.shaped; move = m; valid = valid; takes = takes };
        later_are = later_columns N m standard valid takes labels_are scalars_are powers_are;
      }

-- ---- the other columns in rising order, after the basis

module _ (M : Rep) (basis others : List ℕ) (h : KeepsLimits M) (b : IsOrderedBasis M basis) (o : AreOthers M basis others) where
  other : (k : ℕ) → k < length others → (slice_index others k < size M) × (Contains basis (slice_index others k) → ⊥)
  other k l = (o.exact (slice_index others k)).0 (Contains-get_or others k 0 l)

  in_basis : (i : ℕ) → i < length basis → slice_index (basis ++ others) i ≡ slice_index basis i
  in_basis i l = get_or_append_left basis others 0 i l

  in_others : (i : ℕ) → length basis ≤ i → slice_index (basis ++ others) i ≡ slice_index others (i - length basis)
  in_others i l = get_or-append_right basis others (length basis) i 0 refl l

  past_basis : (i : ℕ) → i < length (basis ++ others) → length basis ≤ i → i - length basis < length others
  past_basis i l m = let e : length (basis ++ others) ≡ length basis + length others = length-append basis others in omega arith

  all_below : (i : ℕ) → i < length (basis ++ others) → slice_index (basis ++ others) i < size M
  all_below i l =
      elim (cases_lt i (length basis)) [
        | inl c ↦ subst (λ (x : ℕ). x < size M) (sym (in_basis i c)) (b.are_independent.below i c)
        | inr c ↦ subst (λ (x : ℕ). x < size M) (sym (in_others i c)) (other (i - length basis) (past_basis i l c)).0
      ]

  basis_apart : (i j : ℕ) → i < j → j < length basis → slice_index basis i ≢ slice_index basis j
  basis_apart i j l m e =
      let s = h.shaped in
      let some : 0 < count M = (let F = h.fields in F.some) in
      columns_differ (order M 0) (field_laws (order M 0) (s.orders 0 some)) M.rank (length basis) (chosen M basis 0)
      (λ k x a c. s.codes 0 k (slice_index basis x) some a (b.are_independent.below x c)) (b.are_independent.independent 0 some)
      i j (omega arith) m (λ z. absurd (omega arith)) (λ k _. ap (matrix M 0 k) e)

  all_apart : (i j : ℕ) → i < j → j < length (basis ++ others) → slice_index (basis ++ others) i ≢ slice_index (basis ++ others) j
  all_apart i j l m e =
      elim (cases_lt j (length basis)) [
        | inl c ↦ basis_apart i j l c (sym (in_basis i (omega arith)) ∙ e ∙ in_basis j c)
        | inr c ↦ elim (cases_lt i (length basis)) [
          | inl d ↦ (other (j - length basis) (past_basis j m c)).1
              (subst (Contains basis) (sym (in_basis i d) ∙ e ∙ in_others j c) (Contains-get_or basis i 0 d))
          | inr d ↦ (let z : slice_index others (i - length basis) ≡ slice_index others (j - length basis) = sym (in_others i d) ∙ e ∙ in_others j c in
              let y : slice_index others (i - length basis) < slice_index others (j - length basis) =
              AllPairs-from_increasing others o.rising (i - length basis) (j - length basis) 0 (omega arith) (past_basis j m c) in
              absurd (omega arith))
        ]
      ]

  labels_apart : AllPairs (λ x y. x ≢ y) (basis ++ others)
  labels_apart i j d l m e = all_apart i j l m (get_or_default (basis ++ others) i 0 d (omega arith) ∙ e ∙ get_or_default (basis ++ others) j d 0 m)

  labels_whole : (k : ℕ) → k < size M → Contains (basis ++ others) k
  labels_whole k l =
      elim (contained basis k) [
        | inl c ↦ Contains-append_left basis others k c
        | inr out ↦ Contains-append_right basis others k ((o.exact k).1 (l, out))
      ]

  made_in_order : (scalars : List ℕ) (columns : List (List ℕ)) → length columns ≡ length others →
      ((t : ℕ) → t < length columns → IsFrom M basis scalars (slice_index others t) (slice_index_or columns t [])) →
      AreMade M basis scalars columns
  made_in_order scalars columns e each = record {
    label = slice_index (basis ++ others);
    place = seat (basis ++ others);
    labels = label_permutation (size M) (basis ++ others) all_below labels_apart labels_whole;
    first = λ i l. in_basis i (subst (λ (x : ℕ). i < x) (sym b.full) l);
    number =
        let a : length (basis ++ others) ≡ size M = all_labels (size M) (basis ++ others) all_below labels_apart labels_whole in
        let c : length (basis ++ others) ≡ length basis + length others = length-append basis others in
        let d = b.full in
        omega arith;
    each = λ t l. IsFrom-same M basis scalars (slice_index others t) (slice_index (basis ++ others) (M.rank + t))
        (slice_index_or columns t []) (slice_index_or columns t [])
        (sym (ap (λ (x : ℕ). slice_index (basis ++ others) (x + t)) (sym b.full) ∙ get_or-append-add basis others t 0)) refl (each t l);
  }

-- the other columns, scaled, in any order
pub candidate_made : (M : Rep) (basis scalars : List ℕ) (columns : List (List ℕ)) → KeepsLimits M → IsOrderedBasis M basis →
    AreScalars M scalars → IsCandidate M basis scalars columns → AreOfClass M columns
candidate_made M basis scalars columns h b g c =
    of_class M basis scalars columns h b g (IsPermutation-keeps c.scaled (AreMade M basis scalars) in_order (made_exchanged M basis scalars) columns c.permuted)
  where
    each : (t : ℕ) → t < length c.scaled → IsFrom M basis scalars (slice_index c.are_coordinates.others t) (slice_index_or c.scaled t [])
    each t l =
        let a = c.are_coordinates in
        let k : length c.scaled ≡ length c.coordinates = c.count_is in
        let n : length c.coordinates ≡ length a.others = a.count_is in
        let s = c.each t (omega arith) in
        record {
          coordinates = slice_index_or c.coordinates t [];
          are_coordinates = a.each t (omega arith);
          column = s.column;
          scale = s.scale;
          scale_code = s.scale_code;
          scale_nonzero = s.scale_nonzero;
          entries = s.entries;
        }

    in_order : AreMade M basis scalars c.scaled
    in_order = let a = c.are_coordinates in made_in_order M basis a.others h b a.are_others scalars c.scaled (c.count_is ∙ a.count_is) each

-- the other columns as they are, with scalars that are all 1
pub coordinates_made : (M : Rep) (basis : List ℕ) (columns : List (List ℕ)) → KeepsLimits M → IsOrderedBasis M basis →
    AreOtherCoordinates M basis columns → AreOfClass M columns
coordinates_made M basis columns h b a =
    of_class M basis ones columns h b are_scalars (made_in_order M basis a.others h b a.are_others ones columns a.count_is each)
  where
    ones : List ℕ
    ones = column_with M.rank (count M) (λ _ _. 1)

    field_of : (f : ℕ) → f < count M → IsField (order M f)
    field_of f l = field_laws (order M f) (h.shaped.orders f l)

    one_at : (i f : ℕ) → i < M.rank → f < count M → slice_index ones (i * count M + f) ≡ 1
    one_at i f l m = column_with-at M.rank (count M) (λ _ _. 1) f i l m

    are_scalars : AreScalars M ones
    are_scalars = record {
      column = column_with_codes M.factors M.rank (λ _ _. 1) (λ f i l m. let F = field_of f l in F.two);
      nonzero = λ i f l m z. (let e : 1 ≡ zero = sym (one_at i f l m) ∙ z in absurd (omega arith));
    }

    each : (t : ℕ) → t < length columns → IsFrom M basis ones (slice_index a.others t) (slice_index_or columns t [])
    each t l =
        let n : length columns ≡ length a.others = a.count_is in
        let c = a.each t (omega arith) in
        record {
          coordinates = slice_index_or columns t [];
          are_coordinates = c;
          column = c.column;
          scale = λ _. 1;
          scale_code = λ f l. (let F = field_of f l in F.two);
          scale_nonzero = λ f l z. absurd (omega arith);
          entries = λ i f l m.
              (let F = field_of f m in
              sym (ap (times (order M f) 1) (ap (λ x. times (order M f) x (slice_index (slice_index_or columns t []) (i * count M + f))) (one_at i f l m)
              ∙ F.times_one _ (c.column.codes i f l m)) ∙ F.times_one _ (c.column.codes i f l m)));
        }
