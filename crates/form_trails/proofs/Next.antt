-- The next column of a form is the least of those that the open elements can have.
use Rattle.std.proofs.Common.{◌≡◌, ◌≢◌, ◌⊎◌, inl, inr, refl, ℕ, ◌+◌, ◌<◌, ◌≤◌, sym, ◌∙◌, ap, subst, arith, cond}
use Rattle.std.specs.Bool.{nat_lt}
use Rattle.std.proofs.lemmas.Bool.{cases_lt, cases_eq, lt-ltb, le-ltb}
use Rattle.matroid_theory.specs.Field.{times, inverse}
use Rattle.matroid_theory.specs.declared.Mode.TheVariants.{Linear}
use Rattle.matroid_theory.specs.Rep.{Rep, count, size, order, matrix, IsShaped, IsStandard}
use Rattle.matroid_theory.specs.Matroid.{IsBasis}
use Rattle.matroid_theory.specs.Move.{Move, ArePermutation, AreEquivalent}
use Rattle.matrix_lemmas.proofs.Sums.{times_zero}
use Rattle.matrix_lemmas.proofs.Steps.{pivot_row}
use Rattle.matroid_laws.proofs.Standard.{standard_basis}
use Rattle.matrix_lemmas.proofs.Masks.{IsBasis-same}
use Rattle.form_trails.specs.Trail.{ReachesForm, Trail, AreCoordinates, AreZeroBefore, Follows, IsTrail}
use Rattle.form_trails.specs.Least.{scaled}
use Rattle.matroid_theory.specs.Exchange.{exchange}
use Rattle.form_trails.proofs.Scalars.{IsScalar, one_scalar, inverse_scalar, undone}
use Rattle.matrix_lemmas.proofs.Exchanges.{exchange_one, exchange_other, exchange_cases, exchanged_permutation}
use Rattle.form_trails.proofs.Coordinates.{row_scalars}
use Rattle.form_trails.proofs.Entries.{field, AreRowScalars, made}

-- a factor of each group
abbrev pub AreGroupScalars : Rep → (ℕ → ℕ → ℕ) → Type 0
AreGroupScalars M own = (f g : ℕ) → f < count M → IsScalar (order M f) (own f g)

module _ (M : Rep) (shaped : IsShaped M) (some : 0 < count M) (k s : ℕ) (groups : ℕ → ℕ) (d : Trail) (h : IsTrail M k s groups d)
    (m : Move) (N : Rep) (reach : ReachesForm M m N) (follows : Follows M d k s m) where
  abbrev here : ℕ
  here = M.rank + s

  rows : (i : ℕ) → k ≤ i → i < M.rank → m.label i ≡ d.label i
  rows i a b = follows.same i a (omega arith)

  scalars : AreRowScalars M d.scalar
  scalars = row_scalars M shaped d h.ordered

  -- ---- an open element is placed next

  module _ (own : ℕ → ℕ → ℕ) (own_scalars : AreGroupScalars M own) (x : ℕ) (below : x < size M) (is_open : M.rank + s ≤ m.place x)
      (c : ℕ → ℕ → ℕ) (a : AreCoordinates M d x c) (z : AreZeroBefore M k c) where
    -- the standard representation in which it comes next
    pub record IsNext (L : Rep) : Type 0 where
      pub standard : IsStandard L
      pub equivalent : AreEquivalent Linear M L
      pub as_before : (j f i : ℕ) → j < s → f < count M → i < M.rank → matrix L f i (M.rank + j) ≡ d.columns j f i
      pub next : (f i : ℕ) → f < count M → i < M.rank → matrix L f i (M.rank + s) ≡ scaled M groups own c f i

    place_below : m.place x < size M
    place_below = let w = reach.valid.labels in w.inverse_below x below

    here_below : here < size M
    here_below = let b : m.place x < size M = place_below in omega arith

    abbrev label : ℕ → ℕ
    label y = m.label (exchange here (m.place x) y)

    abbrev place : ℕ → ℕ
    place y = exchange here (m.place x) (m.place y)

    labels : ArePermutation (size M) label place
    labels = exchanged_permutation here (m.place x) (size M) m.label m.place here_below place_below reach.valid.labels

    label_before : (y : ℕ) → y < here → label y ≡ m.label y
    label_before y l = ap m.label (exchange_other here (m.place x) y (λ e. absurd (omega arith)) (λ e. absurd (omega arith)))

    label_here : label here ≡ x
    label_here = let w = reach.valid.labels in ap m.label (exchange_one here (m.place x)) ∙ w.back x below

    label_row : (i : ℕ) → k ≤ i → i < M.rank → label i ≡ d.label i
    label_row i a b = label_before i (before b) ∙ rows i a b
      where
        before : i < M.rank → i < here
        before b = omega arith

    label_placed : (j : ℕ) → j < s → label (M.rank + j) ≡ d.label (M.rank + j)
    label_placed j b = label_before (M.rank + j) (before b) ∙ follows.same (M.rank + j) (let w : k ≤ M.rank = h.rows in omega arith) (before b)
      where
        before : j < s → M.rank + j < M.rank + s
        before b = omega arith

    -- the first columns come from the same basis
    same_side : (y : ℕ) → nat_lt (exchange here (m.place x) y) M.rank ≡ nat_lt y M.rank
    same_side = exchange_cases here (m.place x) (λ x y. nat_lt y M.rank ≡ nat_lt x M.rank)
        (le-ltb (m.place x) M.rank (omega arith) ∙ sym (le-ltb here M.rank (omega arith)))
        (le-ltb here M.rank (omega arith) ∙ sym (le-ltb (m.place x) M.rank (omega arith)))
        (λ y _ _. refl)

    bases : (f : ℕ) → f < count M → IsBasis M f (λ j. nat_lt (place j) M.rank)
    bases f l = IsBasis-same M f (λ j. nat_lt (m.place j) M.rank) (λ j. nat_lt (place j) M.rank) (λ j _. sym (same_side (m.place j)))
        (standard_basis Linear M N m shaped (let w = reach.form in w.standard) reach.valid reach.takes f l)

    abbrev columns : ℕ → ℕ → ℕ → ℕ
    columns j f i = cond (nat_lt j s) (d.columns j f i) (c f i)

    columns_before : (j : ℕ) → j < s → columns j ≡ d.columns j
    columns_before j l = ap (λ b f i. cond b (d.columns j f i) (c f i)) (lt-ltb j s l)

    columns_here : (j : ℕ) → s ≤ j → columns j ≡ c
    columns_here j g = ap (λ b f i. cond b (d.columns j f i) (c f i)) (le-ltb j s g)

    coordinates : (j : ℕ) → j < s + 1 → AreCoordinates M d (label (M.rank + j)) (columns j)
    coordinates j l = elim (cases_lt j s) [
      | inl b ↦ (let p = h.placed in
          subst (λ y. AreCoordinates M d y (columns j)) (sym (label_placed j b))
          (subst (AreCoordinates M d (d.label (M.rank + j))) (sym (columns_before j b)) (p.coordinates j b)))
      | inr g ↦ (let e : s ≡ j = omega arith in
          subst (λ y. AreCoordinates M d y (columns j)) (sym label_here ∙ ap (λ y. label (M.rank + y)) e)
          (subst (AreCoordinates M d x) (sym (columns_here j g)) a))
    ]

    zeros : (j : ℕ) → j < s + 1 → AreZeroBefore M k (columns j)
    zeros j l = elim (cases_lt j s) [
      | inl b ↦ (let p = h.placed in subst (AreZeroBefore M k) (sym (columns_before j b)) (p.zeros j b))
      | inr g ↦ subst (AreZeroBefore M k) (sym (columns_here j g)) z
    ]

    -- what a placed column is multiplied by so that it stays
    multiple_by : (f j : ℕ) → (j < s) ⊎ (s ≤ j) → ((i : ℕ) × (i < M.rank) × (d.columns j f i ≢ 0)) ⊎ ((i : ℕ) → i < M.rank → d.columns j f i ≡ 0) → ℕ
    multiple_by f j (inl l) (inl w) = inverse (order M f) (own f (groups w.0))
    multiple_by f j (inl l) (inr o) = 1
    multiple_by f j (inr g) w = 1

    multiple_is : (f j : ℕ) (t : (j < s) ⊎ (s ≤ j))
        (w : ((i : ℕ) × (i < M.rank) × (d.columns j f i ≢ 0)) ⊎ ((i : ℕ) → i < M.rank → d.columns j f i ≡ 0)) → f < count M →
        IsScalar (order M f) (multiple_by f j t w)
    unfolding multiple_by
    multiple_is f j (inl l) (inl w) b = inverse_scalar (order M f) (field M shaped f b) (own f (groups w.0)) (own_scalars f (groups w.0) b)
    multiple_is f j (inl l) (inr o) b = one_scalar (order M f) (field M shaped f b)
    multiple_is f j (inr g) w b = one_scalar (order M f) (field M shaped f b)

    stays : (f j i : ℕ) (t : (j < s) ⊎ (s ≤ j))
        (w : ((i : ℕ) × (i < M.rank) × (d.columns j f i ≢ 0)) ⊎ ((i : ℕ) → i < M.rank → d.columns j f i ≡ 0)) → j < s → f < count M → i < M.rank
        → times (order M f) (multiple_by f j t w) (times (order M f) (own f (groups i)) (d.columns j f i)) ≡ d.columns j f i
    unfolding multiple_by
    stays f j i (inl l) (inl w) _ b o = let p = h.placed in elim (cases_eq (d.columns j f i) 0) [
      | inl e ↦ nothing (inverse (order M f) (own f (groups w.0))) e
      | inr ne ↦ ap (λ g. times (order M f) (inverse (order M f) (own f (groups w.0)))
          (times (order M f) (own f g) (d.columns j f i))) (p.in_one_group j f f i w.0 l b b o w.1 ne w.2)
          ∙ undone (order M f) (field M shaped f b) (own f (groups w.0)) (d.columns j f i) (own_scalars f (groups w.0) b)
          (let v = p.coordinates j l in v.codes f i b o)
    ]
      where
        nothing : (y : ℕ) → d.columns j f i ≡ 0 → times (order M f) y (times (order M f) (own f (groups i)) (d.columns j f i)) ≡ d.columns j f i
        nothing y e = ap (λ v. times (order M f) y (times (order M f) (own f (groups i)) v)) e
            ∙ ap (times (order M f) y) (times_zero (order M f) (field M shaped f b) (own f (groups i)))
            ∙ times_zero (order M f) (field M shaped f b) y ∙ sym e
    stays f j i (inl l) (inr v) _ b o =
        ap (λ v. times (order M f) 1 (times (order M f) (own f (groups i)) v)) (v i o)
        ∙ ap (times (order M f) 1) (times_zero (order M f) (field M shaped f b) (own f (groups i)))
        ∙ times_zero (order M f) (field M shaped f b) 1 ∙ sym (v i o)
    stays f j i (inr g) w l b o = absurd (omega arith)

    at_end : (f : ℕ) (t : (s < s) ⊎ (s ≤ s))
        (w : ((i : ℕ) × (i < M.rank) × (d.columns s f i ≢ 0)) ⊎ ((i : ℕ) → i < M.rank → d.columns s f i ≡ 0)) → multiple_by f s t w ≡ 1
    unfolding multiple_by
    at_end f (inl l) w = absurd (omega arith)
    at_end f (inr g) w = refl

    abbrev multiple : ℕ → ℕ → ℕ
    multiple f j = multiple_by f j (cases_lt j s) (pivot_row M.rank (d.columns j f))

    pub exchange_open : (L : Rep) × IsNext L
    exchange_open =
        let (L, w) = made M shaped some d scalars k label place labels bases label_row (λ f i. own f (groups i))
        (λ f i l _. own_scalars f (groups i) l) (s + 1) (let b : here < size M = here_below in omega arith)
        columns coordinates zeros multiple (λ f j l _. multiple_is f j (cases_lt j s) (pivot_row M.rank (d.columns j f)) l) in (
          L,
          record {
            standard = w.standard;
            equivalent = w.equivalent;
            as_before = λ j f i l b o.
                w.entries j f i (omega arith) b o
                ∙ ap (λ (v : ℕ → ℕ → ℕ). times (order M f) (multiple f j) (times (order M f) (own f (groups i)) (v f i))) (columns_before j l)
                ∙ stays f j i (cases_lt j s) (pivot_row M.rank (d.columns j f)) l b o;
            next = λ f i b o.
                w.entries s f i (omega arith) b o
                ∙ ap (λ (v : ℕ → ℕ → ℕ). times (order M f) (multiple f s) (times (order M f) (own f (groups i)) (v f i))) (columns_here s (omega arith))
                ∙ ap (λ y. times (order M f) y (scaled M groups own c f i)) (at_end f (cases_lt s s) (pivot_row M.rank (d.columns s f)))
                ∙ (let F = field M shaped f b in F.times_one (scaled M groups own c f i) (F.times_below _ _));
          },
        )
