-- The steps from row to row: an element is chosen, and the elements outside become the next frame.
use Rattle.std.proofs.Common.{◌≡◌, ◌≢◌, ◌⊎◌, inl, inr, ℕ, suc, ◌+◌, ◌<◌, ◌≤◌, List, length, sym, ◌∙◌, ap, subst, arith}
use Rattle.std.proofs.lemmas.Bool.{cases_lt, cases_eq}
use Rattle.matroid_theory.specs.Field.{plus, times}
use Rattle.matroid_theory.specs.Rep.{Rep, count, size, order, matrix, IsShaped}
use Rattle.matroid_theory.specs.Move.{Move}
use Rattle.matrix_lemmas.proofs.Bases.{search_below}
use Rattle.matrix_lemmas.proofs.Sums.{combination-scaled, sum_same}
use Rattle.form_trails.specs.Trail.{ReachesForm, Trail, AreCoordinates, Follows, IsOrdered, IsTrail}
use Rattle.matroid_theory.specs.Exchange.{exchange}
use Rattle.form_trails.specs.Pivot.{pivoted}
use Rattle.form_search.specs.Search.{Entries, IsThere, IsEntry, HasElement, IsLed, IsFrame, IsPlacing}
use Rattle.form_trails.proofs.Scalars.{IsScalar, times_scalar, times_turn}
use Rattle.matrix_lemmas.proofs.Exchanges.{exchange_one, exchange_two, exchange_other}
use Rattle.form_trails.proofs.Entries.{field}
use Rattle.form_trails.proofs.Ordered.{coordinates_same}
use Rattle.form_trails.proofs.Chosen.{own_place, chosen, chosen_here, chosen_after, chosen_coordinates, chosen_trail}
use Rattle.form_trails.proofs.Heads.{layer_before, head_same}

-- ---- an element is chosen for row k

-- the elements that the chosen one brings into the flat, and those that stay outside, with their codes
pub record IsDivided (M : Rep) (k : ℕ) (E : Entries) (b p : ℕ) (minus : ℕ → ℕ → ℕ) (layer rest : Entries) : Type 0 where
  pub layer_total : layer.total ≡ E.total
  pub rest_total : rest.total ≡ E.total
  pub layer_element : layer.element ≡ E.element
  pub rest_element : rest.element ≡ E.element
  pub layer_there : (e : ℕ) → IsThere layer e → IsThere E e × (e ≢ b)
  pub layer_same : (e : ℕ) → IsThere layer e → (f i : ℕ) → f < count M → i ≤ k → E.codes e f i ≡ E.codes b f i
  pub layer_codes : (e : ℕ) → IsThere layer e → (f i : ℕ) → f < count M → i < M.rank → pivoted M p k minus (E.codes e) f i ≡ layer.codes e f i
  pub rest_there : (e : ℕ) → IsThere rest e → IsThere E e × (e ≢ b)
  pub rest_other : (e : ℕ) → IsThere rest e → ((f i : ℕ) → f < count M → i ≤ k → E.codes e f i ≡ E.codes b f i) → ⊥
  pub rest_codes : (e : ℕ) → IsThere rest e → (f i : ℕ) → f < count M → i < M.rank → pivoted M p k minus (E.codes e) f i ≡ rest.codes e f i
  pub both : (e : ℕ) → IsThere E e → e ≢ b → IsThere layer e ⊎ IsThere rest e

module _ (M : Rep) (shaped : IsShaped M) (some : 0 < count M) (k : ℕ) (groups : ℕ → ℕ) (settled : List ℕ) (E : Entries) (d : Trail)
    (h : IsFrame M (suc k) groups settled E d)
    (b : ℕ) (there : IsThere E b) (p : ℕ) (p_most : p ≤ k) (ones : (f : ℕ) → f < count M → E.codes b f p ≡ 1)
    (zeros : (f i : ℕ) → f < count M → i < p → E.codes b f i ≡ 0)
    (minus : ℕ → ℕ → ℕ) (minus_code : (f i : ℕ) → f < count M → i < M.rank → minus f i < order M f)
    (opposite : (f i : ℕ) → f < count M → i < M.rank → plus (order M f) (E.codes b f i) (minus f i) ≡ 0)
    (layer rest : Entries) (division : IsDivided M k E b p minus layer rest) where
  abbrev s : ℕ
  s = length settled

  x_entry : IsEntry M (suc k) s d (E.element b) (E.codes b)
  x_entry = let a = h.entries in a.each b there

  abbrev pub with_row : Trail
  with_row = let w = let a = h.entries in a.each b there in
      chosen M shaped some k s groups d h.trail (E.element b) w.below w.unsettled (E.codes b) w.coordinates p p_most ones

  trail : IsTrail M k s groups with_row
  trail = let w = let a = h.entries in a.each b there in
      chosen_trail M shaped some k s groups d h.trail (E.element b) w.below w.unsettled (E.codes b) w.coordinates p p_most ones

  k_in_rank : k < M.rank
  k_in_rank = let t = h.trail in let r : suc k ≤ M.rank = t.rows in omega arith

  ordered : IsOrdered M d
  ordered = let t = h.trail in t.ordered

  abbrev x : ℕ
  x = E.element b

  pivoted_coordinates : (y : ℕ) (c : ℕ → ℕ → ℕ) → AreCoordinates M d y c → AreCoordinates M with_row y (pivoted M p k minus c)
  pivoted_coordinates y c a = let w = let a = h.entries in a.each b there in
      chosen_coordinates M shaped some k s groups d h.trail (E.element b) w.below w.unsettled (E.codes b) w.coordinates p p_most ones minus opposite y c a

  -- the element of the row is at row p or after the columns placed
  own_row : d.place x < M.rank → d.place x ≡ p
  own_row = let w = let a = h.entries in a.each b there in
      own_place M shaped some k s groups d h.trail (E.element b) w.below w.unsettled (E.codes b) w.coordinates p p_most ones

  -- the places of the others
  place_other : (y : ℕ) → y < size M → y ≢ x → (d.place y < suc k) ⊎ (M.rank + s ≤ d.place y) → (with_row.place y < k) ⊎ (M.rank + s ≤ with_row.place y)
  place_other y by ne u =
      let w = ordered.labels in
      let differ : d.place y ≢ d.place x = (λ e. ne (sym (w.back y by) ∙ ap d.label e ∙ w.back x (let v = x_entry in v.below))) in
      elim (cases_eq (d.place y) p) [
        | inl z ↦ (let e1 : exchange p (d.place x) (d.place y) ≡ d.place x = ap (exchange p (d.place x)) z ∙ exchange_one p (d.place x) in
            let far : M.rank ≤ d.place x = at_least differ z in
            let v = x_entry in
            let px : M.rank + s ≤ d.place x = elim v.unsettled [ inl l ↦ (let r : k < M.rank = k_in_rank in absurd (omega arith)) | inr l ↦ l ] in
            let e2 : exchange p k (d.place x) ≡ d.place x = exchange_other p k (d.place x)
            (λ q. (let r : k < M.rank = k_in_rank in absurd (omega arith))) (λ q. (let r : k < M.rank = k_in_rank in absurd (omega arith))) in
            let e : with_row.place y ≡ d.place x = ap (exchange p k) e1 ∙ e2 in inr (omega arith))
        | inr n ↦ (let e1 : exchange p (d.place x) (d.place y) ≡ d.place y = exchange_other p (d.place x) (d.place y) n differ in
            elim (cases_eq (d.place y) k) [
              | inl z ↦ (let e : with_row.place y ≡ p = ap (exchange p k) (e1 ∙ z) ∙ exchange_two p k in
                  let o : p ≢ k = (λ q. n (z ∙ sym q)) in inl (omega arith))
              | inr n' ↦ (let e : with_row.place y ≡ d.place y = ap (exchange p k) e1 ∙ exchange_other p k (d.place y) n n' in
                  elim u [ inl l ↦ inl (omega arith) | inr l ↦ inr (omega arith) ])
            ])
      ]
    where
      at_least : d.place y ≢ d.place x → d.place y ≡ p → M.rank ≤ d.place x
      at_least differ z = elim (cases_lt (d.place x) M.rank) [ inl l ↦ absurd (differ (z ∙ sym (own_row l))) | inr g ↦ g ]

  entry_of : (y : ℕ) (c v : ℕ → ℕ → ℕ) → IsEntry M (suc k) s d y c → y ≢ x →
      ((f i : ℕ) → f < count M → i < M.rank → pivoted M p k minus c f i ≡ v f i) → IsEntry M k s with_row y v
  entry_of y c v w ne e = record {
    below = w.below;
    coordinates = coordinates_same M shaped with_row y (pivoted M p k minus c) v (pivoted_coordinates y c w.coordinates) e;
    unsettled = place_other y w.below ne w.unsettled;
  }

  apart_from : (e : ℕ) → IsThere E e → e ≢ b → E.element e ≢ x
  apart_from e t n z = n (let a = h.entries in a.apart e b t there z)

  -- of another head, something is left before row k
  some_left : (e : ℕ) → IsThere rest e → (f : ℕ) × (i : ℕ) × (f < count M) × (i < k) × (rest.codes e f i ≢ 0)
  some_left e t = elim (search_below (count M) (λ f. (i : ℕ) × (i < k) × (rest.codes e f i ≢ 0)) (λ f. (i : ℕ) → i < k → rest.codes e f i ≡ 0) row) [
    | inl w ↦ (let (i, l, n) = w.2 in (w.0, i, w.1, l, n))
    | inr z ↦ absurd (division.rest_other e t (λ f i l o.
        (let w = let a = h.entries in a.each e ((division.rest_there e t).0) in let v = let a = h.entries in a.each b there in
        let u = h.led e ((division.rest_there e t).0) in
        head_same M shaped p k p_most k_in_rank minus (E.codes e) (E.codes b) (let q = v.coordinates in q.codes)
        (let q = w.coordinates in q.codes) minus_code opposite ones
        (λ f i l q. division.rest_codes e t f i l (let r : k < M.rank = k_in_rank in omega arith) ∙ z f l i q) zeros u.lead
        (let q = u.lead_before in omega arith) u.ones u.zeros f i l o)))
  ]
    where
      row : (f : ℕ) → f < count M → ((i : ℕ) × (i < k) × (rest.codes e f i ≢ 0)) ⊎ ((i : ℕ) → i < k → rest.codes e f i ≡ 0)
      row f _ = search_below k (λ i. rest.codes e f i ≢ 0) (λ i. rest.codes e f i ≡ 0)
          (λ i _. elim (cases_eq (rest.codes e f i) 0) [ inl z ↦ inr z | inr n ↦ inl n ])

  pub chosen_state : IsPlacing M k groups settled layer rest with_row
  chosen_state = record {
    trail = trail;
    numbers = h.numbers;
    inside = record {
      each = λ e t. (let (te, n) = division.layer_there e t in
          subst (λ (y : ℕ). IsEntry M k s with_row y (layer.codes e)) (λ i. sym division.layer_element i e)
          (entry_of (E.element e) (E.codes e) (layer.codes e) (let a = h.entries in a.each e te) (apart_from e te n) (division.layer_codes e t)));
      apart = λ e g t u z. (let a = h.entries in
          a.apart e g (division.layer_there e t).0 (division.layer_there g u).0
          ((λ i. sym division.layer_element i e) ∙ z ∙ (λ i. division.layer_element i g)));
    };
    zeros = λ e t f i l o. sym (division.layer_codes e t f i l (let r : k < M.rank = k_in_rank in omega arith)) ∙
        (let w = let a = h.entries in a.each e ((division.layer_there e t).0) in let v = let a = h.entries in a.each b there in
        layer_before M shaped p k p_most k_in_rank minus (E.codes e) (E.codes b) (let q = v.coordinates in q.codes)
        (let q = w.coordinates in q.codes) minus_code opposite ones (division.layer_same e t) f i l o);
    others = record {
      each = λ e t. (let (te, n) = division.rest_there e t in
          subst (λ (y : ℕ). IsEntry M k s with_row y (rest.codes e)) (λ i. sym division.rest_element i e)
          (entry_of (E.element e) (E.codes e) (rest.codes e) (let a = h.entries in a.each e te) (apart_from e te n) (division.rest_codes e t)));
      apart = λ e g t u z. (let a = h.entries in
          a.apart e g (division.rest_there e t).0 (division.rest_there g u).0
          ((λ i. sym division.rest_element i e) ∙ z ∙ (λ i. division.rest_element i g)));
    };
    outside = some_left;
    whole = whole;
  }
    where
      -- an element that isn't settled then wasn't before, and is another
      whole : (q : ℕ) → q < size M → (q < k) ⊎ (M.rank + s ≤ q) → HasElement layer (with_row.label q) ⊎ HasElement rest (with_row.label q)
      whole q bq u =
          let w = let t = trail in let o = t.ordered in o.labels in
          let v = ordered.labels in
          let yb : with_row.label q < size M = w.below q bq in
          let ne : with_row.label q ≢ x = (λ z. row_of q bq u z) in
          let c = h.whole (d.place (with_row.label q)) (v.inverse_below (with_row.label q) yb) (before q bq u) in
          let z : E.element c.0 ≡ with_row.label q = c.2 ∙ v.back (with_row.label q) yb in
          elim (division.both c.0 c.1 (λ e. ne (sym z ∙ ap E.element e))) [
            | inl t ↦ inl (c.0, t, (λ i. division.layer_element i c.0) ∙ z)
            | inr t ↦ inr (c.0, t, (λ i. division.rest_element i c.0) ∙ z)
          ]
        where
          -- row k has the chosen element
          row_of : (q : ℕ) → q < size M → (q < k) ⊎ (M.rank + s ≤ q) → with_row.label q ≡ x → ⊥
          row_of q bq u z =
              let w = let t = trail in let o = t.ordered in o.labels in
              let at : with_row.label k ≡ x = (let e = let a = h.entries in a.each b there in
              chosen_here M shaped some k s groups d h.trail (E.element b) e.below e.unsettled (E.codes b) e.coordinates p p_most ones) in
              let r : M.rank ≤ size M = ordered.room in let kr : k < M.rank = k_in_rank in
              let e : q ≡ k = sym (w.there q bq) ∙ ap with_row.place (z ∙ sym at) ∙ w.there k (omega arith) in
              elim u [ inl l ↦ omega arith | inr l ↦ omega arith ]

          before : (q : ℕ) → q < size M → (q < k) ⊎ (M.rank + s ≤ q) → (d.place (with_row.label q) < suc k) ⊎ (M.rank + s ≤ d.place (with_row.label q))
          before q bq u =
              let v = ordered.labels in
              let w = let t = trail in let o = t.ordered in o.labels in
              elim (cases_lt (d.place (with_row.label q)) (suc k)) [
                | inl l ↦ inl l
                | inr g ↦ elim (cases_lt (d.place (with_row.label q)) (M.rank + s)) [
                  | inr g' ↦ inr g'
                  | inl l ↦ (let e = let a = h.entries in a.each b there in
                      let z : with_row.label (d.place (with_row.label q)) ≡ with_row.label q =
                      chosen_after M shaped some k s groups d h.trail (E.element b) e.below e.unsettled
                      (E.codes b) e.coordinates p p_most ones (d.place (with_row.label q)) g l ∙ v.back (with_row.label q) (w.below q bq) in
                      let y : d.place (with_row.label q) ≡ q =
                      sym (w.there (d.place (with_row.label q)) (v.inverse_below (with_row.label q) (w.below q bq)))
                      ∙ ap with_row.place z ∙ w.there q bq in
                      elim u [ inl a ↦ inl (omega arith) | inr a ↦ inr (omega arith) ])
                ]
              ]

  -- what follows the trail and takes the element for row k follows the trail after it
  pub follows_chosen : (m : Move) → Follows M d (suc k) s m → m.label k ≡ x → Follows M with_row k s m
  follows_chosen m f e = let w = let a = h.entries in a.each b there in record {
    same = λ q a l. elim (cases_lt k q) [
      | inl g ↦ f.same q g l ∙ sym
          (chosen_after M shaped some k s groups d h.trail (E.element b) w.below w.unsettled (E.codes b) w.coordinates p p_most ones q g l)
      | inr g ↦ (let z : k ≡ q = omega arith in ap m.label (sym z) ∙ e
          ∙ sym (chosen_here M shaped some k s groups d h.trail (E.element b) w.below w.unsettled
          (E.codes b) w.coordinates p p_most ones) ∙ ap with_row.label z)
    ];
  }

-- a form's element for the next row is in the frame
module _ (M : Rep) (k : ℕ) (groups : ℕ → ℕ) (settled : List ℕ) (E : Entries) (d : Trail) (h : IsFrame M (suc k) groups settled E d)
    (m : Move) (N : Rep) (reach : ReachesForm M m N) (follows : Follows M d (suc k) (length settled) m) where
  pub next_row_element : HasElement E (m.label k)
  next_row_element =
      let t = h.trail in let o = t.ordered in let v = o.labels in let w = reach.valid.labels in
      let r : suc k ≤ M.rank = t.rows in let q : M.rank ≤ size M = o.room in
      let kb : k < size M = omega arith in
      let b : m.label k < size M = w.below k kb in
      let c = h.whole (d.place (m.label k)) (v.inverse_below (m.label k) b)
      (place (d.place (m.label k)) (v.back (m.label k) b) (v.inverse_below (m.label k) b) kb) in
      (c.0, c.1, c.2 ∙ v.back (m.label k) b)
    where
      place : (p : ℕ) → d.label p ≡ m.label k → p < size M → k < size M → (p < suc k) ⊎ (M.rank + length settled ≤ p)
      place p e pb kb = elim (cases_lt p (suc k)) [
        | inl l ↦ inl l
        | inr g ↦ elim (cases_lt p (M.rank + length settled)) [
          | inr g' ↦ inr g'
          | inl l ↦ (let w = reach.valid.labels in let z : p ≡ k = sym (w.there p pb) ∙ ap m.place (follows.same p g l ∙ e)
              ∙ w.there k kb in absurd (omega arith))
        ]
      ]

-- ---- the elements outside become the next frame

-- multiples of coordinates are coordinates
pub coordinates_multiple : (M : Rep) → IsShaped M → (d : Trail) (x : ℕ) (c v : ℕ → ℕ → ℕ) (multiple : ℕ → ℕ) →
    ((f : ℕ) → f < count M → IsScalar (order M f) (multiple f))
    → ((f i : ℕ) → f < count M → i < M.rank → v f i ≡ times (order M f) (multiple f) (c f i)) → AreCoordinates M d x c → AreCoordinates M d x v
coordinates_multiple M shaped d x c v multiple w e a = record {
  codes = λ f i l b. subst (λ y. y < order M f) (sym (e f i l b)) (let F = field M shaped f l in F.times_below _ _);
  scale = λ f. times (order M f) (multiple f) (a.scale f);
  scale_code = λ f l. let F = field M shaped f l in F.times_below _ _;
  scale_nonzero = λ f l. let t = times_scalar (order M f) (field M shaped f l) (multiple f) (a.scale f) (w f l)
      (record { code = a.scale_code f l; nonzero = a.scale_nonzero f l }) in t.nonzero;
  combined = λ f i l b. let F = field M shaped f l in
      sum_same (order M f) F M.rank (λ j. times (order M f) (matrix M f i (d.label j)) (times (order M f) (d.scalar f j) (v f j)))
      (λ j. times (order M f) (matrix M f i (d.label j)) (times (order M f) (multiple f) (times (order M f) (d.scalar f j) (c f j))))
      (λ j o. ap (times (order M f) (matrix M f i (d.label j)))
      (ap (times (order M f) (d.scalar f j)) (e f j l o) ∙ times_turn (order M f) F (d.scalar f j) (multiple f) (c f j)))
      ∙ combination-scaled (order M f) F M.rank (λ i l. matrix M f i (d.label l)) (multiple f) (λ j. times (order M f) (d.scalar f j) (c f j)) i
      ∙ ap (times (order M f) (multiple f)) (a.combined f i l b) ∙ sym (F.times_assoc (multiple f) (a.scale f) (matrix M f i x));
}

-- each column is a multiple of that of the element outside, and led
pub record IsScaledTo (M : Rep) (k : ℕ) (rest E : Entries) : Type 0 where
  pub same_total : E.total ≡ rest.total
  pub same_element : E.element ≡ rest.element
  pub there : (e : ℕ) → IsThere E e → IsThere rest e
  pub back : (e : ℕ) → IsThere rest e → IsThere E e
  pub multiple : (e : ℕ) → IsThere E e → (u : ℕ → ℕ) × ((f : ℕ) → f < count M → IsScalar (order M f) (u f))
      × ((f i : ℕ) → f < count M → i < M.rank → E.codes e f i ≡ times (order M f) (u f) (rest.codes e f i))
  pub led : (e : ℕ) → IsThere E e → IsLed M k (E.codes e)

pub next_frame : (M : Rep) → IsShaped M → (k : ℕ) (groups : ℕ → ℕ) (settled : List ℕ) (layer rest E : Entries) (d : Trail) →
    IsPlacing M k groups settled layer rest d
    → ((e : ℕ) → IsThere layer e → ⊥) → IsScaledTo M k rest E → IsFrame M k groups settled E d
next_frame M shaped k groups settled layer rest E d h none w = record {
  trail = h.trail;
  numbers = h.numbers;
  entries = record {
    each = λ e t. (let r = let a = h.others in a.each e (w.there e t) in let (u, us, ue) = w.multiple e t in
        subst (λ (y : ℕ). IsEntry M k (length settled) d y (E.codes e)) (λ i. sym w.same_element i e)
        (record {
          below = r.below;
          coordinates = coordinates_multiple M shaped d (rest.element e) (rest.codes e)
              (E.codes e) u us ue r.coordinates;
          unsettled = r.unsettled;
        }));
    apart = λ e g t t' z. (let a = h.others in a.apart e g (w.there e t) (w.there g t') ((λ i. sym w.same_element i e) ∙ z ∙ (λ i. w.same_element i g)));
  };
  led = w.led;
  whole = λ p b u. elim (h.whole p b u) [
    | inl c ↦ absurd (none c.0 c.1)
    | inr c ↦ (c.0, w.back c.0 c.1, (λ i. w.same_element i c.0) ∙ c.2)
  ];
}
