-- The steps of placing: the form's next element is open and has the least number, and the state after it is placed.
use Rattle.std.proofs.Common.{◌≡◌, ◌≢◌, ◌⊎◌, inl, inr, refl, ℕ, suc, ◌+◌, ◌-◌, ◌*◌, ◌^◌, ◌<◌, ◌≤◌, Bool, true, false, List, [], ◌∷◌, ◌++◌, length, length-append, slice_index, sym, ◌∙◌, ap, subst, arith, not}
use Rattle.std.specs.Prelude.{◌&&◌}
use Rattle.std.specs.Bool.{◌==◌}
use Rattle.std.proofs.lemmas.Bool.{cases_lt, cases_eq}
use Rattle.matroid_theory.specs.Field.{times}
use Rattle.matroid_theory.specs.Rep.{Rep, count, size, order, matrix, IsShaped}
use Rattle.matroid_theory.specs.Move.{Move}
use Rattle.form_trails.specs.Trail.{ReachesForm, Trail, AreCoordinates, Follows, IsOrdered, IsTrail, TiesGroups}
use Rattle.matroid_theory.specs.Exchange.{exchange}
use Rattle.form_trails.specs.Least.{number, scaled, MakesOnes}
use Rattle.form_search.specs.Search.{Entries, IsThere, IsEntry, IsPlacing}
use Rattle.std.proofs.Math.Seq.{get_or-append_seam}
use Rattle.std.proofs.Math.ListN.{get_or-append}
use Rattle.matrix_lemmas.proofs.Sums.{same_number, other_number, times_zero}
use Rattle.form_trails.proofs.Scalars.{zero_factor}
use Rattle.form_trails.proofs.Entries.{field}
use Rattle.matrix_lemmas.proofs.Exchanges.{exchange_one, exchange_two, exchange_other}
use Rattle.form_trails.proofs.Coordinates.{own_nonzero, zero_in_both}
use Rattle.form_trails.proofs.Reached.{not_before}
use Rattle.form_trails.proofs.LeastNext.{next_at_most_open, next_within, next_number, next_outside}
use Rattle.form_trails.proofs.Placed.{placed, placed_trail, placed_coordinates, label_before, label_here, columns_before, columns_here}

pub and_true : (a b : Bool) → (a && b) ≡ true → (a ≡ true) × (b ≡ true)
and_true true b e = (refl, e)
and_true false b e = cc

pub both_true : (a b : Bool) → a ≡ true → b ≡ true → (a && b) ≡ true
both_true true b e z = z
both_true false b e z = cc

pub not_same : (a : Bool) → not a ≡ true → a ≡ true → ⊥
not_same true n e = cc
not_same false n e = cc

module _ (M : Rep) (shaped : IsShaped M) (some : 0 < count M) (k : ℕ) (groups : ℕ → ℕ) (settled : List ℕ) (layer rest : Entries)
    (d : Trail) (h : IsPlacing M k groups settled layer rest d) where
  abbrev s : ℕ
  s = length settled

  ordered : IsOrdered M d
  ordered = let t = h.trail in t.ordered

  low_row : k ≤ M.rank
  low_row = let t = h.trail in t.rows

  -- an open element is after the columns placed
  pub open_place : (e : ℕ) → IsThere layer e → M.rank + s ≤ d.place (layer.element e)
  open_place e t = let w = let a = h.inside in a.each e t in elim w.unsettled [
    | inr g ↦ g
    | inl l ↦ absurd (own_nonzero M shaped d ordered (layer.element e) w.below (layer.codes e) w.coordinates
        (let r = low_row in omega arith) 0 some (h.zeros e t 0 (d.place (layer.element e)) some l))
  ]

  module _ (m : Move) (N : Rep) (reach : ReachesForm M m N) (follows : Follows M d k s m) where
    -- a place that isn't settled comes from one that isn't
    pub unsettled_place : (x : ℕ) → x < size M → (q : ℕ) → q < size M → m.label q ≡ x → (q < k) ⊎ (M.rank + s ≤ q) → (d.place x < k) ⊎ (M.rank + s ≤ d.place x)
    unsettled_place x b q bq e u = elim (cases_lt (d.place x) k) [
      | inl l ↦ inl l
      | inr g ↦ elim (cases_lt (d.place x) (M.rank + s)) [
        | inr g' ↦ inr g'
        | inl l ↦ (let w = reach.valid.labels in let v = ordered.labels in
            let z : m.label (d.place x) ≡ x = follows.same (d.place x) g l ∙ v.back x b in
            let y : q ≡ d.place x = sym (w.there q bq) ∙ ap m.place (e ∙ sym z) ∙ w.there (d.place x) (v.inverse_below x b) in
            elim u [ inl a ↦ inl (omega arith) | inr a ↦ inr (omega arith) ])
      ]
    ]

    -- an open element is after them in the form too
    pub open_in_form : (e : ℕ) → IsThere layer e → M.rank + s ≤ m.place (layer.element e)
    open_in_form e t = let w = let a = h.inside in a.each e t in let x = layer.element e in
        let g : k ≤ m.place x = not_before M shaped some d ordered k low_row m N
        (let f = reach.form in f.standard) reach.valid reach.takes (λ i a b. follows.same i a (omega arith)) x w.below
        (layer.codes e) w.coordinates (h.zeros e t) in
        elim (cases_lt (m.place x) (M.rank + s)) [
          | inr g' ↦ g'
          | inl l ↦ (let u = reach.valid.labels in let v = ordered.labels in
              let z : d.label (m.place x) ≡ x = sym (follows.same (m.place x) g l) ∙ u.back x w.below in
              let y : m.place x ≡ d.place x = sym (v.there (m.place x) (u.inverse_below x w.below)) ∙ ap d.place z in
              let p : M.rank + s ≤ d.place x = open_place e t in omega arith)
        ]

    module _ (own : ℕ → ℕ → ℕ → ℕ) (ones : (e : ℕ) → IsThere layer e → MakesOnes M groups (layer.codes e) (own e))
        (low : ℕ) (least : (e : ℕ) → IsThere layer e → low ≤ number M (scaled M groups (own e) (layer.codes e)))
        (g : ℕ) (there : IsThere layer g) (reached : number M (scaled M groups (own g) (layer.codes g)) ≡ low) where
      room : M.rank + s < size M
      room = let w = let a = h.inside in a.each g there in let u = reach.valid.labels in
          let b : m.place (layer.element g) < size M = u.inverse_below (layer.element g) w.below in
          let q : M.rank + s ≤ m.place (layer.element g) = open_in_form g there in omega arith

      abbrev next : ℕ
      next = m.label (M.rank + s)

      next_below : next < size M
      next_below = let u = reach.valid.labels in u.below (M.rank + s) room

      at_most : number M (λ f i. matrix N f i (M.rank + s)) ≤ low
      at_most = let w = let a = h.inside in a.each g there in
          let n : number M (λ f i. matrix N f i (M.rank + s)) ≤ number M (scaled M groups (own g) (layer.codes g)) =
          next_at_most_open M shaped some k s groups d h.trail m N reach follows (layer.element g) w.below (open_in_form g there)
          (layer.codes g) w.coordinates (h.zeros g there) (own g) (ones g there) in omega arith

      within : number M (λ f i. matrix N f i (M.rank + s)) < 16 ^ ((M.rank - k) * count M)
      within = let w = let a = h.inside in a.each g there in
          next_within M shaped some k s groups d h.trail m N reach follows (layer.element g) w.below (open_in_form g there)
          (layer.codes g) w.coordinates (h.zeros g there) (own g) (ones g there)

      -- the form's next element is one of those that have the least number, and this is the number of the next column
      pub record IsBranch (e : ℕ) : Type 0 where
        pub is_there : IsThere layer e
        pub is_next : m.label (M.rank + s) ≡ layer.element e
        pub least_is : number M (scaled M groups (own e) (layer.codes e)) ≡ low
        pub number_is : number M (λ f i. matrix N f i (M.rank + s)) ≡ low

      from_layer : (e : ℕ) → IsThere layer e → layer.element e ≡ next → IsBranch e
      from_layer e t z = let w = let a = h.inside in a.each e t in
          let n : number M (λ f i. matrix N f i (M.rank + s)) ≡ number M (scaled M groups (own e) (layer.codes e)) =
          next_number M shaped some k s groups d h.trail m N reach follows (layer.element e) w.below (open_in_form e t)
          (layer.codes e) w.coordinates (h.zeros e t) (own e) (ones e t) (sym z) in
          let b : low ≤ number M (scaled M groups (own e) (layer.codes e)) = least e t in
          let u : number M (λ f i. matrix N f i (M.rank + s)) ≤ low = at_most in
          record { is_there = t; is_next = sym z; least_is = omega arith; number_is = omega arith }

      pub next_branch : (e : ℕ) × IsBranch e
      next_branch =
          let v = ordered.labels in
          let u : (d.place next < k) ⊎ (M.rank + s ≤ d.place next) = unsettled_place next next_below (M.rank + s) room refl (inr (omega arith)) in
          elim (h.whole (d.place next) (v.inverse_below next next_below) u) [
            | inl w ↦ (w.0, from_layer w.0 w.1 (w.2 ∙ v.back next next_below))
            | inr w ↦ (let (f, i, l, b, ne) = h.outside w.0 w.1 in let t = let a = h.others in a.each w.0 w.1 in
                let z : rest.element w.0 ≡ next = w.2 ∙ v.back next next_below in
                let n : 16 ^ ((M.rank - k) * count M) ≤ number M (λ f i. matrix N f i (M.rank + s)) =
                next_outside M shaped some k s groups d h.trail m N reach follows room (rest.codes w.0)
                (subst (λ y. AreCoordinates M d y (rest.codes w.0)) z t.coordinates) f i l b ne in
                let q : number M (λ f i. matrix N f i (M.rank + s)) < 16 ^ ((M.rank - k) * count M) = within in absurd (omega arith))
          ]

    -- where no element is open, the next column is outside the flat
    pub next_beyond : ((e : ℕ) → IsThere layer e → ⊥) → M.rank + s < size M → 16 ^ ((M.rank - k) * count M) ≤ number M (λ f i. matrix N f i (M.rank + s))
    next_beyond none room =
        let v = ordered.labels in let u = reach.valid.labels in
        let b : m.label (M.rank + s) < size M = u.below (M.rank + s) room in
        elim (h.whole (d.place (m.label (M.rank + s))) (v.inverse_below (m.label (M.rank + s)) b)
        (unsettled_place (m.label (M.rank + s)) b (M.rank + s) room refl (inr (omega arith)))) [
          | inl w ↦ absurd (none w.0 w.1)
          | inr w ↦ (let (f, i, l, b', ne) = h.outside w.0 w.1 in let t = let a = h.others in a.each w.0 w.1 in
              next_outside M shaped some k s groups d h.trail m N reach follows room (rest.codes w.0)
              (subst (λ y. AreCoordinates M d y (rest.codes w.0)) (w.2 ∙ v.back (m.label (M.rank + s)) b) t.coordinates) f i l b' ne)
        ]

  -- ---- after the element is placed

  module _ (g : ℕ) (there : IsThere layer g) (own : ℕ → ℕ → ℕ) (ones : MakesOnes M groups (layer.codes g) own) (more : ℕ → ℕ)
      (ties : TiesGroups M k groups (layer.codes g) more) where
    x_entry : IsEntry M k s d (layer.element g) (layer.codes g)
    x_entry = let a = h.inside in a.each g there

    abbrev pub after : Trail
    after = let w = let a = h.inside in a.each g there in
        placed M shaped some k s groups d h.trail (layer.element g) w.below (open_place g there) (layer.codes g) w.coordinates
        (h.zeros g there) own ones more ties

    abbrev pub layer_after : Entries
    layer_after = record {
      total = layer.total;
      there = λ e. not (e == g) && layer.there e;
      element = layer.element;
      codes =
          λ e. scaled M groups own (layer.codes e);
    }

    abbrev pub rest_after : Entries
    rest_after = record rest { codes = λ e. scaled M groups own (rest.codes e) }

    abbrev x : ℕ
    x = layer.element g

    unsettled_after : (y : ℕ) → y < size M → y ≢ x → (d.place y < k) ⊎ (M.rank + s ≤ d.place y) → (after.place y < k) ⊎ (M.rank + suc s ≤ after.place y)
    unsettled_after y b ne u =
        let w = ordered.labels in
        let px : M.rank + s ≤ d.place x = open_place g there in
        let differ : d.place y ≢ d.place x = (λ e. ne (sym (w.back y b) ∙ ap d.label e ∙ w.back x (x_entry.below))) in
        elim u [
          | inl l ↦ (let e : after.place y ≡ d.place y = exchange_other (M.rank + s) (d.place x) (d.place y)
              (λ z. (let r : k ≤ M.rank = low_row in absurd (omega arith))) differ in inl (omega arith))
          | inr l ↦ elim (cases_eq (d.place y) (M.rank + s)) [
            | inl z ↦ (let e : after.place y ≡ d.place x = ap (exchange (M.rank + s) (d.place x)) z ∙ exchange_one (M.rank + s) (d.place x) in
                let n : d.place x ≢ M.rank + s = (λ v. differ (z ∙ sym v)) in inr (omega arith))
            | inr n ↦ (let e : after.place y ≡ d.place y = exchange_other (M.rank + s) (d.place x) (d.place y) n differ in inr (omega arith))
          ]
        ]

    entry_after : (y : ℕ) (c : ℕ → ℕ → ℕ) → y ≢ x → IsEntry M k s d y c → IsEntry M k (suc s) after y (scaled M groups own c)
    entry_after y c ne w = record {
      below = w.below;
      coordinates = (let v = let a = h.inside in a.each g there in
          placed_coordinates M shaped some k s groups d h.trail x v.below (open_place g there) (layer.codes g) v.coordinates
          (h.zeros g there) own ones more ties y c w.coordinates);
      unsettled = unsettled_after y w.below ne w.unsettled;
    }

    still_there : (e : ℕ) → IsThere layer_after e → IsThere layer e × (e ≢ g)
    still_there e t =
        let (n, b) = and_true (not (e == g)) (layer.there e) t.passes in
        (record { below = t.below; passes = b }, λ z. not_same (e == g) n (ap (λ y. y == g) z ∙ same_number g))

    scaled_zero : (c : ℕ → ℕ → ℕ) (f i : ℕ) → f < count M → c f i ≡ 0 → scaled M groups own c f i ≡ 0
    scaled_zero c f i l e = ap (times (order M f) (own f (groups i))) e ∙ times_zero (order M f) (field M shaped f l) (own f (groups i))

    rest_other : (e : ℕ) → IsThere rest e → rest.element e ≢ x
    rest_other e t z =
        let (f, i, l, b, ne) = h.outside e t in let w = let a = h.others in a.each e t in let v = let a = h.inside in a.each g there in
        ne (zero_in_both M shaped d ordered x (layer.codes g) (rest.codes e) v.coordinates
        (subst (λ y. AreCoordinates M d y (rest.codes e)) z w.coordinates) f l i (let r : k ≤ M.rank = low_row in omega arith)
        (h.zeros g there f i l b))

    -- a place before row k or after the columns placed had an element that wasn't settled, and isn't the one placed
    before_place : (p : ℕ) → p < size M → (p < k) ⊎ (M.rank + suc s ≤ p) → (q : ℕ) × (q < size M) × (after.label p ≡ d.label q)
        × ((q < k) ⊎ (M.rank + s ≤ q)) × (q ≢ d.place x)
    before_place p b u =
        let w = ordered.labels in
        let px : M.rank + s ≤ d.place x = open_place g there in
        let bx : d.place x < size M = w.inverse_below x x_entry.below in
        let r : k ≤ M.rank = low_row in
        elim (cases_eq p (d.place x)) [
          | inl z ↦ (
            M.rank + s,
            omega arith,
            ap (λ y. d.label (exchange (M.rank + s) (d.place x) y)) z ∙ ap d.label (exchange_two (M.rank + s) (d.place x)),
            inr (omega arith),
            (λ v. elim u [ inl l ↦ omega arith | inr l ↦ omega arith ]),
          )
          | inr n ↦ (
            p,
            b,
            ap d.label
                (exchange_other (M.rank + s) (d.place x) p (λ v. elim u [ inl l ↦ omega arith | inr l ↦ omega arith ]) n),
            elim u [ inl l ↦ inl l | inr l ↦ inr (omega arith) ],
            n,
          )
        ]

    pub placed_state : (longer : List ℕ) → longer ≡ settled ++ number M (scaled M groups own (layer.codes g)) ∷ [] →
        IsPlacing M k more longer layer_after rest_after after
    placed_state longer e = record {
      trail = subst (λ n. IsTrail M k n more after) (omega (arith, long)) (let v = let a = h.inside in a.each g there in
          placed_trail M shaped some k s groups d h.trail x v.below (open_place g there) (layer.codes g) v.coordinates (h.zeros g there) own ones more ties);
      numbers = λ j l. ap (λ (w : List ℕ). slice_index w j) e ∙ (elim (cases_lt j s) [
        | inl b ↦ get_or-append settled (number M (scaled M groups own (layer.codes g)) ∷ []) 0 j b ∙ h.numbers j b ∙ ap (number M) (sym (columns_at j b))
        | inr b ↦ (let z : s ≡ j = omega (arith, long) in
            ap (slice_index (settled ++ number M (scaled M groups own (layer.codes g)) ∷ [])) (sym z)
            ∙ get_or-append_seam settled (number M (scaled M groups own (layer.codes g))) [] 0
            ∙ ap (number M) (sym (column_at j b)))
      ]);
      inside = record {
        each = λ y t. (let (t', n) = still_there y t in
            subst (λ n. IsEntry M k n after (layer.element y) (scaled M groups own (layer.codes y))) (sym long)
            (entry_after (layer.element y) (layer.codes y) (λ z. n (let a = h.inside in a.apart y g t' there z)) (let a = h.inside in a.each y t')));
        apart = λ y z t t'. (let a = h.inside in a.apart y z (still_there y t).0 (still_there z t').0);
      };
      zeros = λ y t f i l b. scaled_zero (layer.codes y) f i l (h.zeros y (still_there y t).0 f i l b);
      others = record {
        each = λ y t. subst (λ n. IsEntry M k n after (rest.element y) (scaled M groups own (rest.codes y))) (sym long)
            (entry_after (rest.element y) (rest.codes y) (rest_other y (back y t)) (let a = h.others in a.each y (back y t)));
        apart = λ y z t t'. (let a = h.others in a.apart y z (back y t) (back z t'));
      };
      outside = λ y t. (let (f, i, l, b, ne) = h.outside y (back y t) in let w = let a = h.others in a.each y (back y t) in (
        f,
        i,
        l,
        b,
        λ z. ne (zero_factor (order M f) (field M shaped f l) (own f (groups i)) (rest.codes y f i)
            (record { code = ones.codes f (groups i) l; nonzero = ones.nonzero f (groups i) l })
            (let v = w.coordinates in v.codes f i l (let r : k ≤ M.rank = low_row in omega arith)) z),
      ));
      whole = λ p b u.
          (let (q, bq, z, uq, n) = before_place p b (elim u [ inl l ↦ inl l | inr l ↦ inr (omega (arith, long)) ]) in
          elim (h.whole q bq uq) [
            | inl w ↦ inl (
              w.0,
              record {
                below = (let t = w.1 in t.below);
                passes = both_true (not (w.0 == g)) (layer.there w.0)
                    (ap not (other_number w.0 g (λ y. n (place_of w.0 y q bq w.2)))) (let t = w.1 in t.passes);
              },
              w.2 ∙ sym z,
            )
            | inr w ↦ inr (w.0, record { below = (let t = w.1 in t.below); passes = (let t = w.1 in t.passes) }, w.2 ∙ sym z)
          ]);
    }
      where
        long : length longer ≡ suc s
        long = ap (λ (w : List ℕ). length w) e
            ∙ (let z : length (settled ++ number M (scaled M groups own (layer.codes g)) ∷ []) ≡ length settled + 1 =
            length-append settled (number M (scaled M groups own (layer.codes g)) ∷ []) in omega arith)

        back : (y : ℕ) → IsThere rest_after y → IsThere rest y
        back y t = record { below = t.below; passes = t.passes }

        place_of : (y : ℕ) → y ≡ g → (q : ℕ) → q < size M → layer.element y ≡ d.label q → q ≡ d.place x
        place_of y z q bq v = let w = ordered.labels in sym (w.there q bq) ∙ ap d.place (sym v ∙ ap layer.element z)

        columns_at : (j : ℕ) → j < s → after.columns j ≡ d.columns j
        columns_at j l = let v = let a = h.inside in a.each g there in
            columns_before M shaped some k s groups d h.trail x v.below (open_place g there) (layer.codes g) v.coordinates
            (h.zeros g there) own ones more ties j l

        column_at : (j : ℕ) → s ≤ j → after.columns j ≡ scaled M groups own (layer.codes g)
        column_at j l = let v = let a = h.inside in a.each g there in
            columns_here M shaped some k s groups d h.trail x v.below (open_place g there) (layer.codes g) v.coordinates
            (h.zeros g there) own ones more ties j l

    -- what follows the trail and takes the element next follows the trail after it
    pub follows_after : (m : Move) → Follows M d k s m → m.label (M.rank + s) ≡ x → Follows M after k (suc s) m
    follows_after m f e = let v = let a = h.inside in a.each g there in record {
      same = λ p a b. elim (cases_lt p (M.rank + s)) [
        | inl l ↦ f.same p a l ∙ sym
            (label_before M shaped some k s groups d h.trail x v.below (open_place g there) (layer.codes g) v.coordinates
            (h.zeros g there) own ones more ties p l)
        | inr l ↦ (let z : M.rank + s ≡ p = omega arith in
            ap m.label (sym z) ∙ e ∙ sym
            (label_here M shaped some k s groups d h.trail x v.below (open_place g there) (layer.codes g) v.coordinates
            (h.zeros g there) own ones more ties) ∙ ap after.label z)
      ];
    }
