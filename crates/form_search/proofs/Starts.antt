-- The first state, and the zero columns, which come first among the later columns.
use Rattle.std.proofs.Common.{◌≡◌, ◌≢◌, ◌⊎◌, inl, inr, refl, ℕ, zero, suc, ◌+◌, ◌*◌, ◌/◌, ◌%◌, ◌<◌, ◌≤◌, Bool, true, false, List, [], ◌∷◌, ◌++◌, length, length-append, Option, sym, ◌∙◌, ap, subst, arith, not}
use Rattle.std.specs.Prelude.{◌&&◌}
use Rattle.std.specs.Bool.{◌==◌, nat_le}
use Rattle.std.proofs.lemmas.Bool.{cases_lt, cases_eq, le-leb, leb-true}
use Rattle.std.proofs.Math.Nat.{mod-lt}
use Rattle.std.proofs.lemmas.Nat.{div-mul-add, mod-mul-add, mul-add-lt}
use Rattle.matroid_theory.specs.Field.{times, raised}
use Rattle.matroid_theory.specs.Matrix.{combination, unit}
use Rattle.matroid_theory.specs.Rep.{Rep, Shape, count, size, order, matrix, IsShaped, IsStandard}
use Rattle.matroid_theory.specs.Move.{Move}
use Rattle.matrix_lemmas.proofs.Sums.{same_number, other_number, times_zero, combination-unit, sum_same, sum_below-code}
use Rattle.matrix_lemmas.proofs.Invertible.{combination_zero}
use Rattle.matroid_laws.proofs.Standard.{ordered_independent}
use Rattle.matrix_lemmas.proofs.Units.{units_independent}
use Rattle.matroid_laws.proofs.First.{row_below}
use Rattle.matrix_lemmas.proofs.FieldLaws.{order_most}
use Rattle.form_trails.specs.Trail.{ReachesForm, Trail, AreCoordinates, Follows, IsOrdered, TiesGroups}
use Rattle.matroid_theory.specs.Exchange.{exchange}
use Rattle.form_trails.specs.Numbers.{weighed}
use Rattle.form_trails.specs.Least.{number, scaled, MakesOnes}
use Rattle.form_search.specs.Search.{Entries, IsThere, IsEntry, AreEntries, HasElement, IsPlacing, Covers}
use Rattle.form_search.specs.Start.{zero_layer, others_of, IsZeroTest, IsStarted}
use Rattle.form_trails.proofs.Numbers.{weighed_injective}
use Rattle.form_trails.proofs.Scalars.{zero_factor}
use Rattle.matrix_lemmas.proofs.Exchanges.{exchange_one, exchange_two, exchange_other, exchanged_permutation}
use Rattle.form_trails.proofs.Entries.{field}
use Rattle.form_trails.proofs.Columns.{number_entries}
use Rattle.form_trails.proofs.Ordered.{coordinates_same}
use Rattle.form_trails.proofs.LeastNext.{next_at_most_open}
use Rattle.form_search.proofs.Placing.{open_place, and_true, both_true, not_same, open_in_form, after, layer_after, rest_after, placed_state, follows_after}

-- ---- entries with the same codes

pub record AreSame (M : Rep) (E E' : Entries) : Type 0 where
  pub element : (e : ℕ) → E'.element e ≡ E.element e
  pub there : (e : ℕ) → IsThere E' e → IsThere E e
  pub back : (e : ℕ) → IsThere E e → IsThere E' e
  pub codes : (e : ℕ) → IsThere E' e → (f i : ℕ) → f < count M → i < M.rank → E.codes e f i ≡ E'.codes e f i

pub entries_same : (M : Rep) → IsShaped M → (k s : ℕ) (d : Trail) (E E' : Entries) → AreSame M E E' → AreEntries M k s d E → AreEntries M k s d E'
entries_same M shaped k s d E E' w a = record {
  each = λ e t. (let r = a.each e (w.there e t) in subst (λ (y : ℕ). IsEntry M k s d y (E'.codes e)) (sym (w.element e))
      (record {
        below = r.below;
        coordinates = coordinates_same M shaped d (E.element e) (E.codes e) (E'.codes e) r.coordinates
            (w.codes e t);
        unsettled = r.unsettled;
      }));
  apart = λ e g t u z. a.apart e g (w.there e t) (w.there g u) (sym (w.element e) ∙ z ∙ w.element g);
}

pub placing_same : (M : Rep) → IsShaped M →
    (k : ℕ) (groups : ℕ → ℕ) (settled : List ℕ) (layer rest layer' rest' : Entries) (d : Trail) → AreSame M layer layer' → AreSame M rest rest'
    → IsPlacing M k groups settled layer rest d → IsPlacing M k groups settled layer' rest' d
placing_same M shaped k groups settled layer rest layer' rest' d v w h = record {
  trail = h.trail;
  numbers = h.numbers;
  inside = entries_same M shaped k (length settled) d layer layer' v h.inside;
  zeros = λ e t f i l b. sym (v.codes e t f i l (let q = h.trail in let r : k ≤ M.rank = q.rows in omega arith)) ∙ h.zeros e (v.there e t) f i l b;
  others = entries_same M shaped k (length settled) d rest rest' w h.others;
  outside = λ e t. (let (f, i, l, b, n) = h.outside e (w.there e t) in
      (f, i, l, b, λ z. n (w.codes e t f i l (let q = h.trail in let r : k ≤ M.rank = q.rows in omega arith) ∙ z)));
  whole = λ p b u. elim (h.whole p b u) [
    | inl c ↦ inl (c.0, v.back c.0 c.1, v.element c.0 ∙ c.2)
    | inr c ↦ inr (c.0, w.back c.0 c.1, w.element c.0 ∙ c.2)
  ];
}

-- ---- the first state of a standard representation

-- nothing is chosen
abbrev pub start_trail : Trail
start_trail = record { label = λ i. i; place = λ i. i; scalar = λ _ _. 1; columns = λ _ _ _. 0 }

-- each row is in a group of its own, unless no scalars but 1 are there
abbrev pub AreFresh : Rep → (ℕ → ℕ) → Type 0
AreFresh M groups = (i l : ℕ) → i < M.rank → l < M.rank → groups i ≡ groups l → (i ≡ l) ⊎ ((f : ℕ) → f < count M → order M f ≡ 2)

le_true : (a b : ℕ) → a ≤ b → nat_le a b ≡ true
le_true a b l = le-leb a b l

module _ (M : Rep) (shaped : IsShaped M) (standard : IsStandard M) where
  pub start_ordered : IsOrdered M start_trail
  start_ordered = record {
    labels = record { below = λ j l. l; inverse_below = λ j l. l; there = λ j l. refl; back = λ j l. refl };
    room = standard.room;
    independent = λ f l. ordered_independent (order M f) (field M shaped f l) M.rank (size M) (matrix M f) (λ i. i) (λ i. i) standard.room
        (record { below = λ j l. l; inverse_below = λ j l. l; there = λ j l. refl; back = λ j l. refl })
        (units_independent (order M f) (field M shaped f l) M.rank (size M) (matrix M f) standard.room (λ i j m n. standard.units f i j l m n));
    scalar_code = λ f i l b. let F = field M shaped f l in F.two;
    scalar_nonzero = λ f i l b e. absurd (omega arith);
  }

  pub start_coordinates : (e : ℕ) → e < size M → AreCoordinates M start_trail e (λ f i. matrix M f i e)
  start_coordinates e b = record {
    codes = λ f i l m. shaped.codes f i e l m b;
    scale = λ _. 1;
    scale_code = λ f l. let F = field M shaped f l in F.two;
    scale_nonzero = λ f l z. absurd (omega arith);
    combined = λ f i l m. let F = field M shaped f l in
        sum_same (order M f) F M.rank (λ j. times (order M f) (matrix M f i j) (times (order M f) 1 (matrix M f j e)))
        (λ j. times (order M f) (unit i j) (matrix M f j e))
        (λ j o. (λ t. times (order M f) (standard.units f i j l m o t) (F.times_one (matrix M f j e) (shaped.codes f j e l o b) t)))
        ∙ combination-unit (order M f) F M.rank (λ j. matrix M f j e) i m (shaped.codes f i e l m b)
        ∙ sym (F.times_one (matrix M f i e) (shaped.codes f i e l m b));
  }

module _ (M : Rep) (shaped : IsShaped M) (some : 0 < count M) (standard : IsStandard M) (groups : ℕ → ℕ) (fresh : AreFresh M groups)
    (none : ℕ → Bool) (test : IsZeroTest M none) where
  start_entry : (e : ℕ) → e < size M → IsEntry M M.rank 0 start_trail e (λ f i. matrix M f i e)
  start_entry e b = record {
    below = b;
    coordinates = start_coordinates M shaped standard e b;
    unsettled =
        elim (cases_lt e M.rank) [ inl l ↦ inl l | inr g ↦ inr (omega arith) ];
  }

  zero_there : (i e : ℕ) → IsThere (zero_layer M none i) e → (i ≤ e) × (none e ≡ true)
  zero_there i e t = let (a, b) = and_true (nat_le i e) (none e) t.passes in (leb-true i e a, b)

  other_there : (e : ℕ) → IsThere (others_of M none) e → none e ≡ false
  other_there e t = not_true (none e) t.passes
    where
      not_true : (a : Bool) → not a ≡ true → a ≡ false
      not_true true z = sym z
      not_true false z = refl

  pub start_state : IsPlacing M M.rank groups [] (zero_layer M none 0) (others_of M none) start_trail
  start_state = record {
    trail = record {
      rows = omega arith;
      ordered = start_ordered M shaped standard;
      placed = record {
        room = (let r : M.rank ≤ size M = standard.room in omega arith);
        coordinates = λ j l. absurd (omega arith);
        zeros = λ j l. absurd (omega arith);
        in_one_group = λ j f g i l b. absurd (omega arith);
      };
      determines = record { tied = λ m N r w f i l b q o. absurd (omega arith); begins = λ m N r w j f i l. absurd (omega arith) };
      fresh = fresh;
    };
    numbers = λ j l. absurd (omega arith);
    inside = record { each = λ e t. start_entry e t.below; apart = λ e g t u z. z };
    zeros = λ e t f i l b. test.zeros e t.below (zero_there 0 e t).1 f i l b;
    others = record { each = λ e t. start_entry e t.below; apart = λ e g t u z. z };
    outside = λ e t. test.some e t.below (other_there e t);
    whole = λ p b u. elim (none p) as (λ v. none p ≡ v → HasElement (zero_layer M none 0) p ⊎ HasElement (others_of M none) p) [
      | true ↦ λ z. inl (p, record { below = b; passes = both_true (nat_le 0 p) (none p) (le_true 0 p (omega arith)) z }, refl)
      | false ↦ λ z. inr (p, record { below = b; passes = ap not z }, refl)
    ] refl;
  }

  -- ---- a zero column is placed

  ones_factors : ℕ → ℕ → ℕ
  ones_factors f g = 1

  module _ (i : ℕ) (settled : List ℕ) (d : Trail) (h : IsPlacing M M.rank groups settled (zero_layer M none i) (others_of M none) d)
      (i_below : i < size M) (is_zero : none i ≡ true) where
    pub there : IsThere (zero_layer M none i) i
    there = record { below = i_below; passes = both_true (nat_le i i) (none i) (le_true i i (omega arith)) is_zero }

    zero_codes : (f j : ℕ) → f < count M → j < M.rank → matrix M f j i ≡ 0
    zero_codes f j l b = test.zeros i i_below is_zero f j l b

    pub ones : MakesOnes M groups (λ f j. matrix M f j i) (λ _ _. 1)
    ones = record {
      codes = λ f g l. let F = field M shaped f l in F.two;
      nonzero = λ f g l e. absurd (omega arith);
      leads = λ f j l b z ne. absurd (ne (zero_codes f j l b));
    }

    pub ties : TiesGroups M M.rank groups (λ f j. matrix M f j i) groups
    ties = record {
      kept = λ _ _ _ _ e. e;
      merged = λ j l _ _ _ _ e. inl e;
      together = λ f g j l b b' t t' ne ne'. absurd (ne (zero_codes f j b t));
      fresh = fresh;
    }

    abbrev pub zero_after : Trail
    zero_after = after M shaped some M.rank groups settled (zero_layer M none i) (others_of M none) d h i there (λ _ _. 1) ones groups ties

    one_scaled : (c : ℕ → ℕ → ℕ) (f j : ℕ) → f < count M → c f j < order M f → scaled M groups (λ _ _. 1) c f j ≡ c f j
    one_scaled c f j l b = let F = field M shaped f l in F.times_one (c f j) b

    zero_number : number M (scaled M groups (λ _ _. 1) (λ f j. matrix M f j i)) ≡ 0
    zero_number =
        number_entries M (scaled M groups (λ _ _. 1) (λ f j. matrix M f j i)) (λ _ _. 0)
        (λ f j l b. ap (times (order M f) 1) (zero_codes f j l b) ∙ times_zero (order M f) (field M shaped f l) 1)
        ∙ nothing (M.rank * count M)
      where
        nothing : (n : ℕ) → weighed (λ _. 0) n ≡ 0
        nothing zero = refl
        nothing (suc n) = let e : weighed (λ _. 0) n ≡ 0 = nothing n in omega arith

    pub zero_state : (longer : List ℕ) → longer ≡ settled ++ 0 ∷ [] → IsPlacing M M.rank groups longer (zero_layer M none (suc i)) (others_of M none) zero_after
    zero_state longer e =
        placing_same M shaped M.rank groups longer
        (layer_after M shaped some M.rank groups settled (zero_layer M none i) (others_of M none) d h i there (λ _ _. 1) ones groups ties)
        (rest_after M shaped some M.rank groups settled (zero_layer M none i) (others_of M none) d h i there (λ _ _. 1) ones groups ties)
        (zero_layer M none (suc i)) (others_of M none) zero_after
        (record {
          element = λ y. refl;
          there = λ y t. (let (a, b) = zero_there (suc i) y t in record {
            below = t.below;
            passes = both_true (not (y == i)) (nat_le i y && none y) (ap not (other_number y i (λ z. absurd (omega arith))))
                (both_true (nat_le i y) (none y) (le_true i y (omega arith)) b);
          });
          back = λ y t. (let (n, p) = and_true (not (y == i)) (nat_le i y && none y) t.passes in let (a, b) = and_true (nat_le i y) (none y) p in
              let l : i ≤ y = leb-true i y a in let o : y ≢ i = (λ z. not_same (y == i) n (ap (λ y. y == i) z ∙ same_number i)) in
              record { below = t.below; passes = both_true (nat_le (suc i) y) (none y) (le_true (suc i) y (omega arith)) b });
          codes = λ y t f j l b. one_scaled (λ f j. matrix M f j y) f j l (shaped.codes f j y l b t.below);
        })
        (record {
          element = λ y. refl;
          there = λ y t. record { below = t.below; passes = t.passes };
          back = λ y t. record { below = t.below; passes = t.passes };
          codes = λ y t f j l b. one_scaled (λ f j. matrix M f j y) f j l (shaped.codes f j y l b t.below);
        })
        (placed_state M shaped some M.rank groups settled (zero_layer M none i) (others_of M none) d h i there
        (λ _ _. 1) ones groups ties longer (e ∙ ap (λ v. settled ++ v ∷ []) (sym zero_number)))

    -- a form that is reached with these choices is reached with the zero column next too
    module _ (m : Move) (N : Rep) (reach : ReachesForm M m N) (follows : Follows M d M.rank (length settled) m) where
      abbrev p : ℕ
      p = M.rank + length settled

      abbrev q : ℕ
      q = m.place i

      after_p : p ≤ q
      after_p = open_in_form M shaped some M.rank groups settled (zero_layer M none i) (others_of M none) d h m N reach follows i there

      q_below : q < size M
      q_below = let w = reach.valid.labels in w.inverse_below i i_below

      p_below : p < size M
      p_below = let a : p ≤ q = after_p in let b : q < size M = q_below in omega arith

      -- the next column is zero
      next_zero : (f j : ℕ) → f < count M → j < M.rank → matrix N f j p ≡ 0
      next_zero f j l b =
          let n : number M (λ f j. matrix N f j p) ≤ number M (scaled M groups (λ _ _. 1) (λ f j. matrix M f j i)) =
          next_at_most_open M shaped some M.rank (length settled) groups d h.trail m N reach follows i i_below after_p (λ f j. matrix M f j i)
          (let w = let a = h.inside in a.each i there in w.coordinates) (h.zeros i there) (λ _ _. 1) ones in
          let z : number M (scaled M groups (λ _ _. 1) (λ f j. matrix M f j i)) ≡ 0 = zero_number in
          let w : weighed (λ _. 0) (M.rank * count M) ≡ 0 = nothing (M.rank * count M) in
          let e : number M (λ f j. matrix N f j p) ≡ weighed (λ _. 0) (M.rank * count M) = omega arith in
          let o : j * count M + f < count M * M.rank = mul-add-lt j (count M) f M.rank b l in
          let o' : j * count M + f < M.rank * count M = omega arith in
          (λ t. matrix N (sym (mod-mul-add j (count M) f l) t) (sym (div-mul-add j (count M) f l) t) p)
          ∙ weighed_injective (λ e. matrix N (e % count M) (e / count M) p) (λ _. 0) (M.rank * count M) digits (λ _ _. omega arith) e (j * count M + f) o'
        where
          nothing : (n : ℕ) → weighed (λ _. 0) n ≡ 0
          nothing zero = refl
          nothing (suc n) = let e : weighed (λ _. 0) n ≡ 0 = nothing n in omega arith

          digits : (e : ℕ) → e < M.rank * count M → matrix N (e % count M) (e / count M) p < 16
          digits e o =
              let s = reach.takes.same_shape in let t = reach.takes.shaped in
              let f' : e % count M < count M = mod-lt e some in
              let fN : e % count M < count N = subst (λ (S : Shape). e % count M < length S.factors) (sym s) f' in
              let c : matrix N (e % count M) (e / count M) p < order N (e % count M) = t.codes (e % count M) (e / count M) p fN
              (subst (λ (S : Shape). e / count M < S.rank) (sym s) (row_below e (count M) M.rank some o))
              (subst (λ (S : Shape). p < S.size) (sym s) p_below) in
              let v : order N (e % count M) ≤ 13 = order_most (order N (e % count M)) (t.orders (e % count M) fN) in omega arith

      -- what the rows make of an element
      abbrev made_of : ℕ → ℕ → ℕ → ℕ
      made_of f j y = combination (order M f) M.rank (m.rows f) (λ k. raised (order M f) (m.power f) (matrix M f k y)) j

      made_of_zero : (f j : ℕ) → f < count M → made_of f j i ≡ 0
      made_of_zero f j l = combination_zero (order M f) (field M shaped f l) M.rank (m.rows f) (λ k. raised (order M f) (m.power f) (matrix M f k i)) j
          (λ k b. ap (raised (order M f) (m.power f)) (zero_codes f k l b) ∙ ap (λ t. raised (order M f) t 0) (reach.valid.allowed f l))

      made_of_next : (f j : ℕ) → f < count M → j < M.rank → made_of f j (m.label p) ≡ 0
      made_of_next f j l b =
          zero_factor (order M f) (field M shaped f l) (m.scalar f p) (made_of f j (m.label p))
          (record { code = reach.valid.scalars f p l p_below; nonzero = reach.valid.nonzero f p l p_below })
          (sum_below-code (order M f) (field M shaped f l) M.rank _) (sym (reach.takes.codes f j p l b p_below) ∙ next_zero f j l b)

      abbrev turned : Move
      turned = record m { label = λ y. m.label (exchange p q y); place = λ y. exchange p q (m.place y) }

      turned_entry : (f j y : ℕ) → f < count M → j < M.rank → y < size M →
          matrix N f j y ≡ times (order M f) (m.scalar f y) (made_of f j (m.label (exchange p q y)))
      turned_entry f j y l b o = elim (cases_eq y p) [
        | inl e ↦ ap (matrix N f j) e ∙ next_zero f j l b ∙ sym (ap (times (order M f) (m.scalar f y)) (ap (λ y. made_of f j (m.label (exchange p q y))) e
            ∙ ap (λ y. made_of f j (m.label y)) (exchange_one p q)
            ∙ ap (made_of f j) (let w = reach.valid.labels in w.back i i_below) ∙ made_of_zero f j l)
            ∙ times_zero (order M f) (field M shaped f l) (m.scalar f y))
        | inr n ↦ elim (cases_eq y q) [
          | inl e ↦ reach.takes.codes f j y l b o
              ∙ ap (times (order M f) (m.scalar f y))
              (ap (λ y. made_of f j (m.label y)) e ∙ ap (made_of f j) (let w = reach.valid.labels in w.back i i_below) ∙ made_of_zero f j l)
              ∙ sym (ap (times (order M f) (m.scalar f y))
              (ap (λ y. made_of f j (m.label (exchange p q y))) e ∙ ap (λ y. made_of f j (m.label y)) (exchange_two p q)
              ∙ made_of_next f j l b))
          | inr n' ↦ reach.takes.codes f j y l b o ∙ ap (λ y'. times (order M f) (m.scalar f y) (made_of f j (m.label y'))) (sym (exchange_other p q y n n'))
        ]
      ]

      turned_reach : ReachesForm M turned N
      turned_reach = record {
        valid = record {
          powers = reach.valid.powers;
          allowed = reach.valid.allowed;
          codes = reach.valid.codes;
          back_codes = reach.valid.back_codes;
          inverse = reach.valid.inverse;
          scalars = reach.valid.scalars;
          nonzero = reach.valid.nonzero;
          labels = exchanged_permutation p q (size M) m.label m.place p_below q_below reach.valid.labels;
        };
        takes = record { same_shape = reach.takes.same_shape; shaped = reach.takes.shaped; codes = λ f j y l b o. turned_entry f j y l b o };
        form = reach.form;
      }

      turned_follows : Follows M zero_after M.rank (suc (length settled)) turned
      turned_follows =
          follows_after M shaped some M.rank groups settled (zero_layer M none i) (others_of M none) d h i there (λ _ _. 1) ones groups ties turned
          (record {
            same = λ y a b.
                ap m.label (exchange_other p q y (λ e. absurd (omega arith)) (λ e. (let z : p ≤ q = after_p in absurd (omega arith))))
                ∙ follows.same y a b;
          })
          (ap m.label (exchange_one p q) ∙ (let w = reach.valid.labels in w.back i i_below))

    pub zero_covers : (found : Option (List ℕ)) → Covers M zero_after M.rank (suc (length settled)) found → Covers M d M.rank (length settled) found
    zero_covers found c m N reach follows = c (turned m N reach follows) N (turned_reach m N reach follows) (turned_follows m N reach follows)

-- ---- so far

module _ (M : Rep) (shaped : IsShaped M) (some : 0 < count M) (standard : IsStandard M) (groups : ℕ → ℕ) (fresh : AreFresh M groups)
    (none : ℕ → Bool) (test : IsZeroTest M none) where
  pub started : IsStarted M groups none 0 []
  started = record {
    trail = start_trail;
    state = start_state M shaped some standard groups fresh none test;
    covers = λ found c m N reach. c m N reach (record { same = λ p a b. absurd (omega arith) });
  }

  pub started_zero : (i : ℕ) (settled longer : List ℕ) → IsStarted M groups none i settled → i < size M → none i ≡ true →
      longer ≡ settled ++ 0 ∷ [] → IsStarted M groups none (suc i) longer
  started_zero i settled longer w b z e = record {
    trail = zero_after M shaped some standard groups fresh none test i settled w.trail w.state b z;
    state = zero_state M shaped some standard groups fresh none test i settled w.trail w.state b z longer e;
    covers = λ found c. w.covers found (zero_covers M shaped some standard groups fresh none test i settled w.trail w.state b z found
        (subst (λ n. Covers M (zero_after M shaped some standard groups fresh none test i settled w.trail w.state b z) M.rank n found) long c));
  }
    where
      long : length longer ≡ suc (length settled)
      long = ap (λ (w : List ℕ). length w) e ∙ (let n : length (settled ++ 0 ∷ []) ≡ length settled + 1 = length-append settled (0 ∷ []) in omega arith)

  pub started_other : (i : ℕ) (settled : List ℕ) → IsStarted M groups none i settled → none i ≡ false → IsStarted M groups none (suc i) settled
  started_other i settled w z = record {
    trail = w.trail;
    state = placing_same M shaped M.rank groups settled (zero_layer M none i) (others_of M none) (zero_layer M none (suc i)) (others_of M none) w.trail
        (record {
          element = λ y. refl;
          there = λ y t. (let (a, b) = and_true (nat_le (suc i) y) (none y) t.passes in let l : suc i ≤ y = leb-true (suc i) y a in
              record { below = t.below; passes = both_true (nat_le i y) (none y) (le_true i y (omega arith)) b });
          back = λ y t. (let (a, b) = and_true (nat_le i y) (none y) t.passes in let l : i ≤ y = leb-true i y a in
              let n : y ≢ i = (λ e. differ (sym b ∙ ap none e ∙ z)) in
              record { below = t.below; passes = both_true (nat_le (suc i) y) (none y) (le_true (suc i) y (omega arith)) b });
          codes = λ y t f j l b. refl;
        })
        (record { element = λ y. refl; there = λ y t. t; back = λ y t. t; codes = λ y t f j l b. refl }) w.state;
    covers = w.covers;
  }
    where
      differ : true ≡ false → ⊥
      differ e = cc

  -- a zero column leaves room
  pub started_room : (i : ℕ) (settled : List ℕ) → IsStarted M groups none i settled → i < size M → none i ≡ true → M.rank + length settled < size M
  started_room i settled w b z =
      let p : M.rank + length settled ≤ (let d = w.trail in d.place i) = open_place M shaped some M.rank groups settled
      (zero_layer M none i) (others_of M none) w.trail w.state i
      (there M shaped some standard groups fresh none test i settled w.trail w.state b z) in
      let o = let s = w.state in let q = s.trail in q.ordered in let v = o.labels in
      let l : (let d = w.trail in d.place i) < size M = v.inverse_below i b in omega arith

  pub all_started : (i : ℕ) → size M ≤ i → (e : ℕ) → IsThere (zero_layer M none i) e → ⊥
  all_started i l e t = let (a, b) = and_true (nat_le i e) (none e) t.passes in let o : i ≤ e = leb-true i e a in let q : e < size M = t.below in omega arith
