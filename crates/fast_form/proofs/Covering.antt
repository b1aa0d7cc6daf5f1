-- The steps of the loops: what has been tried is covered.
use Rattle.std.proofs.Common.{◌≡◌, ◌⊎◌, inl, inr, refl, ℕ, suc, ◌+◌, ◌-◌, ◌*◌, ◌^◌, ◌<◌, ◌≤◌, Bool, true, false, List, [], ◌∷◌, ◌++◌, length, slice_index, slice_index_or, Option, Some, None, IfSome, sym, ◌∙◌, ap, subst, arith}
use Rattle.std.specs.Prelude.{◌||◌}
use Rattle.std.specs.Option.{MatchOption}
use Rattle.std.proofs.lemmas.Bool.{cases_lt}
use mathlib.Core.Bool.{true≢false}
use Rattle.matroid_theory.specs.Rep.{Rep, count, size, matrix, IsShaped, KeepsLimits}
use Rattle.matroid_theory.specs.Move.{Move}
use Rattle.form_trails.specs.Trail.{ReachesForm, Trail, Follows}
use Rattle.form_trails.specs.Least.{number, scaled, MakesOnes}
use Rattle.form_search.specs.Search.{Entries, IsThere, IsFrame, IsPlacing, IsAtMost, Covers, AreOfClass, Stands, Improves, numbers_of}
use Rattle.form_search.proofs.Found.{improves_nothing, improves_more, improves_before, stands_after, given_up, class_length}
use Rattle.form_search.proofs.Full.{settled_numbers, settled_room}
use Rattle.form_search.proofs.Placing.{next_branch, next_beyond, open_place}
use Rattle.form_search.proofs.Rows.{next_row_element}
use Rattle.form_states.specs.States.{entries_of, scaled_entries, AreLeastNumbers, IsLeastNumber, IsLeastOf}
use Rattle.form_states.specs.Steps.{Chooses, Places}

or_false : (a b : Bool) → (a || b) ≡ false → (a ≡ false) × (b ≡ false)
or_false true b e = cc
or_false false b e = (refl, e)

or_left : (a b : Bool) → (a || b) ≡ true → b ≡ false → a ≡ true
or_left true b e f = refl
or_left false b e f = cc

or_right : (a b : Bool) → b ≡ true → (a || b) ≡ true
or_right true b e = refl
or_right false b e = e

or_none : (a b : Bool) → b ≡ false → (a || b) ≡ a
or_none true b e = refl
or_none false b e = e

-- where the search goes on
pub unstopped : (first found stop : Bool) → ((first ≡ true) × (found ≡ true) → stop ≡ true) → stop ≡ false → first ≡ true → found ≡ false
unstopped first true stop h e f = absurd (true≢false (sym (h (f, refl)) ∙ e))
unstopped first false stop h e f = refl

-- what stays where it ends
pub stopped : (M : Rep) (old now new : Option (List ℕ)) (settled : List ℕ) (better found : Bool) → found ≡ true → Improves M old now settled better →
    Improves M now new settled found → Improves M old new settled true
stopped M old now new settled better found e i j = improves_more M old now new settled better found true i j (λ z. absurd (true≢false z))
    (λ _ z. absurd (true≢false (sym e ∙ z)))

-- the elements below b have been tried in row k
pub record AreTried (M : Rep) (k : ℕ) (groups : List ℕ) (columns : List (List (List ℕ))) (there : List Bool) (settled : List ℕ) (b : ℕ)
    (old now : Option (List ℕ)) (better level : Bool) : Type 0 where
  pub improves : Improves M old now settled better
  pub stands : Stands level now settled
  pub covers : (d : Trail) → IsFrame M (suc k) (slice_index groups) settled (entries_of M columns there) d → (m : Move) (N : Rep) → ReachesForm M m N →
      Follows M d (suc k) (length settled) m
      → m.label k < b → IsAtMost now (numbers_of M N)

-- the elements below e have been tried as the next
pub record AreBranched (M : Rep) (k : ℕ) (groups : List ℕ) (layer rest : Entries) (settled : List ℕ) (e : ℕ) (longer : List ℕ) (old now : Option (List ℕ))
    (better level : Bool) : Type 0 where
  pub improves : Improves M old now longer better
  pub stands : Stands level now longer
  pub covers : (d : Trail) → IsPlacing M k (slice_index groups) settled layer rest d → (m : Move) (N : Rep) → ReachesForm M m N
      → Follows M d k (length settled) m → m.label (M.rank + length settled) < e → IsAtMost now (numbers_of M N)

pub tried_same : (M : Rep) (k : ℕ) (groups : List ℕ) (columns : List (List (List ℕ))) (there : List Bool) (settled : List ℕ) (b : ℕ)
    (old now new : Option (List ℕ)) (better level better' level' : Bool)
    → new ≡ now → better' ≡ better → level' ≡ level → AreTried M k groups columns there settled b old now better level → AreTried M k groups columns there
    settled b old new better' level'
tried_same M k groups columns there settled b old now new better level better' level' x y z t =
    subst (λ (o : Option (List ℕ)). AreTried M k groups columns there settled b old o better' level') (sym x)
    (subst (λ (v : Bool). AreTried M k groups columns there settled b old now v level') (sym y)
    (subst (AreTried M k groups columns there settled b old now better) (sym z) t))

pub branched_same : (M : Rep) (k : ℕ) (groups : List ℕ) (layer rest : Entries) (settled : List ℕ) (e : ℕ) (longer : List ℕ) (old now new : Option (List ℕ))
    (better level better' level' : Bool)
    → new ≡ now → better' ≡ better → level' ≡ level → AreBranched M k groups layer rest settled e longer old now better level → AreBranched M k groups layer
    rest settled e longer old new better' level'
branched_same M k groups layer rest settled e longer old now new better level better' level' x y z t =
    subst (λ (o : Option (List ℕ)). AreBranched M k groups layer rest settled e longer old o better' level') (sym x)
    (subst (λ (v : Bool). AreBranched M k groups layer rest settled e longer old now v level') (sym y)
    (subst (AreBranched M k groups layer rest settled e longer old now better) (sym z) t))

module _ (M : Rep) (rep : KeepsLimits M) (k : ℕ) (k_below : k < M.rank) where
  shaped : IsShaped M
  shaped = rep.shaped

  some : 0 < count M
  some = let f = rep.fields in f.some

  -- ---- the elements for row k

  module _ (groups : List ℕ) (columns : List (List (List ℕ))) (there : List Bool) (settled : List ℕ) where
    pub none_tried : (old : Option (List ℕ)) (level : Bool) → IfSome old (AreOfClass M) → Stands level old settled → AreTried M k groups columns there
        settled 0 old old false level
    none_tried old level s b = record { improves = improves_nothing M old settled s; stands = b; covers = λ d h m N r f l. absurd (omega arith) }

    pub more_tried : (b : ℕ) (old now new : Option (List ℕ)) (better level found : Bool) (layer rest : Entries) (more : List ℕ)
        → AreTried M k groups columns there settled b old now better level → Chooses M k (entries_of M columns there) groups b layer rest more → Improves M
        now new settled found
        → ((d : Trail) → IsPlacing M k (slice_index more) settled layer rest d → Covers M d k (length settled) new)
        → AreTried M k groups columns there settled (b + 1) old new (better || found) (level || found)
    more_tried b old now new better level found layer rest more t c i w = record {
      improves = improves_more M old now new settled better found (better || found) t.improves i (or_false better found) (or_left better found);
      stands = stands_after M now new settled found level (level || found) i t.stands (or_right level found) (or_none level found);
      covers = λ d h m N r f l. elim (cases_lt (m.label k) b) [
        | inl q ↦ i.lower (numbers_of M N) (t.covers d h m N r f q)
        | inr q ↦ (let (d', p, g) = c d settled h in w d' p m N r (g m f (omega arith)))
      ];
    }

    pub not_there : (b : ℕ) (old now : Option (List ℕ)) (better level : Bool) → AreTried M k groups columns there settled b old now better level →
        slice_index_or there b false ≡ false → AreTried M k groups columns there settled (b + 1) old now better level
    not_there b old now better level t n = record {
      improves = t.improves;
      stands = t.stands;
      covers = λ d h m N r f l. elim (cases_lt (m.label k) b) [
        | inl q ↦ t.covers d h m N r f q
        | inr q ↦ (let z : b ≡ m.label k = omega arith in
            let (e, w, v) = next_row_element M k (slice_index groups) settled (entries_of M columns there) d h m N r f in
            let y : true ≡ false = sym w.passes ∙ ap (λ e. slice_index_or there e false) (v ∙ sym z) ∙ n in cc)
      ];
    }

    pub left_tried : (b : ℕ) (old now : Option (List ℕ)) (better level : Bool) → AreTried M k groups columns there settled b old now better level →
        ((d : Trail) → IsFrame M (suc k) (slice_index groups) settled (entries_of M columns there) d → (m : Move) (N : Rep) → ReachesForm M m N →
        Follows M d (suc k) (length settled) m → m.label k ≡ b → IsAtMost now (numbers_of M N)) →
        AreTried M k groups columns there settled (b + 1) old now better level
    left_tried b old now better level t w = record {
      improves = t.improves;
      stands = t.stands;
      covers = λ d h m N r f l. elim (cases_lt (m.label k) b) [
        | inl q ↦ t.covers d h m N r f q
        | inr q ↦ w d h m N r f (omega arith)
      ];
    }

    pub all_tried : (b : ℕ) (old new : Option (List ℕ)) (better level : Bool) → AreTried M k groups columns there settled b old new better level → size M ≤ b
        → (d : Trail) → IsFrame M (suc k) (slice_index groups) settled (entries_of M columns there) d → Covers M d (suc k) (length settled) new
    all_tried b old new better level t l d h m N r f =
        t.covers d h m N r f
        (let (e, w, v) = next_row_element M k (slice_index groups) settled (entries_of M columns there) d h m N r f in let y : e < size M = w.below in let z
        : e ≡ m.label k = v in omega arith)

  -- ---- the open elements with the least number

  module _ (groups : List ℕ) (layer_codes : ℕ → ℕ → ℕ → ℕ) (scalars : List (List ℕ)) (open_marks : List Bool) (rest : Entries) (settled : List ℕ) where
    abbrev layer : Entries
    layer = scaled_entries M layer_codes scalars open_marks

    abbrev State : Trail → Type 0
    State d = IsPlacing M k (slice_index groups) settled layer rest d

    open_room : (d : Trail) → State d → (e : ℕ) → IsThere layer e → M.rank + length settled < size M
    open_room d h e t =
        let p : M.rank + length settled ≤ d.place e = open_place M shaped some k (slice_index groups) settled layer rest d h e t in
        let a = h.trail in let o = a.ordered in let w = o.labels in let b : d.place e < size M = w.inverse_below e t.below in omega arith

    -- what covers the forms of the state after an element is placed covers those that have it next
    pub one_covers : (e low : ℕ) (longer : List ℕ) (new : Option (List ℕ)) (layer_after rest_after : Entries) (more : List ℕ) → longer ≡ settled ++ low ∷ []
        → Places M k groups layer rest e layer_after rest_after more → IsLeastNumber M (slice_index groups) (layer.codes e) low
        → ((d : Trail) → IsPlacing M k (slice_index more) longer layer_after rest_after d → Covers M d k (length longer) new)
        → (d : Trail) → State d → (m : Move) (N : Rep) → ReachesForm M m N → Follows M d k (length settled) m → m.label (M.rank + length settled) ≡ e →
        IsAtMost new (numbers_of M N)
    one_covers e low longer new layer_after rest_after more z c least w d h m N r f l =
        let (d', p, g) = c d settled low h least in
        w d' (subst (λ (s : List ℕ). IsPlacing M k (slice_index more) s layer_after rest_after d') (sym z) p) m N r
        (subst (λ (s : List ℕ). Follows M d' k (length s) m) (sym z) (g m f l))

    -- where no element is open, and what was found has a next number of a column that is zero before row k, it covers
    pub beyond_covers : ((e : ℕ) → IsThere layer e → ⊥) → (found : Option (List ℕ)) → IfSome found (AreOfClass M) → Stands true found settled
        → MatchOption found ⊥ (λ best. (length settled < length best) × (slice_index best (length settled) < 16 ^ ((M.rank - k) * count M)))
        → (d : Trail) → State d → Covers M d k (length settled) found
    beyond_covers none found s b l d h =
        given_up M d k (length settled) found settled refl (settled_room M shaped some k (slice_index groups) settled layer rest d h) b
        (λ m N r f j q. settled_numbers M shaped some k (slice_index groups) settled layer rest d h m N r f j q) (by found s l)
      where
        by : (o : Option (List ℕ)) → IfSome o (AreOfClass M) → MatchOption o ⊥ (λ best. (length settled < length best) ×
            (slice_index best (length settled) < 16 ^ ((M.rank - k) * count M)))
            → MatchOption o ⊥ (λ best. (length settled < length best) × (length best ≡ size M - M.rank) ×
            ((m : Move) (N : Rep) → ReachesForm M m N → Follows M d k (length settled) m → slice_index best (length settled) < number M
            (λ f i. matrix N f i (M.rank + length settled))))
        by None s l = l
        by (Some best) s l =
            let n : length best ≡ size M - M.rank = class_length M best s in
            let (q, v) = l in (
              q,
              n,
              λ m N r f. (let g : 16 ^ ((M.rank - k) * count M) ≤ number M (λ f i. matrix N f i (M.rank + length settled)) =
                  next_beyond M shaped some k (slice_index groups) settled layer rest d h m N r f none (omega arith) in omega arith),
            )

    module _ (numbers : List ℕ) (low : ℕ) (least_numbers : AreLeastNumbers M (slice_index groups) layer numbers) (least : IsLeastOf layer numbers low) where
      -- the factors of an element, if it is there
      own_by : (e : ℕ) → IsThere layer e ⊎ (IsThere layer e → ⊥) → ℕ → ℕ → ℕ
      own_by e (inl t) = let w = least_numbers e t in w.own
      own_by e (inr n) = λ _ _. 1

      decided : (e : ℕ) → IsThere layer e ⊎ (IsThere layer e → ⊥)
      decided e = elim (cases_lt e (size M)) [
        | inr g ↦ inr (λ t. (let b : e < size M = t.below in omega arith))
        | inl l ↦ elim (slice_index_or open_marks e false) as (λ v. slice_index_or open_marks e false ≡ v → IsThere layer e ⊎ (IsThere layer e → ⊥)) [
          | true ↦ λ z. inl (record { below = l; passes = z })
          | false ↦ λ z. inr (λ t. (let y : true ≡ false = sym t.passes ∙ z in cc))
        ] refl
      ]

      own_of : ℕ → ℕ → ℕ → ℕ
      own_of e = own_by e (decided e)

      ones_by : (e : ℕ) (w : IsThere layer e ⊎ (IsThere layer e → ⊥)) → IsThere layer e → MakesOnes M (slice_index groups) (layer.codes e) (own_by e w)
      unfolding own_by
      ones_by e (inl t) _ = let w = least_numbers e t in w.ones
      ones_by e (inr n) t = absurd (n t)

      number_by : (e : ℕ) (w : IsThere layer e ⊎ (IsThere layer e → ⊥)) → IsThere layer e → slice_index numbers e ≡ number M
          (scaled M (slice_index groups) (own_by e w) (layer.codes e))
      unfolding own_by
      number_by e (inl t) _ = let w = least_numbers e t in w.number_is
      number_by e (inr n) t = absurd (n t)

      ones_of : (e : ℕ) → IsThere layer e → MakesOnes M (slice_index groups) (layer.codes e) (own_of e)
      unfolding own_of
      ones_of e t = ones_by e (decided e) t

      at_least : (e : ℕ) → IsThere layer e → low ≤ number M (scaled M (slice_index groups) (own_of e) (layer.codes e))
      unfolding own_of
      at_least e t = subst (λ v. low ≤ v) (number_by e (decided e) t) (least.least e t)

      at_low : number M (scaled M (slice_index groups) (own_of least.at) (layer.codes least.at)) ≡ low
      unfolding own_of
      at_low = sym (number_by least.at (decided least.at) least.there) ∙ least.reached

      number_at : (e : ℕ) → IsThere layer e → number M (scaled M (slice_index groups) (own_of e) (layer.codes e)) ≡ low → slice_index numbers e ≡ low
      unfolding own_of
      number_at e t z = number_by e (decided e) t ∙ z

      -- each form has one of them next, and the least number there
      branch : (d : Trail) → State d → (m : Move) (N : Rep) → ReachesForm M m N → Follows M d k (length settled) m
          → (e : ℕ) × IsThere layer e × (m.label (M.rank + length settled) ≡ e) × (slice_index numbers e ≡ low) ×
          (number M (λ f i. matrix N f i (M.rank + length settled)) ≡ low)
      branch d h m N r f =
          let (e, w) = next_branch M shaped some k (slice_index groups) settled layer rest d h m N r f own_of ones_of low at_least least.at least.there
          at_low in
          (e, w.is_there, w.is_next, number_at e w.is_there w.least_is, w.number_is)

      pub none_branched : (longer : List ℕ) (old : Option (List ℕ)) (level : Bool) → IfSome old (AreOfClass M) → Stands level old longer → AreBranched M k
          groups layer rest settled 0 longer old old false level
      none_branched longer old level s b = record { improves = improves_nothing M old longer s; stands = b; covers = λ d h m N r f l. absurd (omega arith) }

      pub more_branched : (e : ℕ) (longer : List ℕ) (old now new : Option (List ℕ)) (better level found : Bool) → AreBranched M k groups layer rest settled e
          longer old now better level → Improves M now new longer found
          → ((d : Trail) → State d → (m : Move) (N : Rep) → ReachesForm M m N → Follows M d k (length settled) m → m.label (M.rank + length settled) ≡ e →
          IsAtMost new (numbers_of M N))
          → AreBranched M k groups layer rest settled (e + 1) longer old new (better || found) (level || found)
      more_branched e longer old now new better level found t i w = record {
        improves = improves_more M old now new longer better found (better || found) t.improves i (or_false better found) (or_left better found);
        stands = stands_after M now new longer found level (level || found) i t.stands (or_right level found) (or_none level found);
        covers = λ d h m N r f l. elim (cases_lt (m.label (M.rank + length settled)) e) [
          | inl q ↦ i.lower (numbers_of M N) (t.covers d h m N r f q)
          | inr q ↦ w d h m N r f (omega arith)
        ];
      }

      pub other_branched : (e : ℕ) (longer : List ℕ) (old now : Option (List ℕ)) (better level : Bool) → AreBranched M k groups layer rest settled e longer
          old now better level
          → ((slice_index_or open_marks e false ≡ true) → slice_index numbers e ≡ low → ⊥) → AreBranched M k groups layer rest settled (e + 1) longer old now
          better level
      other_branched e longer old now better level t n = record {
        improves = t.improves;
        stands = t.stands;
        covers = λ d h m N r f l. elim (cases_lt (m.label (M.rank + length settled)) e) [
          | inl q ↦ t.covers d h m N r f q
          | inr q ↦ (let (g, w, v, a, _) = branch d h m N r f in let z : g ≡ e = omega arith in
              absurd (n (ap (λ e. slice_index_or open_marks e false) (sym z) ∙ w.passes) (ap (slice_index numbers) (sym z) ∙ a)))
        ];
      }

      pub all_branched : (e : ℕ) (longer : List ℕ) (old new : Option (List ℕ)) (better level : Bool) → AreBranched M k groups layer rest settled e longer old
          new better level → size M ≤ e
          → (d : Trail) → State d → Covers M d k (length settled) new
      all_branched e longer old new better level t l d h m N r f =
          t.covers d h m N r f (let (g, w, v, a, _) = branch d h m N r f in let y : g < size M = w.below in omega arith)

      pub branched_improves : (e : ℕ) (longer : List ℕ) (old new : Option (List ℕ)) (better level : Bool) → longer ≡ settled ++ low ∷ [] → AreBranched M k
          groups layer rest settled e longer old new better level → Improves M old new settled better
      branched_improves e longer old new better level z t = improves_before M old new settled longer low better z t.improves

      -- there is room for one more number in what was found, and in what is settled
      pub standing_room : (found : Option (List ℕ)) → IfSome found (AreOfClass M) → (d : Trail) → State d → IfSome found (λ best. length settled < length best)
      standing_room None s d h = tt
      standing_room (Some best) s d h =
          let n : length best ≡ size M - M.rank = class_length M best s in
          let q : M.rank + length settled < size M = open_room d h least.at least.there in omega arith

      pub settled_few : (d : Trail) → State d → length settled < 16
      settled_few d h = let q : M.rank + length settled < size M = open_room d h least.at least.there in let z : size M ≤ 16 = rep.size_most in omega arith

      -- where what was found has a less number next, it covers
      pub above_covers : (found : Option (List ℕ)) → IfSome found (AreOfClass M) → Stands true found settled → MatchOption found ⊥
          (λ best. slice_index best (length settled) < low)
          → (d : Trail) → State d → Covers M d k (length settled) found
      above_covers found s b l d h =
          given_up M d k (length settled) found settled refl (settled_room M shaped some k (slice_index groups) settled layer rest d h) b
          (λ m N r f j q. settled_numbers M shaped some k (slice_index groups) settled layer rest d h m N r f j q) (by found s l)
        where
          by : (o : Option (List ℕ)) → IfSome o (AreOfClass M) → MatchOption o ⊥ (λ best. slice_index best (length settled) < low)
              → MatchOption o ⊥ (λ best. (length settled < length best) × (length best ≡ size M - M.rank) ×
              ((m : Move) (N : Rep) → ReachesForm M m N → Follows M d k (length settled) m → slice_index best (length settled) < number M
              (λ f i. matrix N f i (M.rank + length settled))))
          by None s l = l
          by (Some best) s l =
              let n : length best ≡ size M - M.rank = class_length M best s in
              let q : M.rank + length settled < size M = open_room d h least.at least.there in
              (omega arith, n, λ m N r f. (let (g, w, v, a, e) = branch d h m N r f in omega arith))
