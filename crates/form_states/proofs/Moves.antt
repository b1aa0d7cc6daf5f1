-- The program's steps are those of the search.
use Rattle.std.proofs.Common.{◌≡◌, ◌≢◌, ◌⊎◌, inl, inr, refl, ℕ, zero, suc, ◌+◌, ◌<◌, ◌≤◌, Bool, true, false, List, [], ◌∷◌, ◌++◌, length, length-append, slice_index, slice_index_or, sym, ◌∙◌, ap, subst, arith, cond, not}
use Rattle.std.specs.Prelude.{◌&&◌}
use Rattle.std.specs.Bool.{◌==◌}
use Rattle.std.specs.List.{slice_set}
use Rattle.std.proofs.lemmas.Bool.{cases_lt, cases_eq}
use Rattle.std.proofs.lemmas.List.{get_or-set_same, get_or-set_other}
use Rattle.matroid_theory.specs.Field.{plus, times}
use Rattle.matroid_theory.specs.Rep.{Rep, count, size, order, IsShaped, KeepsLimits}
use Rattle.matrix_lemmas.proofs.Sums.{same_number, other_number, times_zero}
use Rattle.form_trails.specs.Trail.{Trail, Follows, TiesGroups}
use Rattle.matroid_theory.specs.Exchange.{exchange}
use Rattle.form_trails.specs.Pivot.{cleared, pivoted}
use Rattle.form_trails.specs.Least.{number, scaled, MakesOnes}
use Rattle.form_search.specs.Search.{Entries, IsThere, IsLed, IsPlacing}
use Rattle.form_trails.proofs.Entries.{field}
use Rattle.form_search.proofs.Placing.{and_true, both_true, not_same, after, layer_after, rest_after, placed_state, follows_after}
use Rattle.form_search.proofs.Rows.{IsDivided, chosen_state, with_row, follows_chosen, next_frame}
use Rattle.form_search.proofs.Starts.{placing_same}
use Rattle.form_trails.proofs.Ties.{IsSupported, ties_by, ones_same}
use Rattle.form_states.specs.Codes.{code, cleared_code}
use Rattle.form_states.specs.Groups.{AreGroupFactors, MarksGroups}
use Rattle.form_states.specs.States.{IsShapeOf, AreColumns, AreGroups, entries_of, scaled_entries, layer_of, rest_of}
use Rattle.form_states.specs.Steps.{Chooses, Places, Leads, IsRow, ArePivoted, AreNext}
use Rattle.form_states.proofs.GroupSteps.{factors_same}
use Rattle.form_states.proofs.Shapes.{shaped, some, few, low, code_below, cleared_same, entry_supported, field_at, all_own, own_at, makes_ones}

-- the first number below n at which a list of codes isn't 0, if there is one
first_of : (c : ℕ → ℕ) (n : ℕ) → ((i : ℕ) → i < n → c i ≡ 0) ⊎ ((p : ℕ) × (p < n) × ((i : ℕ) → i < p → c i ≡ 0) × (c p ≢ 0))
first_of c zero = inl (λ i l. absurd (omega arith))
first_of c (suc n) = elim (first_of c n) [
  | inr w ↦ (let (p, l, z, m) = w in inr (p, omega arith, z, m))
  | inl z ↦ elim (cases_eq (c n) 0) [
    | inl o ↦ inl (λ i l. elim (cases_lt i n) [ inl q ↦ z i q | inr q ↦ (let y : i ≡ n = omega arith in ap c y ∙ o) ])
    | inr o ↦ inr (n, omega arith, z, o)
  ]
]

pub first_nonzero : (c : ℕ → ℕ) (n : ℕ) → (i : ℕ) × (i < n) × (c i ≢ 0) → (p : ℕ) × (p < n) × ((j : ℕ) → j < p → c j ≡ 0) × (c p ≢ 0)
first_nonzero c n (i, l, m) = elim (first_of c n) [ inl z ↦ absurd (m (z i l)) | inr w ↦ w ]

module _ (M : Rep) (fields : List ℕ) (factors rank total : ℕ) (h : IsShapeOf M fields factors rank total) where
  abbrev r : KeepsLimits M
  r = h.is_rep

  abbrev s : IsShaped M
  s = shaped M fields factors rank total h

  abbrev one_factor : 0 < count M
  one_factor = some M fields factors rank total h

  three : {f : ℕ} → f < count M → f < 3
  three {f} l = let q : count M ≤ 3 = few M fields factors rank total h in omega arith

  six : {i : ℕ} → i < M.rank → i < 6
  six {i} l = let q : M.rank ≤ 6 = low M fields factors rank total h in omega arith

  sixteen : {e : ℕ} → e < size M → e < 16
  sixteen {e} l = let q : size M ≤ 16 = r.size_most in omega arith

  in_total : {e : ℕ} → e < size M → e < total
  in_total {e} l = subst (λ n. e < n) (sym h.total_is) l

  in_factors : {f : ℕ} → f < count M → f < factors
  in_factors {f} l = subst (λ n. f < n) (sym h.factors_are) l

  in_rank : {i : ℕ} → i < M.rank → i < rank
  in_rank {i} l = subst (λ n. i < n) (sym h.rank_is) l

  of_factors : {f : ℕ} → f < factors → f < count M
  of_factors {f} l = subst (λ n. f < n) h.factors_are l

  of_rank : {i : ℕ} → i < rank → i < M.rank
  of_rank {i} l = subst (λ n. i < n) h.rank_is l

  -- a pivot keeps codes below the order
  cleared_below : (p : ℕ) (minus c : ℕ → ℕ → ℕ) (f j : ℕ) → f < count M → c f p < order M f → cleared M p minus c f j < order M f
  cleared_below p minus c f j l b = elim (j == p) as (λ v. cond v (c f p) (plus (order M f) (c f j) (times (order M f) (c f p) (minus f j))) < order M f) [
    | true ↦ b
    | false ↦ (let F = field M s f l in F.plus_below (c f j) (times (order M f) (c f p) (minus f j)))
  ]

  -- ---- an element is chosen

  module _ (k : ℕ) (k_below : k < M.rank) (columns : List (List (List ℕ))) (there : List Bool) (groups : List ℕ) (b : ℕ) (codes : AreColumns fields columns)
      (t : IsThere (entries_of M columns there) b)
      (p : ℕ) (minus : List (List ℕ)) (class rest_marks : List Bool) (row : IsRow fields factors rank total k columns there b p minus class rest_marks)
      (layer_columns : List (List (List ℕ))) (layer_codes : AreColumns fields layer_columns)
      (pivots : ArePivoted fields factors rank total k columns p minus class layer_columns)
      (scalars : List (List ℕ)) (units : (f i : ℕ) → f < 3 → i < 6 → code scalars f i ≡ 1) where
    abbrev E : Entries
    E = entries_of M columns there

    abbrev layer : Entries
    layer = layer_of M layer_columns scalars class

    abbrev rest : Entries
    rest = rest_of M k columns p minus scalars rest_marks

    p_below : p < M.rank
    p_below = let l : p ≤ k = row.p_most in omega arith

    -- multiplied by 1
    by_one : (f i v : ℕ) → f < count M → i < M.rank → v < order M f → times (order M f) (code scalars f i) v ≡ v
    by_one f i v l o b = ap (λ x. times (order M f) x v) (units f i (three l) (six o)) ∙ (let F = field M s f l in F.times_one v b)

    pivot_at : (e : ℕ) → e < size M → slice_index_or class e false ≡ true → (f i : ℕ) → f < count M → i < M.rank → pivoted M p k (code minus) (E.codes e) f i
        ≡ layer.codes e f i
    pivot_at e l w f i o m = sym (
        by_one f i (code (slice_index_or layer_columns e []) f i) o m (code_below M fields factors rank total h (slice_index_or layer_columns e [])
        (layer_codes e (sixteen l)) f i o m)
        ∙ pivots e (in_total l) w f i (in_factors o) (in_rank m) ∙ cleared_same M fields factors rank total h p (code minus)
        (code (slice_index_or columns e [])) f (exchange p k i) o)

    rest_at : (e : ℕ) → e < size M → (f i : ℕ) → f < count M → i < M.rank → pivoted M p k (code minus) (E.codes e) f i ≡ rest.codes e f i
    rest_at e l f i o m = sym (by_one f i (pivoted M p k (code minus) (E.codes e) f i) o m
        (cleared_below p (code minus) (E.codes e) f (exchange p k i) o (code_below M fields factors rank total h (slice_index_or columns e [])
        (codes e (sixteen l)) f p o p_below)))

    division : IsDivided M k E b p (code minus) layer rest
    division = record {
      layer_total = refl;
      rest_total = refl;
      layer_element = refl;
      rest_element = refl;
      layer_there = λ e w. (let (a, n, _) = (row.same e (in_total w.below)).0 w.passes in (record { below = w.below; passes = a }, n));
      layer_same = λ e w f i l o. (let (_, _, z) = (row.same e (in_total w.below)).0 w.passes in z f i (in_factors l) (omega arith));
      layer_codes = λ e w. pivot_at e w.below w.passes;
      rest_there = λ e w. (let (a, n, _) = (row.other e (in_total w.below)).0 w.passes in (record { below = w.below; passes = a }, n));
      rest_other = λ e w z. (let (_, _, n) = (row.other e (in_total w.below)).0 w.passes in n (λ f i l o. z f i (of_factors l) (omega arith)));
      rest_codes = λ e w. rest_at e w.below;
      both = λ e w n. elim (slice_index_or class e false) as (λ v. slice_index_or class e false ≡ v → IsThere layer e ⊎ IsThere rest e) [
        | true ↦ λ z. inl (record { below = w.below; passes = z })
        | false ↦ λ z. inr (record {
          below = w.below;
          passes = (row.other e (in_total w.below)).1
              (w.passes, n, λ a. differ ((row.same e (in_total w.below)).1 (w.passes, n, a)) z);
        })
      ] refl;
    }
      where
        differ : {v : Bool} → v ≡ true → v ≡ false → ⊥
        differ a z = cc

    pub chooses : Chooses M k E groups b layer rest groups
    chooses d settled w =
        let u = w.led b t in
        let at : u.lead ≡ p = lead_is u.lead u.zeros u.ones in
        let ones : (f : ℕ) → f < count M → E.codes b f p ≡ 1 = λ f l. ap (E.codes b f) (sym at) ∙ u.ones f l in
        let zeros : (f i : ℕ) → f < count M → i < p → E.codes b f i ≡ 0 = λ f i l o. u.zeros f i l (omega arith) in (
          with_row M s one_factor k (slice_index groups) settled E d w b t p row.p_most ones zeros (code minus) minus_code opposite_code layer rest division,
          chosen_state M s one_factor k (slice_index groups) settled E d w b t p row.p_most ones zeros (code minus) minus_code opposite_code layer rest
              division,
          λ m f e. follows_chosen M s one_factor k (slice_index groups) settled E d w b t p row.p_most ones zeros (code minus) minus_code opposite_code layer
              rest division m f e,
        )
      where
        lead_is : (q : ℕ) → ((f i : ℕ) → f < count M → i < q → E.codes b f i ≡ 0) → ((f : ℕ) → f < count M → E.codes b f q ≡ 1) → q ≡ p
        lead_is q z o = elim (cases_lt q p) [
          | inl l ↦ (let y : zero ≡ 1 = sym (row.before q l) ∙ o 0 one_factor in absurd (omega arith))
          | inr g ↦ elim (cases_lt p q) [ inl l ↦ absurd (row.nonzero (z 0 p one_factor l)) | inr g' ↦ omega arith ]
        ]

        minus_code : (f i : ℕ) → f < count M → i < M.rank → code minus f i < order M f
        minus_code f i l o = code_below M fields factors rank total h minus row.minus_codes f i l o

        opposite_code : (f i : ℕ) → f < count M → i < M.rank → plus (order M f) (E.codes b f i) (code minus f i) ≡ 0
        opposite_code f i l o = ap (λ q. plus q (E.codes b f i) (code minus f i)) (sym (h.fields_are f l)) ∙ row.opposite f i (in_factors l) (in_rank o)

  -- ---- an element is placed

  module _ (k : ℕ) (k_below : k < M.rank) (layer_codes rest_codes : ℕ → ℕ → ℕ → ℕ) (scalars : List (List ℕ)) (open_marks rest_marks : List Bool)
      (groups : List ℕ) (g : ℕ) (group_below : AreGroups groups)
      (t : IsThere (scaled_entries M layer_codes scalars open_marks) g) (column : List (List ℕ))
      (column_is : (f i : ℕ) → f < factors → i < rank → code column f i ≡ times (slice_index fields f) (code scalars f i) (layer_codes g f i))
      (own : ℕ → ℕ → ℕ) (own_code : (f j : ℕ) → f < 3 → j < 6 → own f j < slice_index fields f)
      (column_factors : AreGroupFactors fields factors (slice_index groups) rank (code column) own)
      (after_scalars : List (List ℕ)) (products : (f i : ℕ) → f < factors → i < rank → code after_scalars f i ≡ times (slice_index fields f)
      (own f (slice_index groups i)) (code scalars f i))
      (more : List ℕ) (met : List Bool) (column_marks : MarksGroups (slice_index groups) rank (code column) met)
      (column_tied : (p : ℕ) → p < rank → ((i : ℕ) → i < p → code column 0 i ≡ 0) → code column 0 p ≢ 0 → (i : ℕ) → i < 6 →
      slice_index more i ≡ cond (slice_index_or met (slice_index groups i) false) (slice_index groups p) (slice_index groups i))
      (column_untied : ((i : ℕ) → i < rank → code column 0 i ≡ 0) → more ≡ groups) (as_long : length open_marks ≡ 16) where
    abbrev placed_layer : Entries
    placed_layer = scaled_entries M layer_codes scalars open_marks

    abbrev placed_rest : Entries
    placed_rest = scaled_entries M rest_codes scalars rest_marks

    abbrev c : ℕ → ℕ → ℕ
    c f i = times (order M f) (code scalars f i) (layer_codes g f i)

    same_code : (f i : ℕ) → f < factors → i < rank → code column f i ≡ c f i
    same_code f i l b = column_is f i l b ∙ field_at M fields factors rank total h f (of_factors l) (code scalars f i) (layer_codes g f i)

    first : 0 < factors
    first = in_factors one_factor

    own_factors : AreGroupFactors fields factors (slice_index groups) rank c own
    own_factors = factors_same fields factors rank (slice_index groups) (code column) c own first same_code column_factors

    marks : MarksGroups (slice_index groups) rank c met
    marks = record {
      marked = λ i l n. column_marks.marked i l (λ z. n (sym (same_code 0 i first l) ∙ z));
      found = λ g l w. (let (i, b, e, n) = column_marks.found g l w in (i, b, e, λ z. n (same_code 0 i first b ∙ z)));
    }

    tied : (p : ℕ) → p < rank → ((i : ℕ) → i < p → c 0 i ≡ 0) → c 0 p ≢ 0 → (i : ℕ) → i < 6 → slice_index more i ≡ cond
        (slice_index_or met (slice_index groups i) false) (slice_index groups p) (slice_index groups i)
    tied p l z n = column_tied p l (λ j q. same_code 0 j first (omega arith) ∙ z j q) (λ o. n (sym (same_code 0 p first l) ∙ o))

    untied : ((i : ℕ) → i < rank → c 0 i ≡ 0) → more ≡ groups
    untied z = column_untied (λ i l. same_code 0 i first l ∙ z i l)

    abbrev layer_next : Entries
    layer_next = scaled_entries M layer_codes after_scalars (slice_set open_marks g false)

    abbrev rest_next : Entries
    rest_next = scaled_entries M rest_codes after_scalars rest_marks

    pub places : Places M k groups placed_layer placed_rest g layer_next rest_next more
    places d settled lowest w least =
        let o = let q = w.trail in q.ordered in
        let v = let a = w.inside in a.each g t in
        let sup : IsSupported M c = entry_supported M fields factors rank total h k (length settled) d g c o v in
        let ones : MakesOnes M (slice_index groups) c (all_own M fields factors rank total h groups group_below c own own_code own_factors sup) = makes_ones
        M fields factors rank total h groups group_below c own own_code own_factors sup in
        let ties = ties_of d settled w sup in
        let is : settled ++ lowest ∷ [] ≡ settled ++ number M (scaled M (slice_index groups)
        (all_own M fields factors rank total h groups group_below c own own_code own_factors sup) c) ∷ [] =
        ap (λ n. settled ++ n ∷ []) (least.number_is ∙ ones_same M s one_factor (slice_index groups) c least.own
        (all_own M fields factors rank total h groups group_below c own own_code own_factors sup)
        (let q = v.coordinates in q.codes) least.ones ones) in (
          after M s one_factor k (slice_index groups) settled placed_layer placed_rest d w g t
              (all_own M fields factors rank total h groups group_below c own own_code own_factors sup) ones (slice_index more) ties,
          placing_same M s k (slice_index more) (settled ++ lowest ∷ [])
              (layer_after M s one_factor k (slice_index groups) settled placed_layer placed_rest d w g t
              (all_own M fields factors rank total h groups group_below c own own_code own_factors sup) ones (slice_index more) ties)
              (rest_after M s one_factor k (slice_index groups) settled placed_layer placed_rest d w g t
              (all_own M fields factors rank total h groups group_below c own own_code own_factors sup) ones (slice_index more) ties)
              layer_next rest_next
              (after M s one_factor k (slice_index groups) settled placed_layer placed_rest d w g t
              (all_own M fields factors rank total h groups group_below c own own_code own_factors sup) ones (slice_index more) ties)
              (record {
                element = λ e. refl;
                there = λ e q. record { below = q.below; passes = kept_mark e q.passes };
                back = λ e q. record { below = q.below; passes = mark_kept e q.passes };
                codes = λ e q f i l b. codes_same sup layer_codes e f i l b;
              })
              (record {
                element = λ e. refl;
                there = λ e q. record { below = q.below; passes = q.passes };
                back = λ e q. record
                    { below = q.below; passes = q.passes };
                codes = λ e q f i l b. codes_same sup rest_codes e f i l b;
              })
              (placed_state M s one_factor k (slice_index groups) settled placed_layer placed_rest d w g t
              (all_own M fields factors rank total h groups group_below c own own_code own_factors sup) ones (slice_index more) ties
              (settled ++ lowest ∷ []) is),
          λ m f e. subst (λ n. Follows M (after M s one_factor k (slice_index groups) settled placed_layer placed_rest d w g t
              (all_own M fields factors rank total h groups group_below c own own_code own_factors sup) ones (slice_index more) ties) k n m) (sym long)
              (follows_after M s one_factor k (slice_index groups) settled placed_layer placed_rest d w g t
              (all_own M fields factors rank total h groups group_below c own own_code own_factors sup) ones (slice_index more) ties m f e),
        )
      where
        long : length (settled ++ lowest ∷ []) ≡ suc (length settled)
        long = let z : length (settled ++ lowest ∷ []) ≡ length settled + 1 = length-append settled (lowest ∷ []) in omega arith

        ties_of : (d : Trail) (settled : List ℕ) → IsPlacing M k (slice_index groups) settled placed_layer placed_rest d → IsSupported M c → TiesGroups M k
            (slice_index groups) c (slice_index more)
        ties_of d settled w sup = elim (first_of (c 0) M.rank) [
          | inl z ↦ no_ties (untied (λ i l. z i (subst (λ n. i < n) h.rank_is l))) d settled w (λ f i l b. sup 0 f i one_factor l b (z i b))
          | inr v ↦ (let (p, pb, pz, pn) = v in
              ties_by M s one_factor k (slice_index groups) c sup (w.zeros g t) p pb pn (λ j. slice_index_or met j false)
              (λ i l n. marks.marked i (subst (λ n. i < n) (sym h.rank_is) l) n)
              (λ i l m. (let (j, b, e, n) = marks.found (slice_index groups i) (group_below i (six l)) m in (j, subst (λ n. j < n) h.rank_is b, e, n)))
              (let q = w.trail in q.fresh) (slice_index more)
              (λ i l. tied p (subst (λ n. p < n) (sym h.rank_is) pb) pz pn i (six l)) (let q = w.trail in q.rows))
        ]
          where
            no_ties : more ≡ groups → (d : Trail) (settled : List ℕ) → IsPlacing M k (slice_index groups) settled placed_layer placed_rest d →
                ((f i : ℕ) → f < count M → i < M.rank → c f i ≡ 0) → TiesGroups M k (slice_index groups) c (slice_index more)
            no_ties e d settled w z = subst (λ (x : List ℕ). TiesGroups M k (slice_index groups) c (slice_index x)) (sym e) (record {
              kept = λ _ _ _ _ o. o;
              merged = λ i l _ _ _ _ o. inl o;
              together = λ f j i l b b' o o' n n'. absurd (n (z f i b o));
              fresh = (let q = w.trail in q.fresh);
            })

        codes_same : (sup : IsSupported M c) (codes : ℕ → ℕ → ℕ → ℕ) → (e f i : ℕ) → f < count M → i < M.rank
            → scaled M (slice_index groups) (all_own M fields factors rank total h groups group_below c own own_code own_factors sup)
            (λ f i. times (order M f) (code scalars f i) (codes e f i)) f i
            ≡ times (order M f) (code after_scalars f i) (codes e f i)
        codes_same sup codes e f i l o =
            sym (let F = field M s f l in F.times_assoc (all_own M fields factors rank total h groups group_below c own own_code own_factors sup f
            (slice_index groups i)) (code scalars f i) (codes e f i))
            ∙ ap (λ y. times (order M f) y (codes e f i))
            (ap (λ y. times (order M f) y (code scalars f i)) (own_at M fields factors rank total h groups group_below c own own_code own_factors sup f
            (slice_index groups i) (group_below i (six o)))
            ∙ sym (field_at M fields factors rank total h f l (own f (slice_index groups i)) (code scalars f i)) ∙ sym
            (products f i (in_factors l) (in_rank o)))

        differ : false ≡ true → ⊥
        differ e = cc

        kept_mark : (e : ℕ) → slice_index_or (slice_set open_marks g false) e false ≡ true → (not (e == g) && slice_index_or open_marks e false) ≡ true
        kept_mark e z = elim (cases_eq e g) [
          | inl o ↦ absurd (differ (sym (ap (λ e. slice_index_or (slice_set open_marks g false) e false) o ∙ get_or-set_same open_marks g false false
              (let q : g < 16 = sixteen t.below in omega arith)) ∙ z))
          | inr n ↦ both_true (not (e == g)) (slice_index_or open_marks e false) (ap not (other_number e g n))
              (sym (get_or-set_other open_marks g e false false n) ∙ z)
        ]

        mark_kept : (e : ℕ) → (not (e == g) && slice_index_or open_marks e false) ≡ true → slice_index_or (slice_set open_marks g false) e false ≡ true
        mark_kept e z = let (n, o) = and_true (not (e == g)) (slice_index_or open_marks e false) z in
            get_or-set_other open_marks g e false false (λ y. not_same (e == g) n (ap (λ y. y == g) y ∙ same_number g)) ∙ o

  -- ---- the next frame

  module _ (k : ℕ) (k_below : k < M.rank) (columns : List (List (List ℕ))) (p : ℕ) (minus scalars : List (List ℕ)) (rest_marks : List Bool) (layer : Entries)
      (groups : List ℕ) (after_columns : List (List (List ℕ)))
      (next : AreNext fields factors rank total k columns p minus scalars rest_marks after_columns) where
    abbrev outside : Entries
    outside = rest_of M k columns p minus scalars rest_marks

    -- the codes outside, by the program's fields
    outside_is : (e f i : ℕ) → f < count M
        → times (slice_index fields f) (code scalars f i) (cleared_code fields p (code minus) (code (slice_index_or columns e [])) f (exchange p k i)) ≡
        outside.codes e f i
    outside_is e f i l = field_at M fields factors rank total h f l (code scalars f i)
        (cleared_code fields p (code minus) (code (slice_index_or columns e [])) f (exchange p k i))
        ∙ ap (times (order M f) (code scalars f i)) (cleared_same M fields factors rank total h p (code minus) (code (slice_index_or columns e [])) f
        (exchange p k i) l)

    pub leads : Leads M k groups layer outside (entries_of M after_columns rest_marks)
    leads d settled w none = next_frame M s k (slice_index groups) settled layer outside (entries_of M after_columns rest_marks) d w none (record {
      same_total = refl;
      same_element = refl;
      there = λ e q. record { below = q.below; passes = q.passes };
      back = λ e q. record { below = q.below; passes = q.passes };
      multiple = λ e q. (let n = next e (in_total q.below) q.passes in (
        n.multiple,
        (λ f l. record { code = subst (λ o. n.multiple f < o) (h.fields_are f l) (n.multiple_code f (three l)); nonzero = n.multiple_nonzero f (three l) }),
        (λ f i l b. n.multiples f i (in_factors l) (in_rank b)
            ∙ field_at M fields factors rank total h f l (n.multiple f) (times (slice_index fields f) (code scalars f i)
            (cleared_code fields p (code minus) (code (slice_index_or columns e [])) f (exchange p k i)))
            ∙ ap (times (order M f) (n.multiple f)) (outside_is e f i l)),
      ));
      led = λ e q. led_at d settled w e q;
    })
      where
        led_at : (d : Trail) (settled : List ℕ) → IsPlacing M k (slice_index groups) settled layer outside d → (e : ℕ) → IsThere
            (entries_of M after_columns rest_marks) e → IsLed M k (code (slice_index_or after_columns e []))
        led_at d settled w e q =
            let t : IsThere outside e = record { below = q.below; passes = q.passes } in
            let (f, i, l, b, n) = w.outside e t in
            let o = let z = w.trail in z.ordered in
            let v = let a = w.others in a.each e t in
            let sup : IsSupported M (outside.codes e) = entry_supported M fields factors rank total h k (length settled) d e (outside.codes e) o v in
            let (p, pb, pz, pn) = first_nonzero (outside.codes e 0) k (i, b, λ z. n (sup 0 f i one_factor l (omega arith) z)) in
            let u = next e (in_total q.below) q.passes in
            record {
              lead = p;
              lead_before = pb;
              zeros = λ f j l c. u.multiples f j (in_factors l) (in_rank (omega arith))
                  ∙ field_at M fields factors rank total h f l (u.multiple f) _
                  ∙ ap (times (order M f) (u.multiple f)) (outside_is e f j l ∙ sup 0 f j one_factor l (omega arith) (pz j c)) ∙ times_zero (order M f)
                  (field M s f l) (u.multiple f);
              ones = λ f l. u.leads p (in_rank (omega arith)) (λ j c. outside_is e 0 j one_factor ∙ pz j c) (λ z. pn (sym (outside_is e 0 p one_factor) ∙ z))
                  f (in_factors l)
                  (λ z. pn (sup f 0 p l one_factor (omega arith) (sym (outside_is e f p l) ∙ z)));
            }
