-- An element is left before its pivot: each form that has it in row k is above what was found.
use Rattle.std.proofs.Common.{◌≡◌, ◌≢◌, ◌⊎◌, inl, inr, refl, ℕ, zero, suc, ◌+◌, ◌-◌, ◌*◌, ◌/◌, ◌%◌, ◌^◌, ◌<◌, ◌≤◌, Bool, true, false, List, [], length, slice_index, slice_index_or, Option, Some, None, IfSome, sym, ◌∙◌, ap, subst, arith, cond}
use Rattle.std.specs.Option.{MatchOption}
use Rattle.std.proofs.lemmas.Bool.{cases_lt}
use Rattle.matroid_theory.specs.Field.{plus, times}
use Rattle.matroid_theory.specs.Rep.{Rep, count, size, order, matrix, IsShaped}
use Rattle.matroid_theory.specs.Move.{Move}
use Rattle.matrix_lemmas.proofs.Sums.{same_number, other_number, plus_cancel}
use Rattle.matrix_lemmas.proofs.Exchanges.{exchange_two, exchange_other}
use Rattle.form_trails.specs.Trail.{ReachesForm, Trail, AreCoordinates, AreZeroBefore, Follows, IsTrail, row_factor}
use Rattle.form_trails.specs.Pivot.{cleared, pivoted}
use Rattle.form_trails.specs.Least.{number}
use Rattle.form_trails.specs.Numbers.{weighed}
use Rattle.form_trails.proofs.Coordinates.{row_scalars}
use Rattle.form_trails.proofs.Entries.{field, column_factor, column_factor_scalar, reached_entry}
use Rattle.form_trails.proofs.LeastNext.{next_outside}
use Rattle.form_trails.proofs.Scalars.{IsScalar, inverse_scalar, times_scalar, zero_factor}
use Rattle.form_trails.proofs.Ties.{IsSupported}
use Rattle.form_search.specs.Search.{Entries, IsThere, IsFrame, IsPlacing, IsAtMost, AreOfClass, Stands, numbers_of}
use Rattle.form_search.proofs.Found.{given_up, class_length}
use Rattle.form_search.proofs.Full.{settled_numbers, settled_room}
use Rattle.form_search.proofs.Placing.{unsettled_place}
use Rattle.form_search.proofs.Rows.{IsDivided, chosen_state, with_row, follows_chosen}
use Rattle.form_states.specs.Codes.{code}
use Rattle.form_states.specs.States.{IsShapeOf, AreColumns, entries_of}
use Rattle.form_states.specs.Steps.{IsRow, AreAbove}
use Rattle.form_states.proofs.Shapes.{shaped, some, code_below, entry_supported}

-- a form's next column isn't 0 where its coordinates aren't
module _ (M : Rep) (shaped : IsShaped M) (k s : ℕ) (groups : ℕ → ℕ) (d : Trail) (h : IsTrail M k s groups d)
    (m : Move) (N : Rep) (reach : ReachesForm M m N) (follows : Follows M d k s m) (p_below : M.rank + s < size M)
    (c : ℕ → ℕ → ℕ) (a : AreCoordinates M d (m.label (M.rank + s)) c) (zeros : AreZeroBefore M k c) where
  rows : (i : ℕ) → k ≤ i → i < M.rank → m.label i ≡ d.label i
  rows i g b = follows.same i g (omega arith)

  pub next_nonzero : (f i : ℕ) → f < count M → i < M.rank → c f i ≢ 0 → matrix N f i (M.rank + s) ≢ 0
  next_nonzero f i l b n z =
      let F = field M shaped f l in
      let o = h.ordered in let r : M.rank ≤ size M = o.room in let inside : i < size M = omega arith in
      let standard = (let q = reach.form in q.standard) in
      let u : IsScalar (order M f) (row_factor M d m f i) =
      times_scalar (order M f) F _ (d.scalar f i) (inverse_scalar (order M f) F (m.scalar f i)
      (record { code = reach.valid.scalars f i l inside; nonzero = reach.valid.nonzero f i l inside })) (row_scalars M shaped d o f i l b) in
      let w = column_factor_scalar M shaped d (row_scalars M shaped d o) k m N standard reach.valid reach.takes rows (M.rank + s) p_below c a zeros f l in
      n (zero_factor (order M f) F (row_factor M d m f i) (c f i) u (a.codes f i l b)
      (zero_factor (order M f) F (column_factor M shaped d (row_scalars M shaped d o) k m N standard reach.valid reach.takes rows (M.rank + s) p_below c a
      zeros f) (times (order M f) (row_factor M d m f i) (c f i)) w (F.times_below _ _)
      (sym (reached_entry M shaped d (row_scalars M shaped d o) k m N standard reach.valid reach.takes rows (M.rank + s) p_below c a zeros f i l b) ∙ z)))

module _ (M : Rep) (fields : List ℕ) (factors rank total : ℕ) (h : IsShapeOf M fields factors rank total) (k : ℕ) (k_below : k < M.rank)
    (columns : List (List (List ℕ))) (there : List Bool) (groups : List ℕ) (b : ℕ) (codes : AreColumns fields columns)
    (t : IsThere (entries_of M columns there) b)
    (p : ℕ) (minus : List (List ℕ)) (class rest_marks : List Bool) (row : IsRow fields factors rank total k columns there b p minus class rest_marks)
    (settled : List ℕ) where
  abbrev s : IsShaped M
  s = shaped M fields factors rank total h

  abbrev one_factor : 0 < count M
  one_factor = some M fields factors rank total h

  abbrev E : Entries
  E = entries_of M columns there

  -- the columns after the pivot, of the class and of the others
  abbrev pivots : ℕ → ℕ → ℕ → ℕ
  pivots e = pivoted M p k (code minus) (E.codes e)

  abbrev layer : Entries
  layer = record E { there = λ e. slice_index_or class e false; codes = pivots }

  abbrev rest : Entries
  rest = record E { there = λ e. slice_index_or rest_marks e false; codes = pivots }

  in_total : {e : ℕ} → e < size M → e < total
  in_total {e} l = subst (λ n. e < n) (sym h.total_is) l

  in_factors : {f : ℕ} → f < count M → f < factors
  in_factors {f} l = subst (λ n. f < n) (sym h.factors_are) l

  of_factors : {f : ℕ} → f < factors → f < count M
  of_factors {f} l = subst (λ n. f < n) h.factors_are l

  in_rank : {i : ℕ} → i < M.rank → i < rank
  in_rank {i} l = subst (λ n. i < n) (sym h.rank_is) l

  of_rank : {i : ℕ} → i < rank → i < M.rank
  of_rank {i} l = subst (λ n. i < n) h.rank_is l

  differ : {v : Bool} → v ≡ true → v ≡ false → ⊥
  differ a z = cc

  division : IsDivided M k E b p (code minus) layer rest
  division = record {
    layer_total = refl;
    rest_total = refl;
    layer_element = refl;
    rest_element = refl;
    layer_there = λ e w. (let (a, n, _) = (row.same e (in_total w.below)).0 w.passes in (record { below = w.below; passes = a }, n));
    layer_same = λ e w f i l o. (let (_, _, z) = (row.same e (in_total w.below)).0 w.passes in z f i (in_factors l) (omega arith));
    layer_codes = λ e w f i l o. refl;
    rest_there = λ e w. (let (a, n, _) = (row.other e (in_total w.below)).0 w.passes in (record { below = w.below; passes = a }, n));
    rest_other = λ e w z. (let (_, _, n) = (row.other e (in_total w.below)).0 w.passes in n (λ f i l o. z f i (of_factors l) (omega arith)));
    rest_codes = λ e w f i l o. refl;
    both = λ e w n. elim (slice_index_or class e false) as (λ v. slice_index_or class e false ≡ v → IsThere layer e ⊎ IsThere rest e) [
      | true ↦ λ z. inl (record { below = w.below; passes = z })
      | false ↦ λ z. inr (record {
        below = w.below;
        passes = (row.other e (in_total w.below)).1 (w.passes, n, λ a. differ ((row.same e (in_total w.below)).1 (w.passes, n, a)) z);
      })
    ] refl;
  }

  minus_code : (f i : ℕ) → f < count M → i < M.rank → code minus f i < order M f
  minus_code f i l o = code_below M fields factors rank total h minus row.minus_codes f i l o

  opposite_code : (f i : ℕ) → f < count M → i < M.rank → plus (order M f) (E.codes b f i) (code minus f i) ≡ 0
  opposite_code f i l o = ap (λ q. plus q (E.codes b f i) (code minus f i)) (sym (h.fields_are f l)) ∙ row.opposite f i (in_factors l) (in_rank o)

  module _ (d : Trail) (w : IsFrame M (suc k) (slice_index groups) settled E d) where
    lead_is : (q : ℕ) → ((f i : ℕ) → f < count M → i < q → E.codes b f i ≡ 0) → ((f : ℕ) → f < count M → E.codes b f q ≡ 1) → q ≡ p
    lead_is q z o = elim (cases_lt q p) [
      | inl l ↦ (let y : zero ≡ 1 = sym (row.before q l) ∙ o 0 one_factor in absurd (omega arith))
      | inr g ↦ elim (cases_lt p q) [ inl l ↦ absurd (row.nonzero (z 0 p one_factor l)) | inr g' ↦ omega arith ]
    ]

    ones : (f : ℕ) → f < count M → E.codes b f p ≡ 1
    ones f l = let u = w.led b t in ap (E.codes b f) (sym (lead_is u.lead u.zeros u.ones)) ∙ u.ones f l

    zeros : (f i : ℕ) → f < count M → i < p → E.codes b f i ≡ 0
    zeros f i l o = let u = w.led b t in let at : u.lead ≡ p = lead_is u.lead u.zeros u.ones in u.zeros f i l (omega arith)

    abbrev after : Trail
    after = with_row M s one_factor k (slice_index groups) settled E d w b t p row.p_most ones zeros (code minus) minus_code opposite_code layer rest division

    state : IsPlacing M k (slice_index groups) settled layer rest after
    state = chosen_state M s one_factor k (slice_index groups) settled E d w b t p row.p_most ones zeros (code minus) minus_code opposite_code layer rest
        division

    -- an element of the class has a 1 in row p, as the chosen one has
    class_one : (e f : ℕ) → IsThere layer e → f < count M → E.codes e f p ≡ 1
    class_one e f q l = division.layer_same e q f p l row.p_most ∙ ones f l

    p_in_rank : p < M.rank
    p_in_rank = let l : p ≤ k = row.p_most in omega arith

    -- so it isn't 0 in row k after the pivot
    at_k : (e f : ℕ) → IsThere layer e → f < count M → pivots e f k ≢ 0
    at_k e f q l z =
        let y : pivots e f k ≡ E.codes e f p = ap (cleared M p (code minus) (E.codes e) f) (exchange_two p k)
        ∙ ap (λ v. cond v (E.codes e f p) (plus (order M f) (E.codes e f p) (times (order M f) (E.codes e f p) (code minus f p)))) (same_number p) in
        let o : zero ≡ 1 = sym z ∙ y ∙ class_one e f q l in omega arith

    -- nor in a row after it where the two columns differ
    cleared_at : (e f i : ℕ) → IsThere layer e → f < count M → i < M.rank → k < i → pivots e f i ≡ plus (order M f) (E.codes e f i) (code minus f i)
    cleared_at e f i q l o g =
        let m : p ≤ k = row.p_most in
        let F = field M s f l in
        ap (cleared M p (code minus) (E.codes e) f) (exchange_other p k i (λ z. absurd (omega arith)) (λ z. absurd (omega arith)))
        ∙ ap (λ v. cond v (E.codes e f p) (plus (order M f) (E.codes e f i) (times (order M f) (E.codes e f p) (code minus f i))))
        (other_number i p (λ z. absurd (omega arith)))
        ∙ ap (λ v. plus (order M f) (E.codes e f i) (times (order M f) v (code minus f i))) (class_one e f q l)
        ∙ ap (plus (order M f) (E.codes e f i)) (F.times_one (code minus f i) (minus_code f i l o))

    supported : (e : ℕ) → IsThere layer e → IsSupported M (pivots e)
    supported e q = let a = let u = state in u.inside in let o = let u = state in let v = u.trail in v.ordered in
        entry_supported M fields factors rank total h k (length settled) after e (pivots e) o (a.each e q)

    e_code : (e i : ℕ) → e < size M → i < M.rank → E.codes e 0 i < order M 0
    e_code e i l o = code_below M fields factors rank total h (slice_index_or columns e [])
        (codes e (let r = h.is_rep in let z : size M ≤ 16 = r.size_most in omega arith)) 0 i one_factor o

    at_difference : (e f i : ℕ) → IsThere layer e → f < count M → i < M.rank → k < i → E.codes e 0 i ≢ E.codes b 0 i → pivots e f i ≢ 0
    at_difference e f i q l o g n z =
        let F = field M s 0 one_factor in
        let y : plus (order M 0) (E.codes e 0 i) (code minus 0 i) ≡ 0 = sym (cleared_at e 0 i q one_factor o g) ∙ supported e q f 0 i l one_factor o z in
        n (plus_cancel (order M 0) F (code minus 0 i) (E.codes e 0 i) (E.codes b 0 i) (e_code e i q.below o) (e_code b i t.below o)
        (F.plus_comm (code minus 0 i) (E.codes e 0 i) ∙ y ∙ sym (opposite_code 0 i one_factor o) ∙ F.plus_comm (E.codes b 0 i) (code minus 0 i)))

    module _ (least : ℕ) (within : least < 16 ^ ((M.rank - k) * count M))
        (above : (e : ℕ) → e < total → slice_index_or class e false ≡ true →
        AreAbove factors rank k (slice_index_or columns e []) (slice_index_or columns b []) least) (room : M.rank + length settled < size M)
        (m : Move) (N : Rep) (reach : ReachesForm M m N) (follows : Follows M after k (length settled) m) where
      abbrev next : ℕ
      next = m.label (M.rank + length settled)

      next_below : next < size M
      next_below = let u = reach.valid.labels in u.below (M.rank + length settled) room

      next_above : least < number M (λ f i. matrix N f i (M.rank + length settled))
      next_above =
          let u = state in let o = u.trail in let v = let q = o.ordered in q.labels in
          elim (u.whole (after.place next) (v.inverse_below next next_below)
          (unsettled_place M s one_factor k (slice_index groups) settled layer rest after u m N reach follows next next_below (M.rank + length settled) room
          refl (inr (omega arith)))) [
            | inr q ↦ (let (f, i, l, b', n) = u.outside q.0 q.1 in let a = let z = u.others in z.each q.0 q.1 in
                let g : 16 ^ ((M.rank - k) * count M) ≤ number M (λ f i. matrix N f i (M.rank + length settled)) =
                next_outside M s one_factor k (length settled) (slice_index groups) after o m N reach follows room (rest.codes q.0)
                (subst (λ y. AreCoordinates M after y (rest.codes q.0)) (q.2 ∙ v.back next next_below) a.coordinates) f i l b' n in omega arith)
            | inl q ↦ (let a = let z = u.inside in z.each q.0 q.1 in
                let nonzero : (f i : ℕ) → f < count M → i < M.rank → pivots q.0 f i ≢ 0 → matrix N f i (M.rank + length settled) ≢ 0 =
                next_nonzero M s k (length settled) (slice_index groups) after o m N reach follows room (pivots q.0)
                (subst (λ y. AreCoordinates M after y (pivots q.0)) (q.2 ∙ v.back next next_below) a.coordinates) (u.zeros q.0 q.1) in
                let below : q.0 < size M = (let w = q.1 in w.below) in
                same_number_of (above q.0 (in_total below) (let w = q.1 in w.passes) (λ f i. matrix N f i (M.rank + length settled))
                (λ f l. nonzero f k (of_factors l) k_below (at_k q.0 f q.1 (of_factors l)))
                (λ i g o n f l. nonzero f i (of_factors l) (of_rank o) (at_difference q.0 f i q.1 (of_factors l) (of_rank o) g n))))
          ]
        where
          same_number_of : least < weighed (λ e. matrix N (e % factors) (e / factors) (M.rank + length settled)) (rank * factors) →
              least < number M (λ f i. matrix N f i (M.rank + length settled))
          same_number_of l = subst (λ v. least < weighed (λ e. matrix N (e % v) (e / v) (M.rank + length settled)) (M.rank * v)) h.factors_are
              (subst (λ v. least < weighed (λ e. matrix N (e % factors) (e / factors) (M.rank + length settled)) (v * factors)) h.rank_is l)

  -- what was found covers the forms that have the element in row k
  pub left_covers : (found : Option (List ℕ)) → IfSome found (AreOfClass M) → Stands true found settled →
      MatchOption found ⊥ (λ best. (length settled < length best) × (slice_index best (length settled) < 16 ^ ((M.rank - k) * count M)) ×
      ((e : ℕ) → e < total → slice_index_or class e false ≡ true →
      AreAbove factors rank k (slice_index_or columns e []) (slice_index_or columns b []) (slice_index best (length settled)))) →
      (d : Trail) → IsFrame M (suc k) (slice_index groups) settled E d → (m : Move) (N : Rep) → ReachesForm M m N →
      Follows M d (suc k) (length settled) m → m.label k ≡ b → IsAtMost found (numbers_of M N)
  left_covers found sound stands above d w m N reach follows at =
      given_up M (after d w) k (length settled) found settled refl
      (settled_room M s one_factor k (slice_index groups) settled layer rest (after d w) (state d w)) stands
      (λ m N r f j q. settled_numbers M s one_factor k (slice_index groups) settled layer rest (after d w) (state d w) m N r f j q) (by found sound above)
      m N reach
      (follows_chosen M s one_factor k (slice_index groups) settled E d w b t p row.p_most (ones d w) (zeros d w) (code minus) minus_code opposite_code
      layer rest division m follows at)
    where
      by : (o : Option (List ℕ)) → IfSome o (AreOfClass M) →
          MatchOption o ⊥ (λ best. (length settled < length best) × (slice_index best (length settled) < 16 ^ ((M.rank - k) * count M)) ×
          ((e : ℕ) → e < total → slice_index_or class e false ≡ true →
          AreAbove factors rank k (slice_index_or columns e []) (slice_index_or columns b []) (slice_index best (length settled)))) →
          MatchOption o ⊥ (λ best. (length settled < length best) × (length best ≡ size M - M.rank) ×
          ((m : Move) (N : Rep) → ReachesForm M m N → Follows M (after d w) k (length settled) m →
          slice_index best (length settled) < number M (λ f i. matrix N f i (M.rank + length settled))))
      by None s l = l
      by (Some best) s l =
          let n : length best ≡ size M - M.rank = class_length M best s in
          let (q, v, a) = l in
          (q, n, λ m N r f. next_above d w (slice_index best (length settled)) v a (omega arith) m N r f)
