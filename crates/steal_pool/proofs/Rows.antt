-- The seats of one shift, one more at a time.
use Rattle.std.proofs.Common.{◌≡◌, ◌≢◌, ℕ, zero, suc, ◌+◌, ◌-◌, ◌<◌, cond, nat_lt, Some, List, [], ◌∷◌, ◌++◌, map, length, set, slice_index_or, sym, refl, ap, ◌∙◌, subst, ⊎_elim, arith, length-set, get_or-set_same, get_or-set_other, length-append}
use Rattle.std.specs.List.{slice_get}
use Rattle.std.proofs.lemmas.Bool.{cases_eq}
use Rattle.std.proofs.lemmas.Bool.Decides.{nat_tests}
use Rattle.steal_deque.specs.declared.deque.Knowledge.{Knowledge}
use Rattle.steal_deque.specs.Deque.{one, spent, kept, given}
use Rattle.steal_pool.specs.Ring.{ring, view_at}
use Rattle.steal_pool.specs.Rows.{AreCut, IsRow, IsAround}

pub map_get : {A B : Type 0} (f : A → B) (xs : List A) (i : ℕ) (r : A) → i < length xs → slice_get (map f xs) i ≡ Some (f (slice_index_or xs i r))
map_get f [] i r below = absurd (omega arith)
map_get f (x ∷ xs) zero r below = refl
map_get f (x ∷ xs) (suc i) r below = map_get f xs i r (omega arith)

at_snoc_old : (views : List Knowledge) (w : Knowledge) (j : ℕ) → j < length views → view_at (views ++ w ∷ []) j ≡ view_at views j
at_snoc_old [] w j below = absurd (omega arith)
at_snoc_old (v ∷ vs) w zero below = refl
at_snoc_old (v ∷ vs) w (suc j) below = at_snoc_old vs w j (omega arith)

at_snoc_new : (views : List Knowledge) (w : Knowledge) → view_at (views ++ w ∷ []) (length views) ≡ w
at_snoc_new [] w = refl
at_snoc_new (v ∷ vs) w = at_snoc_new vs w

-- a fact of each place, with one more place
pub each_more : (F : ℕ → Knowledge → Type 0) (n : ℕ) (views : List Knowledge) (w : Knowledge) → length views ≡ n
    → ((j : ℕ) → j < n → F j (view_at views j)) → F n w → (j : ℕ) → j < n + 1 → F j (view_at (views ++ w ∷ []) j)
each_more F n views w count old mine j l =
    ⊎_elim
    (λ (is : j ≡ n). subst (λ (i : ℕ). F i (view_at (views ++ w ∷ []) i)) (count ∙ sym is)
    (subst (F (length views)) (sym (at_snoc_new views w)) (subst (λ (i : ℕ). F i w) (sym count) mine)))
    (λ (isnt : j ≢ n). subst (F j) (sym (at_snoc_old views w j (omega arith))) (old j (omega arith)))
    (cases_eq j n)

module _ {D : Type 0} where
  got_old : (xs : List D) (w : D) (j : ℕ) → j < length xs → slice_get (xs ++ w ∷ []) j ≡ slice_get xs j
  got_old [] w j below = absurd (omega arith)
  got_old (v ∷ vs) w zero below = refl
  got_old (v ∷ vs) w (suc j) below = got_old vs w j (omega arith)

  got_new : (xs : List D) (w : D) → slice_get (xs ++ w ∷ []) (length xs) ≡ Some w
  got_new [] w = refl
  got_new (v ∷ vs) w = got_new vs w

  pub around_more : (number n d : ℕ) (deques row : List D) (w : D) → IsAround number n deques row → slice_get deques d ≡ Some w
      → ring (length deques) number (n + 1) ≡ d → IsAround number (n + 1) deques (row ++ w ∷ [])
  around_more number n d deques row w h at is = record {
    count = (let c = h.count in omega (arith, length-append row (w ∷ [])));
    seats = λ j l. (let c = h.count in ⊎_elim
        (λ (same : j ≡ n). ap (slice_get (row ++ w ∷ [])) (same ∙ sym c) ∙ got_new row w ∙ sym at
        ∙ ap (slice_get deques) (sym is ∙ ap (λ (i : ℕ). ring (length deques) number (i + 1)) (sym same)))
        (λ (isnt : j ≢ n). got_old row w j (omega arith) ∙ h.seats j (omega arith))
        (cases_eq j n));
  }

pub row_more : (number n d : ℕ) (owners row : List Knowledge) (v w : Knowledge) → IsRow number n owners row → v.pushed ≡ (view_at owners d).pushed
    → ring (length owners) number (n + 1) ≡ d → w ≡ given v
    → IsRow number (n + 1) owners (row ++ w ∷ [])
row_more number n d owners row v w h pushed is cut =
    let c = h.count in record {
      count = omega (arith, length-append row (w ∷ []));
      parts = each_more (λ _ u. u.parts ≡ 1) n row w c h.parts (ap (λ (u : Knowledge). u.parts) cut);
      all = each_more (λ j u. u.pushed ≡ (view_at owners (ring (length owners) number (j + 1))).pushed) n row w c h.all
          (ap (λ (u : Knowledge). u.pushed) cut ∙ pushed ∙ ap (λ (k : ℕ). (view_at owners k).pushed) (sym is));
      none = each_more (λ _ u. u.taken ≡ []) n row w c h.none (ap (λ (u : Knowledge). u.taken) cut);
    }

-- each place is the one that was written, or another
pub set_each : (F : ℕ → Knowledge → Type 0) (views : List Knowledge) (n d : ℕ) (w : Knowledge) → d < length views → F d w
    → ((j : ℕ) → j ≢ d → j < n → F j (view_at views j)) → (j : ℕ) → j < n → F j (view_at (set views d w) j)
set_each F views n d w below mine others j l =
    ⊎_elim
    (λ (is : j ≡ d). subst (λ (i : ℕ). F i (view_at (set views d w) i)) (sym is) (subst (F d) (sym (get_or-set_same views d w spent below)) mine))
    (λ (isnt : j ≢ d). subst (F j) (sym (get_or-set_other views d j w spent isnt)) (others j isnt l))
    (cases_eq j d)

-- one owner hands out a pass
pub cut_more : (cuts more : ℕ → ℕ) (old new : List Knowledge) (d : ℕ) (v w : Knowledge) → AreCut cuts old new → d < length old → v ≡ view_at new d
    → 1 < v.parts → w ≡ kept v
    → more d ≡ cuts d + 1 → ((k : ℕ) → k ≢ d → more k ≡ cuts k) → AreCut more old (set new d w)
cut_more cuts more old new d v w h below at many cut here else_ =
    let c = h.count in
    let b : d < length new = omega arith in
    let p : v.parts ≡ (view_at new d).parts = ap (λ (u : Knowledge). u.parts) at in
    let q : w.parts ≡ v.parts - 1 = ap (λ (u : Knowledge). u.parts) cut in
    let hp = h.parts d below in record {
      count = length-set new d w ∙ h.count;
      parts = set_each (λ k u. u.parts + more k ≡ (view_at old k).parts) new (length old) d w b (omega arith)
          (λ k isnt l. let e = else_ k isnt in let o = h.parts k l in omega arith);
      all = set_each (λ k u. u.pushed ≡ (view_at old k).pushed) new (length old) d w b
          (ap (λ (u : Knowledge). u.pushed) (cut ∙ ap kept at) ∙ h.all d below) (λ k _ l. h.all k l);
      none = set_each (λ k u. u.taken ≡ (view_at old k).taken) new (length old) d w b
          (ap (λ (u : Knowledge). u.taken) (cut ∙ ap kept at) ∙ h.none d below) (λ k _ l. h.none k l);
    }

-- the same counts by other words
pub cut_same : (cuts more : ℕ → ℕ) (old new : List Knowledge) → AreCut cuts old new → ((k : ℕ) → k < length old → more k ≡ cuts k) → AreCut more old new
cut_same cuts more old new h same = record {
  count = h.count;
  parts = λ k l.
      (let e = same k l in let o = h.parts k l in omega arith);
  all = h.all;
  none = h.none;
}

pub cut_none : (cuts : ℕ → ℕ) (old : List Knowledge) → ((k : ℕ) → k < length old → cuts k ≡ 0) → AreCut cuts old old
cut_none cuts old zero_ = record { count = refl; parts = λ k l. (let e = zero_ k l in omega arith); all = λ k l. refl; none = λ k l. refl }

-- in the first part of the round, up to d
abbrev pub upper : ℕ → ℕ → ℕ → ℕ
upper number d k = cond (nat_lt number k) (one (nat_lt k d)) 0

abbrev pub lower : ℕ → ℕ → ℕ → ℕ
lower number d k = one (nat_lt number k) + one (nat_lt k d)

pub upper_first : (number k : ℕ) → upper number (number + 1) k ≡ 0
upper_first number k = grind (arith, nat_tests)

pub upper_here : (number d : ℕ) → number < d → upper number (d + 1) d ≡ upper number d d + 1
upper_here number d more = grind (arith, nat_tests)

pub upper_else : (number d k : ℕ) → k ≢ d → upper number (d + 1) k ≡ upper number d k
upper_else number d k isnt = grind (arith, nat_tests)

pub upper_lower : (number n k : ℕ) → number < n → k < n → lower number 0 k ≡ upper number n k
upper_lower number n k a b = grind (arith, nat_tests)

pub lower_here : (number d : ℕ) → d < number → lower number (d + 1) d ≡ lower number d d + 1
lower_here number d more = grind (arith, nat_tests)

pub lower_else : (number d k : ℕ) → k ≢ d → lower number (d + 1) k ≡ lower number d k
lower_else number d k isnt = grind (arith, nat_tests)

pub ring_upper : (deques number j d : ℕ) → number + j ≡ d → d < deques → ring deques number j ≡ d
ring_upper deques number j d is below = grind (arith, nat_tests)

pub ring_lower : (deques number j d : ℕ) → number + j ≡ deques + d → ring deques number j ≡ d
ring_lower deques number j d is = grind (arith, nat_tests)

pub upper_none : (number d : ℕ) → upper number d d ≡ 0
upper_none number d = grind (arith, nat_tests)

pub lower_none : (number d : ℕ) → d < number → lower number d d ≡ 0
lower_none number d below = grind (arith, nat_tests)
