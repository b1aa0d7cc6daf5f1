-- Once all passes are back, each number was taken once at most, and where the deques were emptied, once.
use Rattle.std.proofs.Common.{◌≡◌, ◌≢◌, ℕ, zero, suc, ◌+◌, ◌-◌, ◌*◌, ◌%◌, ◌<◌, ◌≤◌, ◌==◌, ◌⊎◌, Bool, true, false, cond, Option, None, Some, Contains, List, [], ◌∷◌, ◌++◌, map, length, sym, refl, ap, ◌∙◌, subst, ⊎_elim, inl, inr, arith}
use Rattle.std.specs.Global.{Global, Vec}
use Rattle.std.specs.List.{slice_get, concat}
use Rattle.std.proofs.lemmas.Bool.{cases_eq}
use Rattle.std.proofs.lemmas.Bool.Decides.{nat_tests}
use Rattle.std.proofs.lemmas.List.{length-map}
use Rattle.atomic_blocks.specs.Lent.{RowsId}
use Rattle.crossbeam_deque.specs.Handles.{worker_view, worker_deque, stealer_deque}
use Rattle.steal_deque.specs.declared.deque.Knowledge.{Knowledge}
use Rattle.steal_pool.specs.declared.seat.Seat.{Seat}
use Rattle.steal_pool.specs.declared.shift.Shift.{Shift}
use Rattle.steal_deque.specs.Deque.{one, times, total, share, Settled, Learned}
use Rattle.steal_pool.specs.Ring.{ring, view_at, takings}
use Rattle.steal_pool.specs.SeatViews.{seat_views}
use Rattle.steal_pool.specs.Rows.{IsAround, seat_deques}
use Rattle.steal_pool.specs.Shift.{visited, shift_taken, HasEnded}
use Rattle.steal_pool.specs.Pool.{pool_deques, IsPoolShift, IsPoolOf, AllEnded, IsProper, IsWhole}
use Rattle.steal_pool.specs.Back.{place_view, place_deque, place_views, place_deques, seat_places, row_views, rows_views, HaveParts, AreBack, GoesRound}
use Rattle.steal_deque.proofs.Steps.{times-append, times_same}
use Rattle.steal_deque.proofs.Filling.{one_other}
use Rattle.steal_pool.proofs.Shifts.{Own, ring_zero}
use Rattle.steal_pool.proofs.Empty.{nothing_in}
use Rattle.steal_pool.proofs.Stays.{got_is}
use Rattle.steal_pool.proofs.GivenBack.{total-append}

-- f at the n numbers from `first` on, added up
abbrev pub added : (ℕ → ℕ) → ℕ → ℕ → ℕ
added f first zero = 0
added f first (suc n) = f first + added f (suc first) n

added_sum : (f g h : ℕ → ℕ) (first n : ℕ) → ((k : ℕ) → f k ≡ g k + h k) → added f first n ≡ added g first n + added h first n
added_sum f g h first zero e = refl
added_sum f g h first (suc n) e = let a = e first in let b = added_sum f g h (suc first) n e in omega arith

added_none : (f : ℕ → ℕ) (first n : ℕ) → ((k : ℕ) → first ≤ k → k < first + n → f k ≡ 0) → added f first n ≡ 0
added_none f first zero e = refl
added_none f first (suc n) e = let a = e first (omega arith) (omega arith) in
    let b = added_none f (suc first) n (λ k l m. e k (omega arith) (omega arith)) in omega arith

-- one place alone adds something
added_one : (f : ℕ → ℕ) (first n r : ℕ) → first ≤ r → r < first + n → ((k : ℕ) → k ≢ r → f k ≡ 0) → added f first n ≡ f r
added_one f first zero r l m e = absurd (omega arith)
added_one f first (suc n) r l m e =
    ⊎_elim
    (λ (is : first ≡ r). let a = ap f is in let b = added_none f (suc first) n (λ k p q. e k (λ (z : k ≡ r). absurd (omega arith))) in omega arith)
    (λ (isnt : first ≢ r). let a = e first isnt in let b = added_one f (suc first) n r (omega arith) (omega arith) e in omega arith)
    (cases_eq first r)

-- what one more number adds to a share
gain : ℕ → ℕ → ℕ → ℕ → ℕ
gain deques x p k = cond (p % deques == k) (one (x == p)) 0

share_gain : (deques x p k : ℕ) → times x (share deques k (suc p)) ≡ times x (share deques k p) + gain deques x p k
unfolding gain
share_gain deques x p k =
    elim (p % deques == k) as (λ b. times x (cond b (share deques k p ++ p ∷ []) (share deques k p)) ≡ times x (share deques k p) + cond b (one (x == p)) 0) [
      | true ↦ omega (arith, times-append x (share deques k p) (p ∷ []))
      | false ↦ omega arith
    ]

gain_else : (deques x p k : ℕ) → k ≢ p % deques → gain deques x p k ≡ 0
unfolding gain
gain_else deques x p k isnt = let e : (p % deques == k) ≡ false = grind (arith, nat_tests) in ap (λ (b : Bool). cond b (one (x == p)) 0) e

gain_here : (deques x p : ℕ) → gain deques x p (p % deques) ≡ one (x == p)
unfolding gain
gain_here deques x p = let e : (p % deques == p % deques) ≡ true = grind (arith, nat_tests) in ap (λ (b : Bool). cond b (one (x == p)) 0) e

-- each number below the parents stands in one share, and once
shares_times : (deques x parents : ℕ) → 0 < deques
    → ((x < parents) × (added (λ k. times x (share deques k parents)) 0 deques ≡ 1)) ⊎
    ((parents ≤ x) × (added (λ k. times x (share deques k parents)) 0 deques ≡ 0))
shares_times deques x zero some = inr (omega arith, added_none (λ k. times x (share deques k zero)) 0 deques (λ k l m. refl))
shares_times deques x (suc p) some =
    let sum = added_sum (λ k. times x (share deques k (suc p))) (λ k. times x (share deques k p)) (gain deques x p) 0 deques (share_gain deques x p) in
    let b : p % deques < deques = omega arith in
    let g = added_one (gain deques x p) 0 deques (p % deques) (omega arith) (omega arith) (gain_else deques x p) in
    let h = gain_here deques x p in
    ⊎_elim
    (λ (is : x ≡ p).
    let o : one (x == p) ≡ 1 = ap (λ (y : ℕ). one (x == y)) (sym is) ∙ times_same x in
    ⊎_elim
    (λ (t : (x < p) × (added (λ k. times x (share deques k p)) 0 deques ≡ 1)). let l = t.0 in absurd (omega arith))
    (λ (t : (p ≤ x) × (added (λ k. times x (share deques k p)) 0 deques ≡ 0)). let e = t.1 in inl (omega arith, omega arith))
    (shares_times deques x p some))
    (λ (isnt : x ≢ p).
    let o : one (x == p) ≡ 0 = one_other x p isnt in
    ⊎_elim
    (λ (t : (x < p) × (added (λ k. times x (share deques k p)) 0 deques ≡ 1)). let l = t.0 in let e = t.1 in inl (omega arith, omega arith))
    (λ (t : (p ≤ x) × (added (λ k. times x (share deques k p)) 0 deques ≡ 0)). let l = t.0 in let e = t.1 in inr (omega arith, omega arith))
    (shares_times deques x p some))
    (cases_eq x p)

total_most : (f : Knowledge → ℕ) (g : ℕ → ℕ) (views : List Knowledge) (first n : ℕ) → length views ≡ n
    → ((k : ℕ) → k < n → f (view_at views k) ≤ g (first + k)) → total f views ≤ added g first n
total_most f g [] first zero c e = omega arith
total_most f g [] first (suc n) c e = absurd (omega arith)
total_most f g (v ∷ vs) first zero c e = absurd (omega arith)
total_most f g (v ∷ vs) first (suc n) c e =
    let a : f v ≤ g (first + 0) = e 0 (omega arith) in let z : g (first + 0) ≡ g first = ap g (omega arith) in
    let b = total_most f g vs (suc first) n (omega arith)
    (λ k l. let y : f (view_at vs k) ≤ g (first + suc k) = e (suc k) (omega arith) in
    let w : g (first + suc k) ≡ g (suc first + k) = ap g (omega arith) in omega arith) in omega arith

total_same : (f : Knowledge → ℕ) (g : ℕ → ℕ) (views : List Knowledge) (first n : ℕ) → length views ≡ n
    → ((k : ℕ) → k < n → f (view_at views k) ≡ g (first + k)) → total f views ≡ added g first n
total_same f g [] first zero c e = refl
total_same f g [] first (suc n) c e = absurd (omega arith)
total_same f g (v ∷ vs) first zero c e = absurd (omega arith)
total_same f g (v ∷ vs) first (suc n) c e =
    let a : f v ≡ g (first + 0) = e 0 (omega arith) in let z : g (first + 0) ≡ g first = ap g (omega arith) in
    let b = total_same f g vs (suc first) n (omega arith)
    (λ k l. let y : f (view_at vs k) ≡ g (first + suc k) = e (suc k) (omega arith) in
    let w : g (first + suc k) ≡ g (suc first + k) = ap g (omega arith) in omega arith) in omega arith

total_few : (m : ℕ) (f : Knowledge → ℕ) (views : List Knowledge) → ((k : ℕ) → k < length views → f (view_at views k) ≤ m) → total f views ≤ m * length views
total_few m f [] e = omega arith
total_few m f (v ∷ vs) e = let a : f v ≤ m = e 0 (omega arith) in let b = total_few m f vs (λ k l. e (suc k) (omega arith)) in grind arith

-- where none has more than m, and all together have m for each, each has m
each_full : (f : Knowledge → ℕ) (views : List Knowledge) → ((k : ℕ) → k < length views → f (view_at views k) ≤ 64) → total f views ≡ 64 * length views
    → (k : ℕ) → k < length views → f (view_at views k) ≡ 64
each_full f [] e all k l = absurd (omega arith)
each_full f (v ∷ vs) e all zero l = let a : f v ≤ 64 = e 0 (omega arith) in let b = total_few 64 f vs (λ k l. e (suc k) (omega arith)) in omega arith
each_full f (v ∷ vs) e all (suc k) l =
    let a : f v ≤ 64 = e 0 (omega arith) in let b = total_few 64 f vs (λ k l. e (suc k) (omega arith)) in
    each_full f vs (λ k l. e (suc k) (omega arith)) (omega arith) k (omega arith)

-- all owners have their deque's parts, so what they have taken is what was pushed at most
record AreFull (deques parents : ℕ) (views : List Knowledge) : Type 0 where
  count : length views ≡ deques
  settled : (k : ℕ) → k < deques → Settled (view_at views k)
  all : (k : ℕ) → k < deques → (view_at views k).pushed ≡ share deques k parents

full_proper : (deques parents : ℕ) (views : List Knowledge) → 0 < deques → AreFull deques parents views → (x : ℕ)
    → (total (λ v. times x v.taken) views ≤ 1) × (0 < total (λ v. times x v.taken) views → x < parents)
full_proper deques parents views some h x =
    let most = total_most (λ v. times x v.taken) (λ k. times x (share deques k parents)) views 0 deques h.count
    (λ k l. let z : 0 + k ≡ k = omega arith in let e : times x (share deques (0 + k) parents) ≡ times x (view_at views k).pushed = ap
    (λ (j : ℕ). times x (share deques j parents)) z ∙ ap (times x) (sym (h.all k l)) in
    let s = (h.settled k l).proper x in omega arith) in
    ⊎_elim
    (λ (t : (x < parents) × (added (λ k. times x (share deques k parents)) 0 deques ≡ 1)). let e = t.1 in (omega arith, λ _. t.0))
    (λ (t : (parents ≤ x) × (added (λ k. times x (share deques k parents)) 0 deques ≡ 0)). let e = t.1 in (omega arith, λ m. absurd (omega arith)))
    (shares_times deques x parents some)

full_whole : (deques parents : ℕ) (views : List Knowledge) → 0 < deques → AreFull deques parents views
    → ((k : ℕ) → k < deques → (view_at views k).ended ≡ true) → (x : ℕ) → x < parents → total (λ v. times x v.taken) views ≡ 1
full_whole deques parents views some h ended x below =
    let same = total_same (λ v. times x v.taken) (λ k. times x (share deques k parents)) views 0 deques h.count
    (λ k l. let z : 0 + k ≡ k = omega arith in let e : times x (share deques (0 + k) parents) ≡ times x (view_at views k).pushed = ap
    (λ (j : ℕ). times x (share deques j parents)) z ∙ ap (times x) (sym (h.all k l)) in
    let s = (h.settled k l).whole (ended k l) x in omega arith) in
    ⊎_elim
    (λ (t : (x < parents) × (added (λ k. times x (share deques k parents)) 0 deques ≡ 1)). let e = t.1 in omega arith)
    (λ (t : (parents ≤ x) × (added (λ k. times x (share deques k parents)) 0 deques ≡ 0)). let e = t.0 in absurd (omega arith))
    (shares_times deques x parents some)

-- g of each element, added up
abbrev pub sums : {A : Type 0} → (A → ℕ) → List A → ℕ
sums g [] = 0
sums g (x ∷ xs) = g x + sums g xs

lift : {A B : Type 0} → (A → B) → Option A → Option B
lift f None = None
lift f (Some x) = Some (f x)

module _ {A : Type 0} where
  both_total : (f : Knowledge → ℕ) (o : A → Knowledge) (r : A → Option (Vec Seat)) (xs : List A)
      → total f (map o xs) + total f (rows_views (map r xs)) ≡ sums (λ x. f (o x) + total f (row_views (r x))) xs
  both_total f o r [] = refl
  both_total f o r (x ∷ xs) = omega (arith, both_total f o r xs, total-append f (row_views (r x)) (rows_views (map r xs)))

  sums_const : (g : A → ℕ) (c : ℕ) (xs : List A) → ((i : ℕ) (x : A) → slice_get xs i ≡ Some x → g x ≡ c) → sums g xs ≡ c * length xs
  sums_const g c [] e = omega arith
  sums_const g c (x ∷ xs) e = let a : g x ≡ c = e 0 x refl in let b = sums_const g c xs (λ i y at. e (suc i) y at) in grind arith

  times_concat : (y : ℕ) (g : A → List ℕ) (h : A → ℕ) (xs : List A) → ((x : A) → times y (g x) ≡ h x) → times y (concat (map g xs)) ≡ sums h xs
  times_concat y g h [] e = refl
  times_concat y g h (x ∷ xs) e = let a = e x in let b = times_concat y g h xs e in omega (arith, times-append y (g x) (concat (map g xs)))

  got_from : {B : Type 0} (f : A → B) (xs : List A) (i : ℕ) (y : B) → slice_get (map f xs) i ≡ Some y → (x : A) × (slice_get xs i ≡ Some x) × (f x ≡ y)
  got_from f [] i y e = absurd cc
  got_from f (x ∷ xs) zero y e = (x, refl, cc)
  got_from f (x ∷ xs) (suc i) y e = got_from f xs i y e

  got_mapped : {B : Type 0} (f : A → B) (xs : List A) (i : ℕ) → slice_get (map f xs) i ≡ lift f (slice_get xs i)
  unfolding lift
  got_mapped f [] i = refl
  got_mapped f (x ∷ xs) zero = refl
  got_mapped f (x ∷ xs) (suc i) = got_mapped f xs i

  got_some : (xs : List A) (i : ℕ) → i < length xs → (x : A) × (slice_get xs i ≡ Some x)
  got_some [] i l = absurd (omega arith)
  got_some (x ∷ xs) zero l = (x, refl)
  got_some (x ∷ xs) (suc i) l = got_some xs i (omega arith)

  view_got : (f : A → Knowledge) (xs : List A) (i : ℕ) (x : A) → slice_get xs i ≡ Some x → view_at (map f xs) i ≡ f x
  view_got f [] i x e = absurd cc
  view_got f (y ∷ ys) zero x e = let is : y ≡ x = cc in ap f is
  view_got f (y ∷ ys) (suc i) x e = view_got f ys i x e

  map_map : {B C : Type 0} (f : A → B) (g : B → C) (xs : List A) → map g (map f xs) ≡ map (λ x. g (f x)) xs
  map_map f g [] = refl
  map_map f g (x ∷ xs) = ap (λ l. g (f x) ∷ l) (map_map f g xs)

around_map : {D E : Type 0} (f : D → E) (number n : ℕ) (deques row : List D) → IsAround number n deques row → IsAround number n (map f deques) (map f row)
around_map f number n deques row h = record {
  count = length-map row f ∙ h.count;
  seats = λ j l. got_mapped f row j ∙ ap (lift f) (h.seats j l ∙ ap (λ (k : ℕ). slice_get deques (ring k number (j + 1))) (sym (length-map deques f)))
      ∙ sym (got_mapped f deques (ring (length (map f deques)) number (j + 1)));
}

times_takings : (x : ℕ) (views : List Knowledge) → times x (takings views) ≡ total (λ v. times x v.taken) views
times_takings x [] = refl
times_takings x (v ∷ vs) = omega (arith, times-append x v.taken (takings vs), times_takings x vs)

parts_one : (views : List Knowledge) → ((j : ℕ) → j < length views → (view_at views j).parts ≡ 1) → total (λ v. v.parts) views ≡ length views
parts_one [] e = refl
parts_one (v ∷ vs) e = let a : v.parts ≡ 1 = e 0 (omega arith) in let b = parts_one vs (λ j l. e (suc j) (omega arith)) in omega arith

some_met : (deques number done d : ℕ) → Contains (visited deques number done) d → 0 < done
some_met deques number zero d h = absurd (nothing_in d h)
some_met deques number (suc n) d h = omega arith

abbrev pub own_views : List Shift → List Knowledge
own_views shifts = map (λ s. worker_view s.own) shifts

abbrev pub shift_places : List Shift → List (Option Own)
shift_places shifts = map (λ s. Some s.own) shifts

abbrev pub shift_rows : List Shift → List (Option (Vec Seat))
shift_rows shifts = map (λ s. Some s.others) shifts

places_views : (shifts : List Shift) → place_views (shift_places shifts) ≡ own_views shifts
places_views shifts = map_map (λ (s : Shift). Some s.own) place_view shifts

places_deques : (shifts : List Shift) → place_deques (shift_places shifts) ≡ map (λ d. Some d) (pool_deques shifts)
places_deques shifts = map_map (λ (s : Shift). Some s.own) place_deque shifts ∙ sym (map_map (λ (s : Shift). worker_deque s.own) (λ d. Some d) shifts)

seats_parts : (s : Shift) → HaveParts (seat_views s.others.items)
seats_parts s k below = let h = s.kept in let c = h.count in h.part (suc k) (omega arith)

goes_round : (deques parents i : ℕ) (shifts : List Shift) (s : Shift) → IsPoolOf deques parents shifts → slice_get shifts i ≡ Some s
    → GoesRound i (place_deques (shift_places shifts)) (Some s.others)
goes_round deques parents i shifts s pool at =
    let ds : List (RowsId × Global) = pool_deques shifts in
    let n : length (map (λ d. Some d) ds) ≡ deques = length-map ds (λ d. Some d) ∙ length-map shifts (λ (s : Shift). worker_deque s.own) ∙ pool.count in
    let around : IsAround i (deques - 1) (map (λ d. Some d) ds) (map (λ d. Some d) (seat_deques s.others.items)) = around_map (λ d. Some d) i
    (deques - 1) ds (seat_deques s.others.items) (pool.around i s at) in
    let around' : IsAround i (deques - 1) (map (λ d. Some d) ds) (seat_places s.others.items) =
    subst (IsAround i (deques - 1) (map (λ d. Some d) ds)) (map_map (λ (t : Seat). stealer_deque t.thief) (λ d. Some d) s.others.items) around in (
      subst (λ places. IsAround i (length places - 1) places (seat_places s.others.items)) (sym (places_deques shifts))
          (subst (λ (k : ℕ). IsAround i (k - 1) (map (λ d. Some d) ds) (seat_places s.others.items)) (sym n) around'),
      seats_parts s,
    )

pub rows_round : (deques parents : ℕ) (shifts : List Shift) (places : List (Option Own)) (rows : List (Option (Vec Seat)))
    → IsPoolOf deques parents shifts → places ≡ shift_places shifts → rows ≡ shift_rows shifts
    → (i : ℕ) (row : Option (Vec Seat)) → slice_get rows i ≡ Some row → GoesRound i (place_deques places) row
rows_round deques parents shifts places rows pool ep er i row at =
    let g = got_from (λ (s : Shift). Some s.others) shifts i row (ap (λ (l : List (Option (Vec Seat))). slice_get l i) (sym er) ∙ at) in
    subst (λ (ps : List (Option Own)). GoesRound i (place_deques ps) row) (sym ep)
    (subst (GoesRound i (place_deques (shift_places shifts))) g.2 (goes_round deques parents i shifts g.0 pool g.1))

own_at : (shifts : List Shift) (k : ℕ) → k < length shifts → (s : Shift) × (slice_get shifts k ≡ Some s) × (view_at (own_views shifts) k ≡ worker_view s.own)
own_at shifts k l = let g = got_some shifts k l in (g.0, g.1, view_got (λ (s : Shift). worker_view s.own) shifts k g.0 g.1)

pub places_parts : (shifts : List Shift) (places : List (Option Own)) → places ≡ shift_places shifts → HaveParts (place_views places)
places_parts shifts places ep = subst HaveParts (sym (ap place_views ep ∙ places_views shifts)) (λ k below.
    let n = length-map shifts (λ (s : Shift). worker_view s.own) in
    let o = own_at shifts k (omega arith) in
    let own : 0 < (worker_view o.0.own).parts = (let h = o.0.kept in let b = h.own in h.part 0 (omega arith)) in
    subst (λ (v : Knowledge). 0 < v.parts) (sym o.2) own)

shift_parts : (deques parents i : ℕ) (s : Shift) → IsPoolShift deques parents i s
    → (worker_view s.own).parts + total (λ v. v.parts) (seat_views s.others.items) ≡ 64
shift_parts deques parents i s h =
    let k = s.kept in let c = k.count in let d = h.deques_of in let o = h.own_parts in let b = k.own in
    let ones = parts_one (seat_views s.others.items) (λ j l. h.seat_parts j (omega arith)) in omega arith

pub record AreAllBack (deques parents : ℕ) (shifts : List Shift) (final : List Knowledge) : Type 0 where
  pub pool : IsPoolOf deques parents shifts
  pub back : AreBack (own_views shifts) final (rows_views (shift_rows shifts)) []
  pub learned : (k : ℕ) → k < length final → Learned (view_at final k)

all_back : (deques parents : ℕ) (shifts : List Shift) (final : List Knowledge) → AreAllBack deques parents shifts final → AreFull deques parents final
all_back deques parents shifts final h =
    let n = length-map shifts (λ (s : Shift). worker_view s.own) in let c = h.back.count in let m = h.pool.count in
    let sum = both_total (λ v. v.parts) (λ (s : Shift). worker_view s.own) (λ (s : Shift). Some s.others) shifts in
    let all = sums_const (λ (s : Shift). (worker_view s.own).parts + total (λ v. v.parts) (seat_views s.others.items)) 64 shifts
    (λ i s at. shift_parts deques parents i s (h.pool.each i s at)) in
    let p = h.back.parts in
    let whole : total (λ v. v.parts) final ≡ 64 * length final =
    (let e : 64 * length shifts ≡ 64 * length final = ap (λ (k : ℕ). 64 * k) (omega arith) in omega arith) in
    record {
      count = omega arith;
      settled = λ k l. (h.learned k (omega arith)).settled (each_full (λ v. v.parts) final (λ j b. (h.learned j b).few) whole k (omega arith));
      all = λ k l.
          let o = own_at shifts k (omega arith) in let s : Shift = o.0 in let g = h.pool.each k s o.1 in
          let kept = s.kept in
          let mine : (worker_view s.own).pushed ≡ share s.deques (ring s.deques s.number 0) s.parents = (let b = kept.own in kept.all 0 (omega arith)) in
          h.back.same k (omega arith) ∙ ap (λ (v : Knowledge). v.pushed) o.2 ∙ mine
          ∙ ap (λ (j : ℕ). share s.deques j s.parents) (ring_zero s.deques s.number kept.own ∙ g.number)
          ∙ ap (λ (d : ℕ). share d k s.parents) g.deques_of ∙ ap (share deques k) g.parents_of;
    }

all_taken : (x : ℕ) (deques parents : ℕ) (shifts : List Shift) (final : List Knowledge) → AreAllBack deques parents shifts final
    → times x (concat (map (λ s. shift_taken s) shifts)) ≡ total (λ v. times x v.taken) final
all_taken x deques parents shifts final h =
    let sum = both_total (λ v. times x v.taken) (λ (s : Shift). worker_view s.own) (λ (s : Shift). Some s.others) shifts in
    let lists = times_concat x (λ (s : Shift). shift_taken s)
    (λ (s : Shift). times x (worker_view s.own).taken + total (λ v. times x v.taken) (seat_views s.others.items)) shifts
    (λ s. times_takings x (worker_view s.own ∷ seat_views s.others.items)) in
    let e = h.back.each x in omega arith

pub all_proper : (deques parents : ℕ) (shifts : List Shift) (final : List Knowledge) → AreAllBack deques parents shifts final
    → IsProper parents (concat (map (λ s. shift_taken s) shifts))
all_proper deques parents shifts final h =
    let f = all_back deques parents shifts final h in record {
      below = λ x some. (let p = full_proper deques parents final h.pool.some f x in let e = all_taken x deques parents shifts final h in p.1 (omega arith));
      once = λ x. (let p = full_proper deques parents final h.pool.some f x in let e = all_taken x deques parents shifts final h in let q = p.0 in omega arith);
    }

pub all_whole : (deques parents : ℕ) (shifts : List Shift) (final : List Knowledge) → AreAllBack deques parents shifts final → AllEnded shifts
    → IsWhole parents (concat (map (λ s. shift_taken s) shifts))
all_whole deques parents shifts final h ended x below =
    let f = all_back deques parents shifts final h in
    let met : (k : ℕ) → k < deques → (view_at final k).ended ≡ true = λ k l.
    let n = length-map shifts (λ (s : Shift). worker_view s.own) in let m = h.pool.count in
    let o = own_at shifts k (omega arith) in let s : Shift = o.0 in let kept = s.kept in let b = kept.own in
    let at = got_is shifts k s s o.1 in
    let done : 0 < s.done = some_met s.deques s.number s.done 0 ((subst HasEnded at.1 (ended k s at.0)).every 0 (omega arith)) in
    h.back.ended k (omega arith) (ap (λ (v : Knowledge). v.ended) o.2 ∙ kept.ended 0 done) in
    all_taken x deques parents shifts final h ∙ full_whole deques parents final h.pool.some f met x below

pub when_back : (deques parents : ℕ) (shifts : List Shift) (places : List (Option Own)) (rows : List (Option (Vec Seat))) (final : List Knowledge)
    → IsPoolOf deques parents shifts → places ≡ shift_places shifts → rows ≡ shift_rows shifts
    → AreBack (place_views places) final (rows_views rows) [] → ((k : ℕ) → k < length final → Learned (view_at final k))
    → AreAllBack deques parents shifts final
when_back deques parents shifts places rows final pool ep er back learned = record {
  pool = pool;
  back = subst (λ (vs : List Knowledge). AreBack vs final (rows_views (shift_rows shifts)) []) (ap place_views ep ∙ places_views shifts)
      (subst (λ (rs : List (Option (Vec Seat))). AreBack (place_views places) final (rows_views rs) []) er back);
  learned = learned;
}
