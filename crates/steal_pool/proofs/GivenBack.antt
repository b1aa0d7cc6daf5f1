-- One pass after the other comes back.
use Rattle.std.proofs.Common.{◌≡◌, ◌≢◌, ℕ, zero, suc, ◌+◌, ◌-◌, ◌<◌, ◌≤◌, ◌||◌, Bool, true, Option, None, Some, List, [], ◌∷◌, ◌++◌, map, length, set, slice_index_or, sym, refl, ap, ◌∙◌, subst, ⊎_elim, arith, length-set, length-append, append-nil, append_assoc}
use Rattle.std.specs.Global.{Global, Vec}
use Rattle.std.specs.List.{slice_get}
use Rattle.crossbeam_deque.specs.declared.handles.Worker.{Worker}
use Rattle.crossbeam_deque.specs.Handles.{view, stealer_deque}
use Rattle.std.proofs.lemmas.Bool.{cases_eq}
use Rattle.std.proofs.lemmas.List.{map-set, get_or-map, length-map, map_push}
use Rattle.std.proofs.Math.Seq.{map-set_same}
use Rattle.steal_deque.specs.declared.deque.Knowledge.{Knowledge}
use Rattle.steal_pool.specs.declared.seat.Seat.{Seat}
use Rattle.steal_deque.specs.Deque.{times, total, spent, both, Learned}
use Rattle.steal_pool.specs.Ring.{ring, view_at}
use Rattle.steal_pool.specs.SeatViews.{seat_views}
use Rattle.steal_pool.specs.Rows.{IsAround}
use Rattle.steal_pool.specs.Back.{place_view, place_deque, place_views, place_deques, seat_places, row_views, rows_views, HaveParts, AreBack, GoesRound}
use Rattle.steal_deque.proofs.Steps.{times-append}
use Rattle.steal_pool.proofs.Filled.{ring_below}
use Rattle.steal_pool.proofs.Rows.{map_get, set_each}

total_put : (f : Knowledge → ℕ) (views : List Knowledge) (d : ℕ) (w : Knowledge) → d < length views
    → total f (set views d w) + f (view_at views d) ≡ total f views + f w
total_put f [] d w below = absurd (omega arith)
total_put f (v ∷ vs) zero w below = omega arith
total_put f (v ∷ vs) (suc d) w below = let e = total_put f vs d w (omega arith) in omega arith

pub total-append : (f : Knowledge → ℕ) (xs ys : List Knowledge) → total f (xs ++ ys) ≡ total f xs + total f ys
total-append f [] ys = omega arith
total-append f (x ∷ xs) ys = omega (arith, total-append f xs ys)

pub back_none : (first all : List Knowledge) → AreBack first first all all
back_none first all = record { count = refl; same = λ k l. refl; more = λ k l. omega arith; ended = λ k l e. e; parts = refl; each = λ x. refl }

or_left : (a b : Bool) → a ≡ true → (a || b) ≡ true
or_left a b e = ap (λ (c : Bool). c || b) e

pub back_more : (first now all longer left : List Knowledge) (d : ℕ) (w u : Knowledge) → AreBack first now all longer → longer ≡ left ++ u ∷ []
    → d < length now → w ≡ both (view_at now d) u
    → AreBack first (set now d w) all left
back_more first now all longer left d w u h is below joined =
    let c = h.count in
    let v : Knowledge = view_at now d in
    let sum : (f : Knowledge → ℕ) → total f longer ≡ total f left + (f u + 0) = λ f. ap (total f) is ∙ total-append f left (u ∷ []) in
    let pushed : w.pushed ≡ v.pushed = ap (λ (h : Knowledge). h.pushed) joined in
    let parts : w.parts ≡ v.parts + u.parts = ap (λ (h : Knowledge). h.parts) joined in
    let b : d < length first = omega arith in
    let m = h.more d b in
    record {
      count = length-set now d w ∙ h.count;
      same = set_each (λ k v. v.pushed ≡ (view_at first k).pushed) now (length first) d w below (pushed ∙ h.same d b) (λ k _ l. h.same k l);
      more = set_each (λ k v. (view_at first k).parts ≤ v.parts) now (length first) d w below (omega arith) (λ k _ l. h.more k l);
      ended = set_each (λ k v. (view_at first k).ended ≡ true → v.ended ≡ true) now (length first) d w below
          (λ e. ap (λ (h : Knowledge). h.ended) joined ∙ or_left v.ended u.ended (h.ended d b e)) (λ k _ l. h.ended k l);
      parts = (let p = h.parts in let t = total_put (λ v. v.parts) now d w below in let s = sum (λ v. v.parts) in omega arith);
      each = λ x. (let e = h.each x in let t = total_put (λ v. times x v.taken) now d w below in let s = sum (λ v. times x v.taken) in
          let n : times x w.taken ≡ times x v.taken + times x u.taken = ap (λ (h : Knowledge). times x h.taken) joined
          ∙ times-append x v.taken u.taken in omega arith);
    }

-- all passes of one row are back
pub back_row : (first now new all longer left row : List Knowledge) → AreBack first now all longer → longer ≡ left ++ row → AreBack now new row []
    → AreBack first new all left
back_row first now new all longer left row h is g =
    let c = h.count in
    let sum : (f : Knowledge → ℕ) → total f longer ≡ total f left + total f row = λ f. ap (total f) is ∙ total-append f left row in
    record {
      count = g.count ∙ h.count;
      same = λ k l. g.same k (omega arith) ∙ h.same k l;
      more = λ k l. (let a = g.more k (omega arith) in let b = h.more k l in omega arith);
      ended = λ k l e. g.ended k (omega arith) (h.ended k l e);
      parts = (let a = h.parts in let b = g.parts in let s = sum (λ v. v.parts) in omega arith);
      each = λ x. (let a = h.each x in let b = g.each x in let s = sum (λ v. times x v.taken) in omega arith);
    }

pub still_parts : (first now all left : List Knowledge) → AreBack first now all left → HaveParts first → HaveParts now
still_parts first now all left h parts k below = let c = h.count in let m = h.more k (omega arith) in let p = parts k (omega arith) in omega arith

module _ {D : Type 0} where
  got_within : (xs : List D) (i : ℕ) (x : D) → slice_get xs i ≡ Some x → i < length xs
  got_within [] i x e = absurd cc
  got_within (y ∷ ys) zero x e = omega arith
  got_within (y ∷ ys) (suc i) x e = let l = got_within ys i x e in omega arith

  got_init : (xs : List D) (w : D) (j : ℕ) → j < length xs → slice_get (xs ++ w ∷ []) j ≡ slice_get xs j
  got_init [] w j below = absurd (omega arith)
  got_init (v ∷ vs) w zero below = refl
  got_init (v ∷ vs) w (suc j) below = got_init vs w j (omega arith)

  got_last : (xs : List D) (w : D) → slice_get (xs ++ w ∷ []) (length xs) ≡ Some w
  got_last [] w = refl
  got_last (v ∷ vs) w = got_last vs w

  around_last : (number m : ℕ) (deques row : List D) (w : D) → IsAround number m deques (row ++ w ∷ [])
      → slice_get deques (ring (length deques) number (length row + 1)) ≡ Some w
  around_last number m deques row w h =
      let c : length row + 1 ≡ m = (let c = h.count in omega (arith, length-append row (w ∷ []))) in
      sym (h.seats (length row) (omega arith)) ∙ got_last row w

  around_less : (number m : ℕ) (deques row : List D) (w : D) → IsAround number m deques (row ++ w ∷ []) → IsAround number (length row) deques row
  around_less number m deques row w h =
      let c : length row + 1 ≡ m = (let c = h.count in omega (arith, length-append row (w ∷ []))) in
      record { count = refl; seats = λ j l. sym (got_init row w j l) ∙ h.seats j (omega arith) }

parts_more : (v : Knowledge) (vs : List Knowledge) → 0 < v.parts → HaveParts vs → HaveParts (v ∷ vs)
parts_more v vs p h zero below = p
parts_more v vs p h (suc k) below = h k (omega arith)

parts_less : (views : List Knowledge) (w : Knowledge) → HaveParts (views ++ w ∷ []) → HaveParts views × (0 < w.parts)
parts_less [] w h = ((λ k below. absurd (omega arith)), h 0 (omega arith))
parts_less (v ∷ vs) w h =
    let rest = parts_less vs w (λ k below. h (suc k) (omega arith)) in
    (parts_more v vs (h 0 (omega arith)) rest.0, rest.1)

abbrev pub Place : Type 0 → Type 0 → Type 0
Place T P = Option (Worker T Global Knowledge P)

module _ {T P : Type 0} where
  -- where a row stands in which the passes of the seats after `left` are back
  pub record IsRowBack (number : ℕ) (first now : List (Place T P)) (row left : List Seat) : Type 0 where
    pub same : place_deques now ≡ place_deques first
    pub around : IsAround number (length left) (place_deques first) (seat_places left)
    pub few : length left < length first
    pub parts : HaveParts (seat_views left)
    pub back : AreBack (place_views first) (place_views now) (seat_views row) (seat_views left)

  pub row_first : (number : ℕ) (first : List (Place T P)) (row : List Seat) → number < length first
      → IsAround number (length first - 1) (place_deques first) (seat_places row) → HaveParts (seat_views row)
      → IsRowBack number first first row row
  row_first number first row own around parts =
      let c = around.count in let l = length-map row (λ (s : Seat). Some (stealer_deque s.thief)) in
      let n : length row ≡ length first - 1 = omega arith in
      record {
        same = refl;
        around = subst (λ (k : ℕ). IsAround number k (place_deques first) (seat_places row)) (sym n) around;
        few = omega arith;
        parts = parts;
        back = back_none (place_views first) (seat_views row);
      }

  same_count : (first now : List (Place T P)) → place_deques now ≡ place_deques first → length now ≡ length first
  same_count first now same = sym (length-map now place_deque) ∙ ap length same ∙ length-map first place_deque

  pub row_count : (number : ℕ) (first now : List (Place T P)) (row left : List Seat) → IsRowBack number first now row left → length now ≡ length first
  row_count number first now row left h = same_count first now h.same

  pub next_place : (number n d : ℕ) (first now : List (Place T P)) (row longer left : List Seat) (seat : Seat) → IsRowBack number first now row longer
      → longer ≡ left ++ seat ∷ [] → number < length first
      → n ≡ length left → d ≡ ring (length first) number (n + 1) → d < length now
  next_place number n d first now row longer left seat h is own at there =
      let l = ap length is in let few = h.few in let c = row_count number first now row longer h in
      let b : ring (length first) number (n + 1) < length first = ring_below (length first) number (n + 1) own
      (omega (arith, length-append left (seat ∷ []))) in omega arith

  -- the last seat that is left is at the place that the ring names
  pub seat_at_place : (number d : ℕ) (first now : List (Place T P)) (row longer left : List Seat) (seat : Seat) (r : Place T P)
      → IsRowBack number first now row longer → longer ≡ left ++ seat ∷ []
      → d ≡ ring (length now) number (length left + 1) → d < length now → place_deque (slice_index_or now d r) ≡ Some (stealer_deque seat.thief)
  seat_at_place number d first now row longer left seat r h is at below =
      let f : Seat → Option _ = λ (s : Seat). Some (stealer_deque s.thief) in
      let around : IsAround number (length longer) (place_deques first) (seat_places left ++ f seat ∷ []) =
      subst (IsAround number (length longer) (place_deques first)) (ap seat_places is ∙ map_push f left seat) h.around in
      let there = around_last number (length longer) (place_deques first) (seat_places left) (f seat) around in
      let n : length (place_deques first) ≡ length now = length-map first place_deque ∙ sym (same_count first now h.same) in
      let m : length (seat_places left) ≡ length left = length-map left f in
      let here : slice_get (place_deques now) d ≡ Some (f seat) = ap (λ l. slice_get l d) h.same
      ∙ ap (slice_get (place_deques first)) (at ∙ ap (λ (k : ℕ). ring k number (length left + 1)) (sym n)
      ∙ ap (λ (k : ℕ). ring (length (place_deques first)) number (k + 1)) (sym m)) ∙ there in
      let got : slice_get (place_deques now) d ≡ Some (place_deque (slice_index_or now d r)) = map_get place_deque now d r below in
      let e : Some (place_deque (slice_index_or now d r)) ≡ Some (f seat) = sym got ∙ here in cc

  pub seat_parts : (number : ℕ) (first now : List (Place T P)) (row longer left : List Seat) (seat : Seat) → IsRowBack number first now row longer
      → longer ≡ left ++ seat ∷ [] → 0 < (view seat.token).parts
  seat_parts number first now row longer left seat h is =
      (parts_less (seat_views left) (view seat.token) (subst HaveParts (ap seat_views is ∙ map_push (λ (s : Seat). view s.token) left seat) h.parts)).1

  pub place_parts : (number d : ℕ) (first now : List (Place T P)) (row left : List Seat) (r : Place T P) → IsRowBack number first now row left
      → HaveParts (place_views first) → d < length now
      → 0 < (place_view (slice_index_or now d r)).parts
  place_parts number d first now row left r h parts below =
      let l = length-map now place_view in
      subst (λ (v : Knowledge). 0 < v.parts) (get_or-map place_view now d r spent below)
      (still_parts (place_views first) (place_views now) (seat_views row) (seat_views left) h.back parts d (omega arith))

  pub row_more : (number d : ℕ) (first now : List (Place T P)) (row longer left : List Seat) (seat : Seat) (r new : Place T P)
      → IsRowBack number first now row longer → longer ≡ left ++ seat ∷ [] → d < length now
      → place_deque new ≡ place_deque (slice_index_or now d r) → place_view new ≡ both (place_view (slice_index_or now d r)) (view seat.token)
      → IsRowBack number first (set now d new) row left
  row_more number d first now row longer left seat r new h is below same joined =
      let f : Seat → Option _ = λ (s : Seat). Some (stealer_deque s.thief) in
      let around : IsAround number (length longer) (place_deques first) (seat_places left ++ f seat ∷ []) =
      subst (IsAround number (length longer) (place_deques first)) (ap seat_places is ∙ map_push f left seat) h.around in
      let m : length (seat_places left) ≡ length left = length-map left f in
      let l = length-map now place_view in
      let few = h.few in let n = ap length is in
      record {
        same = map-set_same place_deque now d new r same ∙ h.same;
        around = subst (λ (k : ℕ). IsAround number k (place_deques first) (seat_places left)) m
            (around_less number (length longer) (place_deques first) (seat_places left) (f seat) around);
        few = omega (arith, length-append left (seat ∷ []));
        parts = (parts_less (seat_views left) (view seat.token)
            (subst HaveParts (ap seat_views is ∙ map_push (λ (s : Seat). view s.token) left seat) h.parts)).0;
        back = subst (λ (vs : List Knowledge). AreBack (place_views first) vs (seat_views row) (seat_views left)) (sym (map-set place_view now d new))
            (back_more (place_views first) (place_views now) (seat_views row) (seat_views longer) (seat_views left) d (place_view new) (view seat.token) h.back
            (ap seat_views is ∙ map_push (λ (s : Seat). view s.token) left seat) (omega arith)
            (joined ∙ ap (λ (v : Knowledge). both v (view seat.token)) (sym (get_or-map place_view now d r spent below))));
      }

  pub row_last : (number : ℕ) (first now : List (Place T P)) (row left : List Seat) → IsRowBack number first now row left → left ≡ []
      → AreBack (place_views first) (place_views now) (seat_views row) []
  row_last number first now row left h is = subst (λ (l : List Seat). AreBack (place_views first) (place_views now) (seat_views row) (seat_views l)) is h.back

  -- where all rows stand, of which those in `left` are still out
  pub record AreRowsBack (first now : List (Place T P)) (rows left : List (Option (Vec Seat))) : Type 0 where
    pub same : place_deques now ≡ place_deques first
    pub few : length left ≤ length first
    pub each : (i : ℕ) (row : Option (Vec Seat)) → slice_get left i ≡ Some row → GoesRound i (place_deques first) row
    pub back : AreBack (place_views first) (place_views now) (rows_views rows) (rows_views left)

rows_views_snoc : (rows : List (Option (Vec Seat))) (row : Option (Vec Seat)) → rows_views (rows ++ row ∷ []) ≡ rows_views rows ++ row_views row
rows_views_snoc [] row = append-nil (row_views row)
rows_views_snoc (r ∷ rs) row = ap (λ (l : List Knowledge). row_views r ++ l) (rows_views_snoc rs row)
    ∙ sym (append_assoc (row_views r) (rows_views rs) (row_views row))

module _ {T P : Type 0} where
  pub learned_more : (first now : List (Place T P)) (i : ℕ) (r new : Place T P)
      → place_views now ≡ place_views first × ((k : ℕ) → k < i → Learned (view_at (place_views now) k)) → i < length now
      → place_view new ≡ place_view (slice_index_or now i r) → Learned (place_view (slice_index_or now i r))
      → (place_views (set now i new) ≡ place_views first) × ((k : ℕ) → k < i + 1 → Learned (view_at (place_views (set now i new)) k))
  learned_more first now i r new h below same learned =
      let e : place_views (set now i new) ≡ place_views now = map-set_same place_view now i new r same in (
        e ∙ h.0,
        λ k l. subst (λ (vs : List Knowledge). Learned (view_at vs k)) (sym e)
            (⊎_elim
            (λ (is : k ≡ i). subst (λ (j : ℕ). Learned (view_at (place_views now) j)) (sym is)
            (subst Learned (sym (get_or-map place_view now i r spent below)) learned))
            (λ (isnt : k ≢ i). h.1 k (omega arith))
            (cases_eq k i)),
      )

  row_at : (first now : List (Place T P)) (rows longer left : List (Option (Vec Seat))) (row : Option (Vec Seat)) → AreRowsBack first now rows longer
      → longer ≡ left ++ row ∷ [] → GoesRound (length left) (place_deques first) row
  row_at first now rows longer left row h is = h.each (length left) row
      (ap (λ (l : List (Option (Vec Seat))). slice_get l (length left)) is ∙ got_last left row)

  pub next_row : (number : ℕ) (first now : List (Place T P)) (rows longer left : List (Option (Vec Seat))) (row : Vec Seat)
      → AreRowsBack first now rows longer → longer ≡ left ++ Some row ∷ [] → number ≡ length left
      → IsAround number (length now - 1) (place_deques now) (seat_places row.items) × HaveParts (seat_views row.items)
  next_row number first now rows longer left row h is at =
      let g = row_at first now rows longer left (Some row) h is in
      let n : length (place_deques first) ≡ length now = length-map first place_deque ∙ sym (same_count first now h.same) in (
        subst (λ (k : ℕ). IsAround k (length now - 1) (place_deques now) (seat_places row.items)) (sym at)
            (subst (λ ds. IsAround (length left) (length now - 1) ds (seat_places row.items)) (sym h.same)
            (subst (λ (k : ℕ). IsAround (length left) (k - 1) (place_deques first) (seat_places row.items)) n g.0)),
        g.1,
      )

  pub rows_first : (first : List (Place T P)) (rows : List (Option (Vec Seat))) → length rows ≡ length first
      → ((i : ℕ) (row : Option (Vec Seat)) → slice_get rows i ≡ Some row → GoesRound i (place_deques first) row)
      → AreRowsBack first first rows rows
  rows_first first rows count each = record { same = refl; few = omega arith; each = each; back = back_none (place_views first) (rows_views rows) }

  less_rows : (first now new : List (Place T P)) (rows longer left : List (Option (Vec Seat))) (row : Option (Vec Seat))
      → AreRowsBack first now rows longer → longer ≡ left ++ row ∷ []
      → place_deques new ≡ place_deques now → AreBack (place_views first) (place_views new) (rows_views rows) (rows_views left)
      → AreRowsBack first new rows left
  less_rows first now new rows longer left row h is same back = record {
    same = same ∙ h.same;
    few = (let n = ap length is in let f = h.few in omega (arith, length-append left (row ∷ [])));
    each = λ i r e. h.each i r (ap (λ (l : List (Option (Vec Seat))). slice_get l i) is ∙ got_init left row i (got_within left i r e) ∙ e);
    back = back;
  }

  pub rows_less : (first now new : List (Place T P)) (rows longer left : List (Option (Vec Seat))) (row : Vec Seat)
      → AreRowsBack first now rows longer → longer ≡ left ++ Some row ∷ []
      → place_deques new ≡ place_deques now → AreBack (place_views now) (place_views new) (seat_views row.items) [] → AreRowsBack first new rows left
  rows_less first now new rows longer left row h is same back =
      less_rows first now new rows longer left (Some row) h is same
      (back_row (place_views first) (place_views now) (place_views new) (rows_views rows) (rows_views longer) (rows_views left)
      (seat_views row.items) h.back (ap rows_views is ∙ rows_views_snoc left (Some row)) back)

  pub rows_skip : (first now : List (Place T P)) (rows longer left : List (Option (Vec Seat))) (row : Option (Vec Seat))
      → AreRowsBack first now rows longer → longer ≡ left ++ row ∷ [] → row ≡ None → AreRowsBack first now rows left
  rows_skip first now rows longer left row h is none =
      less_rows first now now rows longer left row h is refl
      (subst (λ (l : List Knowledge). AreBack (place_views first) (place_views now) (rows_views rows) l)
      (ap rows_views is ∙ rows_views_snoc left row ∙ ap (λ (r : Option (Vec Seat)). rows_views left ++ row_views r) none ∙ append-nil (rows_views left)) h.back)

pub room_for : {A B : Type 0} (f : A → B) (xs : List B) (all left rest : List A) (x : A) → xs ++ map f left ≡ map f all → left ≡ x ∷ rest
    → length xs < length all
room_for f xs all left rest x h is =
    let l = length-map all f in let m = length-map left f in let e = ap length h in let n : length left ≡ length (x ∷ rest) = ap length is in
    omega (arith, length-append xs (map f left))
