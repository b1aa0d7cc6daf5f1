-- The shifts of a new pool.
use Rattle.std.proofs.Common.{◌≡◌, ℕ, zero, suc, ◌+◌, ◌-◌, ◌<◌, ◌≤◌, true, Some, List, [], ◌∷◌, ◌++◌, map, length, slice_index_or, sym, refl, ap, ◌∙◌, subst, ⊎_elim, append_assoc, arith, length-append, append-nil}
use Rattle.std.specs.Global.{Global, Vec}
use Rattle.atomic_blocks.specs.Lent.{RowsId}
use Rattle.std.specs.List.{slice_get}
use Rattle.std.proofs.lemmas.Bool.Decides.{nat_tests}
use Rattle.std.proofs.lemmas.List.{length-map, map_push}
use Rattle.std.proofs.lemmas.Option.{slice_get_within, slice_get-get_or}
use Rattle.crossbeam_deque.specs.declared.handles.Worker.{Worker}
use Rattle.crossbeam_deque.specs.Handles.{view, worker_view, worker_deque, worker_flavor}
use Rattle.steal_deque.specs.declared.deque.Knowledge.{Knowledge}
use Rattle.steal_deque.specs.declared.deque.Task.{Task}
use Rattle.steal_deque.specs.declared.deque.DequeRule.{DequeRule}
use Rattle.steal_pool.specs.declared.seat.Seat.{Seat}
use Rattle.steal_pool.specs.declared.shift.Shift.{Shift}
use Rattle.steal_deque.specs.Deque.{times, share}
use Rattle.steal_pool.specs.Ring.{ring, view_at, takings, IsShift}
use Rattle.steal_pool.specs.SeatViews.{seat_views}
use Rattle.steal_pool.specs.Shift.{visited}
use Rattle.steal_pool.specs.Rows.{owner_views, owner_deques, owner_flavors, seat_deques, IsAround, AreOwners, served, AreFifo, IsNewRow, AreRows}
use Rattle.steal_pool.specs.Pool.{pool_deques, pool_parents, IsPoolOf, IsPool, AreNew}
use Rattle.steal_pool.proofs.Filled.{get_snoc}

abbrev pub Own : Type 0
Own = Worker Task Global Knowledge DequeRule

get_middle : {A : Type 0} (xs rest : List A) (x : A) → slice_get (xs ++ x ∷ rest) (length xs) ≡ Some x
get_middle [] rest x = refl
get_middle (y ∷ ys) rest x = get_middle ys rest x

get_map : {A B : Type 0} (f : A → B) (xs : List A) (i : ℕ) (x : A) → slice_get xs i ≡ Some x → slice_get (map f xs) i ≡ Some (f x)
get_map f [] i x e = absurd cc
get_map f (y ∷ ys) zero x e = let is : y ≡ x = cc in ap (λ z. Some (f z)) is
get_map f (y ∷ ys) (suc i) x e = get_map f ys i x e

view_of : (owners : List Own) (i : ℕ) (own : Own) → slice_get owners i ≡ Some own → view_at (owner_views owners) i ≡ worker_view own
view_of [] i own e = absurd cc
view_of (o ∷ os) zero own e = let is : o ≡ own = cc in ap (λ (o : Own). worker_view o) is
view_of (o ∷ os) (suc i) own e = view_of os i own e

none_left : {A : Type 0} (xs rest all : List A) → xs ++ rest ≡ all → length all ≡ length xs → rest ≡ []
none_left xs [] all e l = refl
none_left xs (y ∷ ys) all e l = let m = ap length e in absurd {A = y ∷ ys ≡ []} (omega (arith, length-append xs (y ∷ ys)))

served_all : (deques k : ℕ) → k < deques → served deques k + 1 ≡ deques
served_all deques k b = grind (arith, nat_tests)

pub ring_zero : (deques number : ℕ) → number < deques → ring deques number 0 ≡ number
ring_zero deques number b = grind (arith, nat_tests)

takings_new : (views : List Knowledge) (n : ℕ) → length views ≡ n → ((j : ℕ) → j < n → (view_at views j).taken ≡ []) → takings views ≡ []
takings_new [] n c none = refl
takings_new (v ∷ vs) zero c none = absurd {A = takings (v ∷ vs) ≡ []} (omega arith)
takings_new (v ∷ vs) (suc n) c none = ap (λ (l : List ℕ). l ++ takings vs) (none 0 (omega arith))
    ∙ takings_new vs n (omega arith) (λ j l. none (suc j) (omega arith))

module _ (deques parents : ℕ) (of : List (RowsId × Global)) where
  pub record IsPart (n : ℕ) (own : Own) (others : Vec Seat) : Type 0 where
    pub parts : (worker_view own).parts + deques ≡ 65
    pub all : (worker_view own).pushed ≡ share deques n parents
    pub none : (worker_view own).taken ≡ []
    pub fifo : worker_flavor own ≡ 0
    pub seats : IsNewRow deques parents n of others.items
    pub below : n < deques

  pub record ShiftsSoFar (n : ℕ) (owners : List Own) (rows : List (Vec Seat)) (owners_left : List Own) (rows_left : List (Vec Seat))
      (shifts : List Shift) : Type 0 where
    pub count : length shifts ≡ n
    pub given : AreOwners deques parents (served deques) (owner_views owners)
    pub fifo : AreFifo (owner_flavors owners)
    pub made : AreRows deques parents deques of rows
    pub own : map (λ s. s.own) shifts ++ owners_left ≡ owners
    pub others : map (λ s. s.others) shifts ++ rows_left ≡ rows
    pub each : (i : ℕ) (s : Shift) → slice_get shifts i ≡ Some s → (s.number ≡ i) × (s.parents ≡ parents) × (s.deques ≡ deques) × (s.done ≡ 0)

  part_at : (n : ℕ) (owners : List Own) (rows : List (Vec Seat)) (own : Own) (others : Vec Seat)
      → AreOwners deques parents (served deques) (owner_views owners) → AreFifo (owner_flavors owners) → AreRows deques parents deques of rows
      → slice_get owners n ≡ Some own → slice_get rows n ≡ Some others → IsPart n own others
  part_at n owners rows own others a f r at at' =
      let b : n < length owners = slice_get_within owners n own at in
      let b' : n < deques = (let l = length-map owners (λ (o : Own). worker_view o) in let c = a.count in omega arith) in
      let v : view_at (owner_views owners) n ≡ worker_view own = view_of owners n own at in
      let p = a.parts n b' in let s = served_all deques n b' in
      let q : (view_at (owner_views owners) n).parts ≡ (worker_view own).parts = ap (λ (v : Knowledge). v.parts) v in
      record {
        parts = omega arith;
        all = ap (λ (v : Knowledge). v.pushed) (sym v) ∙ a.all n b';
        none = ap (λ (v : Knowledge). v.taken) (sym v) ∙ a.none n b';
        fifo = f n (worker_flavor own) (get_map (λ (o : Own). worker_flavor o) owners n own at);
        seats = r.each n others at';
        below = b';
      }

  pub part_next : (n : ℕ) (owners owners_left owners_rest : List Own) (rows rows_left rows_rest : List (Vec Seat)) (shifts : List Shift) (own : Own)
      (others : Vec Seat) → ShiftsSoFar n owners rows owners_left rows_left shifts
      → owners_left ≡ own ∷ owners_rest → rows_left ≡ others ∷ rows_rest → IsPart n own others
  part_next n owners owners_left owners_rest rows rows_left rows_rest shifts own others h eo er =
      let c = h.count in
      part_at n owners rows own others h.given h.fifo h.made
      (ap (λ (l : List Own). slice_get l n) (sym h.own ∙ ap (λ (l : List Own). map (λ (s : Shift). s.own) shifts ++ l) eo)
      ∙ subst (λ (k : ℕ). slice_get (map (λ (s : Shift). s.own) shifts ++ own ∷ owners_rest) k ≡ Some own)
      (length-map shifts (λ (s : Shift). s.own) ∙ c) (get_middle (map (λ (s : Shift). s.own) shifts) owners_rest own))
      (ap (λ (l : List (Vec Seat)). slice_get l n) (sym h.others ∙ ap (λ (l : List (Vec Seat)). map (λ (s : Shift). s.others) shifts ++ l) er)
      ∙ subst (λ (k : ℕ). slice_get (map (λ (s : Shift). s.others) shifts ++ others ∷ rows_rest) k ≡ Some others)
      (length-map shifts (λ (s : Shift). s.others) ∙ c) (get_middle (map (λ (s : Shift). s.others) shifts) rows_rest others))

  part_parts : (n : ℕ) (own : Own) (others : Vec Seat) → deques ≤ 64 → IsPart n own others → (j : ℕ) → j < deques
      → 0 < (view_at (worker_view own ∷ seat_views others.items) j).parts
  part_parts n own others few h zero l = let p = h.parts in omega arith
  part_parts n own others few h (suc j) l = let p = h.seats.parts j (omega arith) in omega arith

  part_all : (n : ℕ) (own : Own) (others : Vec Seat) → IsPart n own others → (j : ℕ) → j < deques
      → (view_at (worker_view own ∷ seat_views others.items) j).pushed ≡ share deques (ring deques n j) parents
  part_all n own others h zero l = h.all ∙ ap (λ (k : ℕ). share deques k parents) (sym (ring_zero deques n h.below))
  part_all n own others h (suc j) l = let e : j + 1 ≡ suc j = omega arith in
      h.seats.all j (omega arith) ∙ ap (λ (k : ℕ). share deques (ring deques n k) parents) e

  part_none : (n : ℕ) (own : Own) (others : Vec Seat) → IsPart n own others → (j : ℕ) → j < deques
      → (view_at (worker_view own ∷ seat_views others.items) j).taken ≡ []
  part_none n own others h zero l = h.none
  part_none n own others h (suc j) l = h.seats.none j (omega arith)

  part_count : (n : ℕ) (own : Own) (others : Vec Seat) → IsPart n own others → length (worker_view own ∷ seat_views others.items) ≡ deques
  part_count n own others h = let c = h.seats.count in let b = h.below in let l = length-map others.items (λ (s : Seat). view s.token) in omega arith

  pub part_shift : (n : ℕ) (own : Own) (others : Vec Seat) → deques ≤ 64 → IsPart n own others
      → IsShift deques n parents 0 (worker_view own ∷ seat_views others.items)
  part_shift n own others few h = record {
    count = part_count n own others h;
    own = h.below;
    within = omega arith;
    part = part_parts n own others few h;
    all = part_all n own others h;
    ended = λ j l. absurd {A = (view_at (worker_view own ∷ seat_views others.items) j).ended ≡ true} (omega arith);
    later = λ j _ l. part_none n own others h j l;
    proper = λ j x l. (let z : times x (view_at (worker_view own ∷ seat_views others.items) j).taken ≡ 0 = ap (times x)
        (part_none n own others h j l) in omega arith);
  }

  pub shifts_none : (owners : List Own) (rows : List (Vec Seat)) (owners_left : List Own) (rows_left : List (Vec Seat)) (shifts : List Shift)
      → AreOwners deques parents (served deques) (owner_views owners) → AreFifo (owner_flavors owners)
      → AreRows deques parents deques of rows → owners_left ≡ owners → rows_left ≡ rows → shifts ≡ [] → ShiftsSoFar 0 owners rows owners_left rows_left shifts
  shifts_none owners rows owners_left rows_left shifts a f r eo er es = subst (ShiftsSoFar 0 owners rows owners_left rows_left) (sym es)
      (record {
        count = refl;
        given = a;
        fifo = f;
        made = r;
        own = eo;
        others = er;
        each =
            λ i s e. absurd {A = (s.number ≡ i) × (s.parents ≡ parents) × (s.deques ≡ deques) × (s.done ≡ 0)} cc;
      })

  pub shifts_more : (n : ℕ) (owners owners_left owners_rest : List Own) (rows rows_left rows_rest : List (Vec Seat)) (shifts longer : List Shift)
      (s : Shift) → ShiftsSoFar n owners rows owners_left rows_left shifts
      → owners_left ≡ s.own ∷ owners_rest → rows_left ≡ s.others ∷ rows_rest
      → (s.number ≡ n) × (s.parents ≡ parents) × (s.deques ≡ deques) × (s.done ≡ 0) → longer ≡ shifts ++ s ∷ []
      → ShiftsSoFar (n + 1) owners rows owners_rest rows_rest longer
  shifts_more n owners owners_left owners_rest rows rows_left rows_rest shifts longer s h eo er new is = subst
      (ShiftsSoFar (n + 1) owners rows owners_rest rows_rest) (sym is) (record {
        count = (let c = h.count in omega (arith, length-append shifts (s ∷ [])));
        given = h.given;
        fifo = h.fifo;
        made = h.made;
        own = ap (λ (l : List Own). l ++ owners_rest) (map_push (λ (s : Shift). s.own) shifts s)
            ∙ append_assoc (map (λ (s : Shift). s.own) shifts) (s.own ∷ []) owners_rest
            ∙ ap (λ (l : List Own). map (λ (s : Shift). s.own) shifts ++ l) (sym eo) ∙ h.own;
        others = ap (λ (l : List (Vec Seat)). l ++ rows_rest) (map_push (λ (s : Shift). s.others) shifts s)
            ∙ append_assoc (map (λ (s : Shift). s.others) shifts) (s.others ∷ []) rows_rest
            ∙ ap (λ (l : List (Vec Seat)). map (λ (s : Shift). s.others) shifts ++ l) (sym er) ∙ h.others;
        each = λ i t e. ⊎_elim (λ (o : slice_get shifts i ≡ Some t). h.each i t o)
            (λ (o : (i ≡ length shifts) × (s ≡ t)). subst (λ (k : ℕ). (t.number ≡ k) × (t.parents ≡ parents) × (t.deques ≡ deques) × (t.done ≡ 0))
            (sym (o.0 ∙ h.count))
            (subst (λ (t : Shift). (t.number ≡ n) × (t.parents ≡ parents) × (t.deques ≡ deques) × (t.done ≡ 0)) o.1 new))
            (get_snoc shifts s t i e);
      })

  own_of : (owners owners_left : List Own) (rows rows_left : List (Vec Seat)) (shifts : List Shift) (n : ℕ)
      → ShiftsSoFar n owners rows owners_left rows_left shifts → n ≡ deques → map (λ s. s.own) shifts ≡ owners
  own_of owners owners_left rows rows_left shifts n h is =
      let l = length-map shifts (λ (s : Shift). s.own) in let m = length-map owners (λ (o : Own). worker_view o) in let c = h.count in let d = h.given.count in
      sym (append-nil (map (λ (s : Shift). s.own) shifts))
      ∙ ap (λ (r : List Own). map (λ (s : Shift). s.own) shifts ++ r)
      (sym (none_left (map (λ (s : Shift). s.own) shifts) owners_left owners h.own (omega arith))) ∙ h.own

  others_are : (owners owners_left : List Own) (rows rows_left : List (Vec Seat)) (shifts : List Shift) (n : ℕ)
      → ShiftsSoFar n owners rows owners_left rows_left shifts → n ≡ deques → map (λ s. s.others) shifts ≡ rows
  others_are owners owners_left rows rows_left shifts n h is =
      let l = length-map shifts (λ (s : Shift). s.others) in let c = h.count in let d = h.made.count in
      sym (append-nil (map (λ (s : Shift). s.others) shifts))
      ∙ ap (λ (r : List (Vec Seat)). map (λ (s : Shift). s.others) shifts ++ r)
      (sym (none_left (map (λ (s : Shift). s.others) shifts) rows_left rows h.others (omega arith))) ∙ h.others

  deques_are : (shifts : List Shift) → pool_deques shifts ≡ owner_deques (map (λ s. s.own) shifts)
  deques_are [] = refl
  deques_are (s ∷ ss) = ap (λ (l : List (RowsId × Global)). worker_deque s.own ∷ l) (deques_are ss)

  part_of : (owners owners_left : List Own) (rows rows_left : List (Vec Seat)) (shifts : List Shift) (n : ℕ)
      → ShiftsSoFar n owners rows owners_left rows_left shifts → n ≡ deques → (i : ℕ) (s : Shift) → slice_get shifts i ≡ Some s → IsPart i s.own s.others
  part_of owners owners_left rows rows_left shifts n h is i s e = part_at i owners rows s.own s.others h.given h.fifo h.made
      (ap (λ (l : List Own). slice_get l i) (sym (own_of owners owners_left rows rows_left shifts n h is)) ∙ get_map (λ (s : Shift). s.own) shifts i s e)
      (ap (λ (l : List (Vec Seat)). slice_get l i) (sym (others_are owners owners_left rows rows_left shifts n h is))
      ∙ get_map (λ (s : Shift). s.others) shifts i s e)

  pub shifts_pool : 0 < deques → deques ≤ 64 → (owners owners_left : List Own) (rows rows_left : List (Vec Seat)) (shifts : List Shift) (n : ℕ)
      → ShiftsSoFar n owners rows owners_left rows_left shifts → n ≡ deques → owner_deques owners ≡ of → IsPoolOf deques parents shifts
  shifts_pool some few owners owners_left rows rows_left shifts n h is same = record {
    some = some;
    few = few;
    count = h.count ∙ is;
    each = λ i s e. (let p = part_of owners owners_left rows rows_left shifts n h is i s e in let f = h.each i s e in
        record { number = f.0; parents_of = f.1; deques_of = f.2; own_parts = p.parts; seat_parts = λ j l. p.seats.parts j l });
    around = λ i s e. subst (λ (ds : List (RowsId × Global)). IsAround i (deques - 1) ds (seat_deques s.others.items))
        (sym (deques_are shifts ∙ ap (λ (os : List Own). owner_deques os) (own_of owners owners_left rows rows_left shifts n h is) ∙ same))
        (part_of owners owners_left rows rows_left shifts n h is i s e).seats.around;
  }

  pub shifts_new : (owners owners_left : List Own) (rows rows_left : List (Vec Seat)) (shifts : List Shift) (n : ℕ)
      → ShiftsSoFar n owners rows owners_left rows_left shifts → n ≡ deques → AreNew deques parents shifts
  shifts_new owners owners_left rows rows_left shifts n h is i d l =
      let s : Shift = slice_index_or shifts i d in
      let e : slice_get shifts i ≡ Some s = slice_get-get_or shifts i d l in
      let p = part_of owners owners_left rows rows_left shifts n h is i s e in let f = h.each i s e in record {
        number = f.0;
        parents_of = f.1;
        deques_of = f.2;
        none_taken = takings_new (worker_view s.own ∷ seat_views s.others.items) deques (part_count i s.own s.others p) (part_none i s.own s.others p);
        none_empty = ap (visited s.deques s.number) f.3;
      }

  parents_of_pool : (shifts : List Shift) → 0 < length shifts → ((i : ℕ) (s : Shift) → slice_get shifts i ≡ Some s → s.parents ≡ parents)
      → pool_parents shifts ≡ parents
  parents_of_pool [] some e = absurd (omega arith)
  parents_of_pool (s ∷ ss) some e = e 0 s refl

  pub shifts_parents : (owners owners_left : List Own) (rows rows_left : List (Vec Seat)) (shifts : List Shift) (n : ℕ)
      → ShiftsSoFar n owners rows owners_left rows_left shifts → 0 < n → pool_parents shifts ≡ parents
  shifts_parents owners owners_left rows rows_left shifts n h some = let c = h.count in parents_of_pool shifts (omega arith) (λ i s e. (h.each i s e).1)

pub shifts_begin : (deques parents : ℕ) (first owners : List Own) (rows : List (Vec Seat)) (owners_left : List Own) (rows_left : List (Vec Seat))
    (shifts : List Shift) → AreOwners deques parents (served deques) (owner_views owners) → AreFifo (owner_flavors first)
    → AreRows deques parents deques (owner_deques first) rows → owner_deques owners ≡ owner_deques first → owner_flavors owners ≡ owner_flavors first
    → owners_left ≡ owners → rows_left ≡ rows → shifts ≡ []
    → ShiftsSoFar deques parents (owner_deques owners_left) 0 owners_left rows_left owners_left rows_left shifts
shifts_begin deques parents first owners rows owners_left rows_left shifts a f r ed ef eo er es =
    subst (λ (os : List Own). ShiftsSoFar deques parents (owner_deques os) 0 os rows_left os rows_left shifts) (sym eo)
    (subst (λ (rs : List (Vec Seat)). ShiftsSoFar deques parents (owner_deques owners) 0 owners rs owners rs shifts) (sym er)
    (shifts_none deques parents (owner_deques owners) owners rows owners rows shifts a (subst AreFifo (sym ef) f)
    (subst (λ (ds : List (RowsId × Global)). AreRows deques parents deques ds rows) (sym ed) r) refl refl es))

pub are_pool : (deques parents : ℕ) (shifts : List Shift) → IsPoolOf deques parents shifts → pool_parents shifts ≡ parents → IsPool shifts
are_pool deques parents shifts h is = subst (λ (n : ℕ). IsPoolOf n (pool_parents shifts) shifts) (sym h.count)
    (subst (λ (p : ℕ). IsPoolOf deques p shifts) (sym is) h)
