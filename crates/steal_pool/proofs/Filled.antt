-- Filling: the deques, the seats, and the shifts.
use Rattle.std.proofs.Common.{◌≡◌, ℕ, zero, suc, ◌+◌, ◌-◌, ◌<◌, ◌≤◌, ◌⊎◌, Some, List, [], ◌∷◌, ◌++◌, length, sym, refl, ap, ◌∙◌, subst, ⊎_elim, arith, inl, inr, length-append}
use Rattle.std.specs.Global.{Global, Vec}
use Rattle.std.specs.List.{slice_get}
use Rattle.std.proofs.lemmas.Bool.Decides.{nat_tests}
use Rattle.std.proofs.lemmas.List.{length-map, map_push}
use Rattle.crossbeam_deque.specs.declared.handles.Worker.{Worker}
use Rattle.crossbeam_deque.specs.Handles.{view, worker_view, worker_flavor}
use Rattle.steal_deque.specs.declared.deque.Knowledge.{Knowledge}
use Rattle.steal_pool.specs.declared.seat.Seat.{Seat}
use Rattle.steal_deque.specs.Deque.{share, IsFilled}
use Rattle.steal_pool.specs.Ring.{ring, view_at}
use Rattle.steal_pool.specs.SeatViews.{seat_views}
use Rattle.steal_pool.specs.Rows.{owner_views, owner_deques, owner_flavors, seat_deques, AreCut, others_of, IsRow, IsAround, AreOwners, served, AreFifo, IsNewRow, AreRows}
use Rattle.steal_pool.proofs.Rows.{each_more}

pub get_snoc : {A : Type 0} (xs : List A) (w x : A) (i : ℕ) → slice_get (xs ++ w ∷ []) i ≡ Some x → (slice_get xs i ≡ Some x) ⊎ ((i ≡ length xs) × (w ≡ x))
get_snoc [] w x zero e = inr (refl, cc)
get_snoc [] w x (suc i) e = absurd cc
get_snoc (v ∷ vs) w x zero e = inl e
get_snoc (v ∷ vs) w x (suc i) e = ⊎_elim (λ t. inl t) (λ t. inr (ap suc t.0, t.1)) (get_snoc vs w x i e)

served_zero : (k : ℕ) → served 0 k ≡ 0
served_zero k = grind (arith, nat_tests)

served_more : (number k : ℕ) → served (number + 1) k ≡ served number k + others_of number k
served_more number k = grind (arith, nat_tests)

served_few : (number k n : ℕ) → (k ≡ number → ⊥) → k < n → number < n → n ≤ 64 → served number k < 63
served_few number k n isnt a b c = grind (arith, nat_tests)

pub ring_below : (deques number j : ℕ) → number < deques → j < deques → ring deques number j < deques
ring_below deques number j a b = grind (arith, nat_tests)

module _ {T P : Type 0} where
  pub record OwnersSoFar (deques parents n : ℕ) (owners : List (Worker T Global Knowledge P)) : Type 0 where
    pub count : length (owner_views owners) ≡ n
    pub parts : (k : ℕ) → k < n → (view_at (owner_views owners) k).parts ≡ 64
    pub all : (k : ℕ) → k < n → (view_at (owner_views owners) k).pushed ≡ share deques k parents
    pub none : (k : ℕ) → k < n → (view_at (owner_views owners) k).taken ≡ []
    pub fifo : AreFifo (owner_flavors owners)

  pub owners_none : (deques parents : ℕ) (owners : List (Worker T Global Knowledge P)) → owners ≡ [] → OwnersSoFar deques parents 0 owners
  owners_none deques parents owners is = subst (OwnersSoFar deques parents 0) (sym is) (record {
    count = refl;
    parts = λ k l. absurd (omega arith);
    all = λ k l. absurd {A = (view_at [] k).pushed ≡ share deques k parents} (omega arith);
    none = λ k l. absurd {A = (view_at [] k).taken ≡ []} (omega arith);
    fifo = λ k f e. absurd {A = f ≡ 0} cc;
  })

  pub owners_more : (deques parents n : ℕ) (owners longer : List (Worker T Global Knowledge P)) (own : Worker T Global Knowledge P)
      → OwnersSoFar deques parents n owners → IsFilled (worker_flavor own) (worker_view own) (share deques n parents)
      → longer ≡ owners ++ own ∷ [] → OwnersSoFar deques parents (n + 1) longer
  owners_more deques parents n owners longer own h new is =
      let views : owner_views longer ≡ owner_views owners ++ worker_view own ∷ [] = ap (λ (l : List (Worker T Global Knowledge P)). owner_views l) is
      ∙ map_push (λ (o : Worker T Global Knowledge P). worker_view o) owners own in
      let flavors : owner_flavors longer ≡ owner_flavors owners ++ worker_flavor own ∷ [] = ap
      (λ (l : List (Worker T Global Knowledge P)). owner_flavors l) is ∙ map_push (λ (o : Worker T Global Knowledge P). worker_flavor o) owners own in
      let c = h.count in
      record {
        count = ap length views ∙ omega (arith, length-append (owner_views owners) (worker_view own ∷ []));
        parts = λ k l. ap (λ (vs : List Knowledge). (view_at vs k).parts) views
            ∙ each_more (λ _ v. v.parts ≡ 64) n (owner_views owners) (worker_view own) c h.parts new.parts k l;
        all = λ k l. ap (λ (vs : List Knowledge). (view_at vs k).pushed) views
            ∙ each_more (λ k v. v.pushed ≡ share deques k parents) n (owner_views owners) (worker_view own) c h.all new.all k l;
        none = λ k l. ap (λ (vs : List Knowledge). (view_at vs k).taken) views
            ∙ each_more (λ _ v. v.taken ≡ []) n (owner_views owners) (worker_view own) c h.none new.none k l;
        fifo = λ k f e. ⊎_elim (λ t. h.fifo k f t) (λ t. sym t.1 ∙ new.fifo)
            (get_snoc (owner_flavors owners) (worker_flavor own) f k (ap (λ (fs : List ℕ). slice_get fs k) (sym flavors) ∙ e));
      }

  pub owners_all : (deques parents n : ℕ) (owners : List (Worker T Global Knowledge P)) → OwnersSoFar deques parents n owners → n ≡ deques
      → AreOwners deques parents (served 0) (owner_views owners)
  owners_all deques parents n owners h is = record {
    count = h.count ∙ is;
    parts = λ k l. (let z = served_zero k in let p = h.parts k (omega arith) in omega arith);
    all = λ k l. h.all k (omega arith);
    none = λ k l. h.none k (omega arith);
  }

  pub record RowsSoFar (deques parents n : ℕ) (first now : List (Worker T Global Knowledge P)) (rows : List (Vec Seat)) : Type 0 where
    pub same : owner_deques now ≡ owner_deques first
    pub flavors : owner_flavors now ≡ owner_flavors first
    pub owners : AreOwners deques parents (served n) (owner_views now)
    pub made : AreRows deques parents n (owner_deques first) rows

  pub rows_none : (deques parents : ℕ) (first : List (Worker T Global Knowledge P)) (rows : List (Vec Seat))
      → AreOwners deques parents (served 0) (owner_views first) → rows ≡ [] → RowsSoFar deques parents 0 first first rows
  rows_none deques parents first rows h is = record {
    same = refl;
    flavors = refl;
    owners = h;
    made = subst (AreRows deques parents 0 (owner_deques first)) (sym is)
        (record { count = refl; each = λ i row e. absurd {A = IsNewRow deques parents i (owner_deques first) row.items} cc });
  }

  pub rows_few : (deques parents n : ℕ) (first now : List (Worker T Global Knowledge P)) (rows : List (Vec Seat))
      → RowsSoFar deques parents n first now rows → n < deques → deques ≤ 64 → (k : ℕ) → k < deques → (k ≡ n → ⊥) → 1 < (view_at (owner_views now) k).parts
  rows_few deques parents n first now rows h a b k l isnt = let p = h.owners.parts k l in let f = served_few n k deques isnt l a b in omega arith

  pub rows_length : (deques parents n : ℕ) (first now : List (Worker T Global Knowledge P)) (rows : List (Vec Seat))
      → RowsSoFar deques parents n first now rows → length now ≡ deques
  rows_length deques parents n first now rows h = sym (length-map now (λ (o : Worker T Global Knowledge P). worker_view o)) ∙ h.owners.count

  pub rows_more : (deques parents n : ℕ) (first now new : List (Worker T Global Knowledge P)) (rows longer : List (Vec Seat)) (row : Vec Seat)
      → RowsSoFar deques parents n first now rows → n < deques
      → owner_deques new ≡ owner_deques now → owner_flavors new ≡ owner_flavors now → AreCut (others_of n) (owner_views now) (owner_views new)
      → IsRow n (length now - 1) (owner_views now) (seat_views row.items)
      → IsAround n (length now - 1) (owner_deques now) (seat_deques row.items) → longer ≡ rows ++ row ∷ [] → RowsSoFar deques parents (n + 1) first new longer
  rows_more deques parents n first now new rows longer row h below same flavors cut seats around is =
      let l : length now ≡ deques = rows_length deques parents n first now rows h in
      let c : length (owner_views now) ≡ deques = h.owners.count in
      let rc = h.made.count in
      let mine : IsNewRow deques parents n (owner_deques first) row.items = record {
        count = sym (length-map row.items (λ (s : Seat). view s.token)) ∙ seats.count ∙ ap (λ (k : ℕ). k - 1) l;
        parts = λ j b. seats.parts j (omega arith);
        all = λ j b. seats.all j (omega arith) ∙ ap (λ (k : ℕ). (view_at (owner_views now) (ring k n (j + 1))).pushed) c
            ∙ h.owners.all (ring deques n (j + 1)) (ring_below deques n (j + 1) below (omega arith));
        none = λ j b. seats.none j (omega arith);
        around = subst (λ (k : ℕ). IsAround n (k - 1) (owner_deques first) (seat_deques row.items)) l
            (subst (λ (ds : List _). IsAround n (length now - 1) ds (seat_deques row.items)) h.same around);
      } in
      record {
        same = same ∙ h.same;
        flavors = flavors ∙ h.flavors;
        owners = record {
          count = cut.count ∙ c;
          parts = λ k b. (let p = h.owners.parts k b in let q = cut.parts k (omega arith) in let s = served_more n k in omega arith);
          all = λ k b. cut.all k (omega arith) ∙ h.owners.all k b;
          none = λ k b. cut.none k (omega arith) ∙ h.owners.none k b;
        };
        made = subst (AreRows deques parents (n + 1) (owner_deques first)) (sym is) (record {
          count = omega (arith, length-append rows (row ∷ []));
          each = λ i r e. ⊎_elim
              (λ (t : slice_get rows i ≡ Some r). h.made.each i r t)
              (λ (t : (i ≡ length rows) × (row ≡ r)). subst (λ (k : ℕ). IsNewRow deques parents k (owner_deques first) r.items) (sym (t.0 ∙ rc))
              (subst (λ (v : Vec Seat). IsNewRow deques parents n (owner_deques first) v.items) t.1 mine))
              (get_snoc rows row r i e);
        });
      }
