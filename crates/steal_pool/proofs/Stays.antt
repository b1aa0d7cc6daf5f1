-- Shifts that have taken more are still all shifts of one pool.
use Rattle.std.proofs.Common.{◌≡◌, ℕ, zero, suc, ◌-◌, ◌<◌, Some, List, [], ◌∷◌, map, length, slice_index_or, sym, refl, ap, ◌∙◌, subst, arith}
use Rattle.std.specs.Global.{Global}
use Rattle.std.specs.List.{slice_get}
use Rattle.atomic_blocks.specs.Lent.{RowsId}
use Rattle.crossbeam_deque.specs.Handles.{worker_deque}
use Rattle.steal_pool.specs.declared.shift.Shift.{Shift}
use Rattle.steal_pool.specs.Rows.{seat_deques, IsAround}
use Rattle.steal_pool.specs.Shift.{StaysInPool}
use Rattle.steal_pool.specs.Pool.{pool_deques, pool_parents, IsPoolOf, IsPool, AllStay}

module _ {A : Type 0} where
  pub got_is : (xs : List A) (i : ℕ) (x d : A) → slice_get xs i ≡ Some x → (i < length xs) × (slice_index_or xs i d ≡ x)
  got_is [] i x d e = absurd cc
  got_is (y ∷ ys) zero x d e = (omega arith, cc)
  got_is (y ∷ ys) (suc i) x d e = let h = got_is ys i x d e in let l = h.0 in (omega arith, h.1)

  some_at : (xs ys : List A) (i : ℕ) (y : A) → length ys ≡ length xs → slice_get ys i ≡ Some y → (x : A) × (slice_get xs i ≡ Some x)
  some_at xs [] i y l e = absurd cc
  some_at [] (y ∷ ys) i z l e = absurd (omega arith)
  some_at (x ∷ xs) (y ∷ ys) zero z l e = (x, refl)
  some_at (x ∷ xs) (y ∷ ys) (suc i) z l e = some_at xs ys i z (omega arith) e

  map_stays : {B : Type 0} (f : A → B) (xs ys : List A) → length ys ≡ length xs
      → ((i : ℕ) (x y : A) → slice_get xs i ≡ Some x → slice_get ys i ≡ Some y → f y ≡ f x) → map f ys ≡ map f xs
  map_stays f [] [] l e = refl
  map_stays f (x ∷ xs) [] l e = absurd (omega arith)
  map_stays f [] (y ∷ ys) l e = absurd (omega arith)
  map_stays f (x ∷ xs) (y ∷ ys) l e =
      let h : f y ≡ f x = e 0 x y refl refl in let t : map f ys ≡ map f xs = map_stays f xs ys (omega arith) (λ i u v a b. e (suc i) u v a b) in
      ap (λ z. z ∷ map f ys) h ∙ ap (λ zs. f x ∷ zs) t

same_parents : (old new : List Shift) → length new ≡ length old
    → ((i : ℕ) (s t : Shift) → slice_get old i ≡ Some s → slice_get new i ≡ Some t → StaysInPool s t) → pool_parents new ≡ pool_parents old
same_parents [] [] l e = refl
same_parents [] (t ∷ ts) l e = absurd (omega arith)
same_parents (s ∷ ss) [] l e = absurd (omega arith)
same_parents (s ∷ ss) (t ∷ ts) l e = (e 0 s t refl refl).parents

stay_at : (old new : List Shift) → AllStay old new → (i : ℕ) (s t : Shift) → slice_get old i ≡ Some s → slice_get new i ≡ Some t → StaysInPool s t
stay_at old new h i s t a b =
    let o = got_is old i s s a in let n = got_is new i t s b in
    subst (λ (u : Shift). StaysInPool u t) o.1 (subst (StaysInPool (slice_index_or old i s)) n.1 (h.each i s o.0))

pub pool_stays : (old new : List Shift) → IsPool old → AllStay old new → IsPool new
pool_stays old new h all =
    let l : length new ≡ length old = all.count in
    let stays : (i : ℕ) (s t : Shift) → slice_get old i ≡ Some s → slice_get new i ≡ Some t → StaysInPool s t = stay_at old new all in
    let deques : ℕ = length old in
    let parents : ℕ = pool_parents old in
    let ds : pool_deques new ≡ pool_deques old = map_stays (λ (s : Shift). worker_deque s.own) old new l (λ i s t a b. (stays i s t a b).own.0) in
    let pool : IsPoolOf deques parents new = record {
      some = h.some;
      few = h.few;
      count = l;
      each = λ i t b. (
          let o = some_at old new i t l b in let was = h.each i o.0 o.1 in let k = stays i o.0 t o.1 b in record {
            number = k.number ∙ was.number;
            parents_of = k.parents ∙ was.parents_of;
            deques_of = k.deques ∙ was.deques_of;
            own_parts = (let p = k.passes.same_parts 0 in let q = was.own_parts in omega arith);
            seat_parts = λ j m. k.passes.same_parts (suc j) ∙ was.seat_parts j m;
          });
      around = λ i t b. (
          let o = some_at old new i t l b in let k = stays i o.0 t o.1 b in
          subst (λ (qs : List (RowsId × Global)). IsAround i (deques - 1) qs (seat_deques t.others.items)) (sym ds)
          (subst (IsAround i (deques - 1) (pool_deques old)) (sym k.passes.same_deques) (h.around i o.0 o.1)));
    } in
    subst (λ (n : ℕ). IsPoolOf n (pool_parents new) new) (sym l) (subst (λ (p : ℕ). IsPoolOf deques p new) (sym (same_parents old new l stays)) pool)

pub stays_same : (s : Shift) → StaysInPool s s
stays_same s = record {
  number = refl;
  parents = refl;
  deques = refl;
  own = (refl, refl, refl, omega arith);
  passes =
      record { same_deques = refl; same_parts = λ j. refl };
}

pub stays_more : (s t u : Shift) → StaysInPool s t → StaysInPool t u → StaysInPool s u
stays_more s t u a b = record {
  number = b.number ∙ a.number;
  parents = b.parents ∙ a.parents;
  deques = b.deques ∙ a.deques;
  own = (b.own.0 ∙ a.own.0, b.own.1 ∙ a.own.1, b.own.2 ∙ a.own.2, (let m = a.own.3 in let n = b.own.3 in omega arith));
  passes = record { same_deques = b.passes.same_deques ∙ a.passes.same_deques; same_parts = λ j. b.passes.same_parts j ∙ a.passes.same_parts j };
}
