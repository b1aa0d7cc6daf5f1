-- One offer: what the set, the book and the pass are after it.
use Rattle.std.proofs.Common.{◌≡◌, ℕ, zero, suc, ◌+◌, ◌-◌, ◌<◌, ◌^◌, min, Bool, true, false, cond, List, [], ◌∷◌, ◌++◌, map, length, slice_get, slice_set, slice_index_or, refl, ap, sym, ◌∙◌, subst, arith, Contains, MatchBool, Some, length-append, length-set, ⊎_elim, ◌≢◌, not, eq-eqb, ap₂, option_map, Result, Ok, Err, IfOk, IfErr}
use Rattle.std.specs.declared.alloc.AllocError.{AllocError}
use Rattle.std.proofs.lemmas.List.{length-map, map-set}
use Rattle.std.proofs.lemmas.Option.{slice_get-map, slice_get-get_or}
use mathlib.Core.List.{IsPrefix}
use Rattle.std.specs.List.{AllByRecursion}
use Rattle.std.proofs.lemmas.Bool.{cases_eq}
use Rattle.list_lemmas.proofs.Lists.{all_push}
use Rattle.atomic_table.specs.Seated.{TableId}
use Rattle.histories.specs.declared.entry.Entry.{Entry}
use Rattle.histories.specs.declared.entry.Reply.{Reply}
use Rattle.histories.specs.declared.entry.Reply.TheVariants.{New, Again}
use Rattle.histories.specs.SetObject.{reply_to, keys_after}
use Rattle.histories.specs.History.{calls_by, entry}
use Rattle.histories.specs.Counts.{keys_of}
use Rattle.histories.proofs.Keys.{has_from_contains, hasnt, keys_from-append}
use Rattle.link_set.specs.Hash.{stripe_of}
use Rattle.stripe_book.specs.declared.view.Phase.TheVariants.{Idle}
use Rattle.stripe_book.specs.Seen.{CallerSide, TableSide}
use Rattle.stripe_turn.specs.Seen.{TurnSide, TurnsSide, without}
use Rattle.class_store.specs.Seen.{PassSide, Track, track_of, pass_side, IsOffer, IsOpen, IsReady, IsPass}

-- ---- the set's reply
pub again_reply : (keys : List (List ℕ)) (history : List Entry) (key : List ℕ) → keys ≡ keys_after history → Contains keys key
    → Again ≡ reply_to (keys_after history) key
again_reply keys history key is there = ap (λ b. cond b Again New) (sym (has_from_contains (keys_after history) key (subst (λ l. Contains l key) is there)))

pub new_reply : (keys : List (List ℕ)) (history : List Entry) (key : List ℕ) → keys ≡ keys_after history → ¬ (Contains keys key)
    → New ≡ reply_to (keys_after history) key
new_reply keys history key is missing = ap (λ b. cond b Again New) (sym (hasnt (keys_after history) key (subst (λ l. ¬ (Contains l key)) is missing)))

pub again_set : (keys : List (List ℕ)) (history : List Entry) (c n : ℕ) (key : List ℕ) → keys ≡ keys_after history → Contains keys key
    → keys ≡ keys_after (history ++ entry c n key Again ∷ [])
again_set keys history c n key is there = is
    ∙ (ap (λ b. cond b (keys_after history) (keys_after history ++ key ∷ []))
    (sym (has_from_contains (keys_after history) key (subst (λ l. Contains l key) is there)))
    ∙ sym (keys_from-append [] history (entry c n key Again ∷ [])))

pub new_set : (keys more : List (List ℕ)) (history : List Entry) (c n : ℕ) (key : List ℕ) → keys ≡ keys_after history → ¬ (Contains keys key)
    → more ≡ keys ++ key ∷ [] → more ≡ keys_after (history ++ entry c n key New ∷ [])
new_set keys more history c n key is missing e = e
    ∙ (ap (λ l. l ++ key ∷ []) is ∙ (ap (λ b. cond b (keys_after history) (keys_after history ++ key ∷ []))
    (sym (hasnt (keys_after history) key (subst (λ l. ¬ (Contains l key)) is missing)))
    ∙ sym (keys_from-append [] history (entry c n key New ∷ []))))

pub one_more : (entries more : ℕ) (history : List Entry) (e : Entry) → entries ≡ min (length history) (2 ^ 64 - 1)
    → more ≡ min (entries + 1) (2 ^ 64 - 1) → more ≡ min (length (history ++ e ∷ [])) (2 ^ 64 - 1)
one_more entries more history e is m = omega (arith, length-append history (e ∷ []))

pub inserted : {A B : Type 0} (b : Bool) (C : Type 0) (n m : A) (o p : B) → MatchBool b ((¬ C) × (n ≡ m)) (C × (o ≡ p)) → ¬ C → n ≡ m
inserted true C n m o p r none = r.1
inserted false C n m o p r none = absurd (none r.0)

last_of : (xs : List (List ℕ)) (x : List ℕ) → slice_get (xs ++ x ∷ []) (length xs) ≡ Some x
last_of [] x = refl
last_of (y ∷ ys) x = last_of ys x

pub last_got : (xs ys : List (List ℕ)) (key k : List ℕ) (n : ℕ) → ys ≡ xs ++ key ∷ [] → n ≡ length ys → slice_get ys (n - 1) ≡ Some k → k ≡ key
last_got xs ys key k n is e got =
    let at : n - 1 ≡ length xs = omega (arith, ap length is, length-append xs (key ∷ [])) in
    let there : slice_get (xs ++ key ∷ []) (length xs) ≡ Some k = subst (λ (m : ℕ). slice_get (xs ++ key ∷ []) m ≡ Some k) at
    (subst (λ l. slice_get l (n - 1) ≡ Some k) is got) in
    let here = last_of xs key in cc (there, here)

-- ---- the caller after its call
pub is_offer : (old mid new : CallerSide) (history : List Entry) (key : List ℕ) (reply : Reply) → mid ≡ old
    → new ≡ record mid {
      phase = Idle;
      seen = history ++ entry mid.number (length mid.mine) key reply ∷ [];
      mine = mid.mine ++ entry mid.number (length mid.mine) key reply ∷ [];
    }
    → IsPrefix old.seen history → reply ≡ reply_to (keys_after history) key → IsOffer old.number key reply (track_of old) (track_of new)
is_offer old mid new history key reply is e begun answer = record {
  before = history;
  begun = begun;
  answer = answer;
  seen = ap (λ (c : CallerSide). c.seen) e ∙ ap (λ (c : CallerSide). history ++ entry c.number (length c.mine) key reply ∷ []) is;
  mine = ap (λ (c : CallerSide). c.mine) e ∙ ap (λ (c : CallerSide). c.mine ++ entry c.number (length c.mine) key reply ∷ []) is;
}

-- ---- the caller of a pass at one stripe
pub same_tables : (tables : List TableSide) (s : ℕ) (t : TableSide) (id : TableId) → slice_get tables s ≡ Some t
    → slice_get (map (λ (t : TableSide). t.table) tables) s ≡ Some id → id ≡ t.table
same_tables tables s t id there e = let m = slice_get-map (λ (t : TableSide). t.table) tables s
    ∙ ap (option_map (λ (t : TableSide). t.table)) there in cc (m, e)

pub got_at : {A : Type 0} (xs : List A) (i : ℕ) (x : A) → i < length xs → x ≡ slice_index_or xs i x → slice_get xs i ≡ Some x
got_at xs i x below e = slice_get-get_or xs i x below ∙ ap Some (sym e)

-- the caller that stands at this stripe, ready, and at the table of the stripe
pub record StandsAt (number : ℕ) (callers : List CallerSide) (turn : TurnSide) (s : ℕ) (t : TableSide) (c : CallerSide) : Type 0 where
  pub there : slice_get callers s ≡ Some c
  pub ready : IsReady number turn.tables s c
  pub one_table : c.table ≡ t.table

pub stands : (number passes s : ℕ) (tables : List TableSide) (turns : TurnsSide) (callers : List CallerSide) (turn : TurnSide) (t : TableSide)
    (c : CallerSide) → IsOpen tables turns passes → IsPass number callers turn → turn.tables ≡ turns.tables
    → s < length tables → t ≡ slice_index_or tables s t → c ≡ slice_index_or callers s c → StandsAt number callers turn s t c
stands number passes s tables turns callers turn t c o p level below is_t is_c =
    let width : length callers ≡ length tables = p.width
    ∙ (ap (λ (l : List TableId). length l) (level ∙ sym o.same) ∙ length-map tables (λ (t : TableSide). t.table)) in
    let there = got_at callers s c (omega arith) is_c in
    let ready = p.ready s c there in
    record {
      there = there;
      ready = ready;
      one_table = same_tables tables s t c.table (got_at tables s t below is_t)
          (subst (λ l. slice_get l s ≡ Some c.table) (level ∙ sym o.same) ready.here);
    }

-- what an offer does to the caller
abbrev pub Told : CallerSide → CallerSide → List ℕ → Reply → Type 0
Told c d key reply = IsOffer c.number key reply (track_of c) (track_of d) × (calls_by d.number d.seen ≡ d.mine)

abbrev pub SameCaller : CallerSide → CallerSide → Type 0
SameCaller c d = (d.table ≡ c.table) × (d.number ≡ c.number) × (d.phase ≡ Idle)

pub ready_after : {B : Type 0} (number s : ℕ) (tables : List TableId) (c d : CallerSide) (key : List ℕ) (r : Result Reply B)
    → IsReady number tables s c → SameCaller c d → stripe_of (length tables) key ≡ s
    → IfOk r (Told c d key) → IfErr r (λ _. d ≡ c) → IsReady number tables s d
ready_after number s tables c d key (Ok reply) ready same names told none = record {
  here = ready.here ∙ ap Some (sym same.0);
  named = same.1 ∙ ready.named;
  idle = same.2;
  calls = ap (λ n. calls_by n d.seen) (sym (same.1 ∙ ready.named)) ∙ told.1;
  names = subst (λ l. AllByRecursion (λ (e : Entry). stripe_of (length tables) e.key ≡ s) l) (sym told.0.mine)
      (all_push (λ (e : Entry). stripe_of (length tables) e.key ≡ s) c.mine _ ready.names names);
}
ready_after number s tables c d key (Err b) ready same names told none = subst (IsReady number tables s) (sym none) ready

-- ---- the pass after its call
pub held_now : (old new : TurnSide) (at : ℕ) → new ≡ record old { held = at ∷ old.held } → Contains new.held at
held_now old new at e = subst (λ (t : TurnSide). Contains t.held at) (sym e) (0, omega arith, refl)

pub turn_back : (old mid new : TurnSide) (s : ℕ) → old.held ≡ [] → mid ≡ record old { held = s ∷ old.held }
    → new ≡ record mid { held = without s mid.held } → new ≡ old
turn_back old mid new s free held back =
    let gone : without s (s ∷ []) ≡ [] = ap (λ b. cond (not b) (s ∷ []) []) (eq-eqb s s refl) in
    back ∙ (ap (λ (m : TurnSide). record m { held = without s m.held }) held
    ∙ λ i. record old { held = (ap (λ l. without s (s ∷ l)) free ∙ (gone ∙ sym free)) i })

at_other : {A : Type 0} (xs : List A) (i j : ℕ) (x : A) → i ≢ j → slice_get (slice_set xs j x) i ≡ slice_get xs i
at_other [] i j x n = refl
at_other (y ∷ ys) zero zero x n = absurd (n refl)
at_other (y ∷ ys) (suc i) zero x n = refl
at_other (y ∷ ys) zero (suc j) x n = refl
at_other (y ∷ ys) (suc i) (suc j) x n = at_other ys i j x (λ e. n (ap suc e))

at_same : {A : Type 0} (xs : List A) (i : ℕ) (x y : A) → slice_get (slice_set xs i x) i ≡ Some y → x ≡ y
at_same [] i x y e = absurd (cc e)
at_same (z ∷ zs) zero x y e = cc e
at_same (z ∷ zs) (suc i) x y e = at_same zs i x y e

pub pass_after : (number s : ℕ) (callers : List CallerSide) (turn new : TurnSide) (d : CallerSide) → IsPass number callers turn → new ≡ turn
    → IsReady number turn.tables s d → IsPass number (slice_set callers s d) new
pass_after number s callers turn new d p same ready = subst (IsPass number (slice_set callers s d)) (sym same) record {
  width = length-set callers s d ∙ p.width;
  free = p.free;
  ready = λ k c e. ⊎_elim
      (λ (here : k ≡ s). subst (λ j. IsReady number turn.tables j c) (sym here)
      (subst (IsReady number turn.tables s) (at_same callers s d c (subst (λ j. slice_get (slice_set callers s d) j ≡ Some c) here e)) ready))
      (λ (other : k ≢ s). p.ready k c (sym (at_other callers k s d other) ∙ e))
      (cases_eq k s);
}

pub told_track : {B : Type 0} (callers : List CallerSide) (at s number : ℕ) (c d : CallerSide) (tracks more : List Track) (key : List ℕ)
    (r : Result Reply B) → slice_get callers at ≡ Some c → at ≡ s → c.number ≡ number
    → map track_of callers ≡ tracks → more ≡ map track_of (slice_set callers at d) → IfOk r (Told c d key)
    → IfOk r (λ reply. (old new : Track) × (slice_get tracks s ≡ Some old) × (more ≡ slice_set tracks s new) × IsOffer number key reply old new)
told_track callers at s number c d tracks more key (Err b) there here named is after told = tt
told_track callers at s number c d tracks more key (Ok reply) there here named is after told = (
  track_of c,
  track_of d,
  sym (ap₂ (λ l k. slice_get l k) is here) ∙ (slice_get-map track_of callers at ∙ ap (option_map track_of) there),
  after ∙ (map-set track_of callers at d ∙ ap₂ (λ l k. slice_set l k (track_of d)) is here),
  subst (λ n. IsOffer n key reply (track_of c) (track_of d)) named told.0,
)

pub set_back : {A : Type 0} (xs : List A) (i : ℕ) (x : A) → slice_get xs i ≡ Some x → slice_set xs i x ≡ xs
set_back [] i x e = refl
set_back (y ∷ ys) zero x e = let same : y ≡ x = cc e in ap (λ z. z ∷ ys) (sym same)
set_back (y ∷ ys) (suc i) x e = ap (λ l. y ∷ l) (set_back ys i x e)

pub refused_pass : (callers : List CallerSide) (at s number : ℕ) (turn new : TurnSide) (c d : CallerSide) (old : PassSide) (key : List ℕ)
    (r : Result Reply (AllocError × List ℕ)) → slice_get callers at ≡ Some c → at ≡ s → new ≡ turn
    → pass_side number callers turn ≡ old
    → IfErr r (λ back. (back.1 ≡ key) × (d ≡ c) × ¬ (Contains (keys_of c.seen) key))
    → IfErr r (λ back. (back.1 ≡ key) × (pass_side number (slice_set callers at d) new ≡ old)
    × ((t : Track) → slice_get old.tracks s ≡ Some t → ¬ (Contains (keys_of t.seen) key)))
refused_pass callers at s number turn new c d old key (Ok reply) there here same is told = tt
refused_pass callers at s number turn new c d old key (Err back) there here same is told = (
  told.0,
  ap₂ (λ cs t. pass_side number cs t) (ap (slice_set callers at) told.1 ∙ set_back callers at c there) same ∙ is,
  λ t e. let mine : slice_get old.tracks s ≡ Some (track_of c) = ap₂ (λ (p : PassSide) k. slice_get p.tracks k) (sym is) (sym here)
      ∙ (slice_get-map track_of callers at ∙ ap (option_map track_of) there) in
      let same_track : track_of c ≡ t = cc (mine, e) in subst (λ (u : Track). ¬ (Contains (keys_of u.seen) key)) same_track told.2,
)

pub same_caller : (c d : CallerSide) (key : List ℕ) (r : Result Reply (AllocError × List ℕ))
    → IfErr r (λ back. (back.1 ≡ key) × (d ≡ c) × ¬ (Contains (keys_of c.seen) key)) → IfErr r (λ _. d ≡ c)
same_caller c d key (Ok reply) told = tt
same_caller c d key (Err back) told = told.1
