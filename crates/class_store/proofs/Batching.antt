-- A batch: one call after the other.
use Rattle.std.proofs.Common.{◌≡◌, ℕ, zero, suc, ◌+◌, ◌<◌, ◌≤◌, Bool, true, false, cond, List, [], ◌∷◌, ◌++◌, length, refl, ap, ap₂, sym, ◌∙◌, subst, arith, Contains, append_assoc, append-nil, length-append, inl, inr, map, slice_get, slice_index_or, slice_set, Some, option_map, Result, Ok, Err, IfOk, IfErr}
use Rattle.std.specs.List.{AllByRecursion}
use mathlib.Core.List.{IsPrefix}
use Rattle.std.proofs.lemmas.Bool.{false≢true}
use Rattle.histories.specs.declared.entry.Entry.{Entry}
use Rattle.histories.specs.SetObject.{after_offer, keys_after, reply_to}
use Rattle.histories.specs.History.{entry}
use Rattle.histories.specs.Counts.{is_new}
use Rattle.histories.proofs.Keys.{keys_from-append}
use Rattle.std.specs.declared.alloc.AllocError.{AllocError}
use Rattle.std.proofs.lemmas.List.{length-map, map-set}
use Rattle.std.proofs.lemmas.Option.{slice_get-get_or, slice_get-map}
use Rattle.atomic_table.specs.Seated.{TableId}
use Rattle.histories.specs.History.{calls_by}
use Rattle.histories.specs.Counts.{keys_of}
use Rattle.histories.proofs.Beginnings.{prefix_self}
use Rattle.histories.proofs.Keys.{not_seen}
use Rattle.link_set.specs.Hash.{stripe_of}
use Rattle.stripe_book.specs.Seen.{CallerSide}
use Rattle.stripe_turn.specs.Seen.{TurnSide}
use Rattle.class_store.specs.Seen.{IsPass, IsReady, PassSide, Track, blank, pass_side, track_of}
use Rattle.class_store.specs.Batches.{entries_for, news_in, HasRoom, IsBatch, IsGoing, OffersBatch, SomeIsMissing, seen_after}
use Rattle.class_store.proofs.Offers.{SameCaller, set_back}

pub room_next : (keys more rest rest' : List (List ℕ)) (spare spare' : ℕ) (key : List ℕ) → HasRoom keys spare rest → rest ≡ key ∷ rest'
    → spare ≤ spare' + 1 → (Contains keys key → more ≡ keys) → HasRoom more spare' rest'
room_next keys more rest rest' spare spare' key (inl few) e less stays = inl (omega (arith, ap length e))
room_next keys more rest rest' spare spare' key (inr all) e less stays = let r : AllByRecursion (Contains keys) (key ∷ rest') = subst
    (AllByRecursion (Contains keys)) e all in inr (subst (λ l. AllByRecursion (Contains l) rest') (sym (stays r.0)) r.1)

pub has_spare : (keys rest rest' : List (List ℕ)) (spare : ℕ) (key : List ℕ) → HasRoom keys spare rest → rest ≡ key ∷ rest' → ¬ (Contains keys key) → 0 < spare
has_spare keys rest rest' spare key (inl few) e none = omega (arith, ap length e)
has_spare keys rest rest' spare key (inr all) e none = let r : AllByRecursion (Contains keys) (key ∷ rest') = subst
    (AllByRecursion (Contains keys)) e all in absurd (none r.0)

-- the entries of the rest, after one more
split_next : (number : ℕ) (history mine before : List Entry) (key : List ℕ) (rest' : List (List ℕ)) →
    before ++ entries_for number (length mine) (keys_after history) (key ∷ rest')
    ≡ (before ++ entry number (length mine) key (reply_to (keys_after history) key) ∷ []) ++ entries_for number
    (length (mine ++ entry number (length mine) key (reply_to (keys_after history) key) ∷ []))
    (keys_after (history ++ entry number (length mine) key (reply_to (keys_after history) key) ∷ [])) rest'
split_next number history mine before key rest' =
    let e : Entry = entry number (length mine) key (reply_to (keys_after history) key) in
    let n : length (mine ++ e ∷ []) ≡ suc (length mine) = omega (arith, length-append mine (e ∷ [])) in
    sym (append_assoc before (e ∷ []) (entries_for number (suc (length mine)) (after_offer (keys_after history) key) rest'))
    ∙ ap₂ (λ k s. (before ++ e ∷ []) ++ entries_for number k s rest') (sym n) (sym (keys_from-append [] history (e ∷ [])))

count_next : (number : ℕ) (history mine : List Entry) (key : List ℕ) (rest' : List (List ℕ)) →
    news_in (entries_for number (length mine) (keys_after history) (key ∷ rest'))
    ≡ cond (is_new (reply_to (keys_after history) key)) (suc zero) zero + news_in
    (entries_for number (length (mine ++ entry number (length mine) key (reply_to (keys_after history) key) ∷ []))
    (keys_after (history ++ entry number (length mine) key (reply_to (keys_after history) key) ∷ [])) rest')
count_next number history mine key rest' =
    let e : Entry = entry number (length mine) key (reply_to (keys_after history) key) in
    let n : length (mine ++ e ∷ []) ≡ suc (length mine) = omega (arith, length-append mine (e ∷ [])) in
    by_case (is_new (reply_to (keys_after history) key)) (news_in (entries_for number (suc (length mine)) (after_offer (keys_after history) key) rest'))
    ∙ ap₂ (λ k s. cond (is_new (reply_to (keys_after history) key)) (suc zero) zero + news_in (entries_for number k s rest')) (sym n)
    (sym (keys_from-append [] history (e ∷ [])))
  where
    by_case : (b : Bool) (m : ℕ) → cond b (suc m) m ≡ cond b (suc zero) zero + m
    by_case true m = omega arith
    by_case false m = omega arith

pub news_then : (n m : ℕ) (b : Bool) → b ≡ true → m ≡ n + 1 → m ≡ n + cond b (suc zero) zero
news_then n m true e f = omega (arith, f)
news_then n m false e f = absurd (false≢true e)

pub news_else : (n m : ℕ) (b : Bool) → b ≡ false → m ≡ n → m ≡ n + cond b (suc zero) zero
news_else n m true e f = absurd (false≢true (sym e))
news_else n m false e f = omega (arith, f)

pub few_next : (b : Bool) (n m i j : ℕ) → m ≡ n + cond b (suc zero) zero → n ≤ i → j ≡ suc i → m ≤ j
few_next true n m i j e few next = omega (arith, e, few, next)
few_next false n m i j e few next = omega (arith, e, few, next)

pub going_starts : (number : ℕ) (all rest : List (List ℕ)) (set : List (List ℕ)) (history mine seen : List Entry) → rest ≡ all
    → IsGoing number 0 0 all rest set set history mine seen history mine seen
going_starts number all rest set history mine seen e = record {
  in_history = ap (λ l. history ++ entries_for number (length mine) set l) (sym e);
  in_mine = ap (λ l. mine ++ entries_for number (length mine) set l) (sym e);
  count = let c = ap (λ l. news_in (entries_for number (length mine) set l)) (sym e) in omega (arith, c);
  few = omega arith;
  seen_then = refl;
}

pub going_next : (number i j news news' : ℕ) (all rest rest' : List (List ℕ)) (set0 : List (List ℕ))
    (history0 mine0 seen0 history mine seen history' mine' seen' : List Entry) (key : List ℕ)
    → IsGoing number i news all rest set0 (keys_after history) history0 mine0 seen0 history mine seen → rest ≡ key ∷ rest'
    → history' ≡ history ++ entry number (length mine) key (reply_to (keys_after history) key) ∷ []
    → mine' ≡ mine ++ entry number (length mine) key (reply_to (keys_after history) key) ∷ [] → seen' ≡ history'
    → news' ≡ news + cond (is_new (reply_to (keys_after history) key)) (suc zero) zero → news' ≤ j → j ≡ suc i
    → IsGoing number j news' all rest' set0 (keys_after history') history0 mine0 seen0 history' mine' seen'
going_next number i j news news' all rest rest' set0 history0 mine0 seen0 history mine seen history' mine' seen' key g e h m s n few next = record {
  in_history = g.in_history ∙ (ap (λ l. history ++ entries_for number (length mine) (keys_after history) l) e
      ∙ (split_next number history mine history key rest'
      ∙ ap₂ (λ a b. a ++ entries_for number (length b) (keys_after a) rest') (sym h) (sym m)));
  in_mine = g.in_mine ∙ (ap (λ l. mine ++ entries_for number (length mine) (keys_after history) l) e ∙ (split_next number history mine mine key rest'
      ∙ ap₂ (λ a b. b ++ entries_for number (length b) (keys_after a) rest') (sym h) (sym m)));
  count =
      let one : ℕ = cond (is_new (reply_to (keys_after history) key)) (suc zero) zero in
      let c = g.count in
      let d = ap (λ l. news_in (entries_for number (length mine) (keys_after history) l)) e
      ∙ (count_next number history mine key rest'
      ∙ ap₂ (λ a b. one + news_in (entries_for number (length b) (keys_after a) rest')) (sym h) (sym m)) in
      omega (arith, c, d, n);
  few = few;
  seen_then = s ∙ ap (λ k. seen_after k seen0 history') (sym next);
}

-- when nothing is left
pub batch_done : (old new : CallerSide) (i news : ℕ) (all rest : List (List ℕ)) (set0 set : List (List ℕ)) (history0 history : List Entry)
    → IsGoing old.number i news all rest set0 set history0 old.mine old.seen history new.mine new.seen → length rest + i ≡ length all → i ≡ length all
    → 0 < length all → IsPrefix old.seen history0
    → IsBatch old.number all set0 history0 news (track_of old) (track_of new)
batch_done old new (suc i) news all [] set0 set history0 history g left here some begun = record {
  begun = begun;
  seen = g.seen_then ∙ (sym (append-nil history) ∙ sym g.in_history);
  mine = sym (append-nil new.mine) ∙ sym g.in_mine;
  count = let c = g.count in omega arith;
}
batch_done old new zero news all [] set0 set history0 history g left here some begun = absurd (omega arith)
batch_done old new i news all (k ∷ rest) set0 set history0 history g left here some begun = absurd (omega arith)

-- ---- memory was wanting
pub missing_before : (keys set : List (List ℕ)) (seen history : List Entry) → SomeIsMissing keys set → set ≡ keys_after history
    → IsPrefix seen history → SomeIsMissing keys (keys_of seen)
missing_before keys set seen history m is begun = (m.0, m.1, not_seen m.0 seen history begun (subst (λ l. ¬ (Contains l m.0)) is m.2))

-- ---- the pass after a batch
all_both : (P : Entry → Type 0) (xs ys : List Entry) → AllByRecursion P xs → AllByRecursion P ys → AllByRecursion P (xs ++ ys)
all_both P [] ys a b = b
all_both P (x ∷ xs) ys a b = (a.0, all_both P xs ys a.1 b)

names_for : (stripes s number n : ℕ) (set keys : List (List ℕ)) → AllByRecursion (λ key. stripe_of stripes key ≡ s) keys
    → AllByRecursion (λ (e : Entry). stripe_of stripes e.key ≡ s) (entries_for number n set keys)
names_for stripes s number n set [] all = tt
names_for stripes s number n set (k ∷ ks) all = (all.0, names_for stripes s number (suc n) (after_offer set k) ks all.1)

-- what a batch does to the caller
abbrev pub ToldAll : CallerSide → CallerSide → List (List ℕ) → List Entry → ℕ → Type 0
ToldAll c d keys before news = IsBatch c.number keys (keys_after before) before news (track_of c) (track_of d) × (calls_by d.number d.seen ≡ d.mine)

pub ready_after_all : {B : Type 0} (number s : ℕ) (tables : List TableId) (c d : CallerSide) (keys : List (List ℕ)) (before : List Entry)
    (r : Result ℕ B) → IsReady number tables s c → SameCaller c d → AllByRecursion (λ key. stripe_of (length tables) key ≡ s) keys
    → IfOk r (λ news. ToldAll c d keys before news) → IfErr r (λ _. d ≡ c) → IsReady number tables s d
ready_after_all number s tables c d keys before (Ok news) ready same names told none = record {
  here = ready.here ∙ ap Some (sym same.0);
  named = same.1 ∙ ready.named;
  idle = same.2;
  calls = ap (λ n. calls_by n d.seen) (sym (same.1 ∙ ready.named)) ∙ told.1;
  names = subst (λ l. AllByRecursion (λ (e : Entry). stripe_of (length tables) e.key ≡ s) l) (sym told.0.mine)
      (all_both (λ (e : Entry). stripe_of (length tables) e.key ≡ s) c.mine
      (entries_for c.number (length c.mine) (keys_after before) keys) ready.names
      (names_for (length tables) s c.number (length c.mine) (keys_after before) keys names));
}
ready_after_all number s tables c d keys before (Err b) ready same names told none = subst (IsReady number tables s) (sym none) ready

pub told_tracks : {B : Type 0} (callers : List CallerSide) (at number : ℕ) (c d : CallerSide) (tracks more : List Track) (keys : List (List ℕ))
    (before : List Entry) (r : Result ℕ B) → slice_get callers at ≡ Some c → c.number ≡ number
    → map track_of callers ≡ tracks → more ≡ map track_of (slice_set callers at d) → IfOk r (λ news. ToldAll c d keys before news)
    → IfOk r (λ news. (old new : Track) × (history : List Entry) × (slice_get tracks at ≡ Some old) × (more ≡ slice_set tracks at new)
    × IsBatch number keys (keys_after history) history news old new)
told_tracks callers at number c d tracks more keys before (Err b) there named is after told = tt
told_tracks callers at number c d tracks more keys before (Ok news) there named is after told = (
  track_of c,
  track_of d,
  before,
  ap (λ l. slice_get l at) (sym is) ∙ (slice_get-map track_of callers at ∙ ap (option_map track_of) there),
  after ∙ (map-set track_of callers at d ∙ ap (λ l. slice_set l at (track_of d)) is),
  subst (λ n. IsBatch n keys (keys_after before) before news (track_of c) (track_of d)) named told.0,
)

pub refused_all : (callers : List CallerSide) (at number : ℕ) (turn new : TurnSide) (c d : CallerSide) (old : PassSide) (keys : List (List ℕ))
    (r : Result ℕ (AllocError × List (List ℕ))) → slice_get callers at ≡ Some c → new ≡ turn
    → pass_side number callers turn ≡ old
    → IfErr r (λ back. (back.1 ≡ keys) × (d ≡ c) × SomeIsMissing keys (keys_of c.seen))
    → IfErr r (λ back. (back.1 ≡ keys) × (pass_side number (slice_set callers at d) new ≡ old)
    × ((t : Track) → slice_get old.tracks at ≡ Some t → SomeIsMissing keys (keys_of t.seen)))
refused_all callers at number turn new c d old keys (Ok news) there same is told = tt
refused_all callers at number turn new c d old keys (Err back) there same is told = (
  told.0,
  ap₂ (λ cs t. pass_side number cs t) (ap (slice_set callers at) told.1 ∙ set_back callers at c there) same ∙ is,
  λ t e. let mine : slice_get old.tracks at ≡ Some (track_of c) = ap (λ (p : PassSide). slice_get p.tracks at) (sym is)
      ∙ (slice_get-map track_of callers at ∙ ap (option_map track_of) there) in
      let same_track : track_of c ≡ t = cc (mine, e) in subst (λ (u : Track). SomeIsMissing keys (keys_of u.seen)) same_track told.2,
)

pub same_after : (c d : CallerSide) (keys : List (List ℕ)) (r : Result ℕ (AllocError × List (List ℕ)))
    → IfErr r (λ back. (back.1 ≡ keys) × (d ≡ c) × SomeIsMissing keys (keys_of c.seen)) → IfErr r (λ _. d ≡ c)
same_after c d keys (Ok news) told = tt
same_after c d keys (Err back) told = told.1

-- ---- an empty batch
none_batch : (number : ℕ) (keys : List (List ℕ)) (t : Track) → length keys ≡ 0 → IsBatch number keys (keys_after t.seen) t.seen 0 t t
none_batch number [] t none = record { begun = prefix_self t.seen; seen = sym (append-nil t.seen); mine = sym (append-nil t.mine); count = refl }
none_batch number (k ∷ ks) t none = absurd (omega arith)

pub offered_none : (number : ℕ) (callers : List CallerSide) (turn : TurnSide) (pass : PassSide) (tables : List TableId) (stripe : ℕ) (keys : List (List ℕ))
    → IsPass number callers turn → pass_side number callers turn ≡ pass → pass.level.tables ≡ tables → stripe < length tables → length keys ≡ 0
    → OffersBatch pass pass stripe keys 0
offered_none number callers turn pass tables stripe keys p is level below none =
    let wide : length pass.tracks ≡ length tables = sym (ap (λ (q : PassSide). length q.tracks) is) ∙ (length-map callers track_of
    ∙ (p.width ∙ ap (λ (l : List TableId). length l) (ap (λ (q : PassSide). q.level.tables) is ∙ level))) in
    let old : Track = slice_index_or pass.tracks stripe blank in
    let there : slice_get pass.tracks stripe ≡ Some old = slice_get-get_or pass.tracks stripe blank (omega (arith, wide, below)) in
    (old, old, old.seen, there, sym (set_back pass.tracks stripe old there), none_batch pass.number keys old none)
