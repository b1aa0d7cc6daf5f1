-- What a batch adds to the calls of a pass, and gathered keys.
use Rattle.std.proofs.Common.{◌≡◌, ◌≢◌, ◌∙◌, ℕ, suc, ◌+◌, ◌<◌, ◌≤◌, cond, List, [], ◌∷◌, ◌++◌, length, take, drop, append-nil, get_or, replicate, slice_set, refl, sym, ap, subst, arith, bytes_eq, ⊎_elim}
use Rattle.std.specs.List.{All, sum_by}
use Rattle.std.proofs.lemmas.Bool.{cases_eq, cases_lt}
use Rattle.std.proofs.lemmas.List.{drop_all, take_all, length-set, length-replicate, get_or-set_same, get_or-set_other, get_or-replicate}
use Rattle.std.proofs.lemmas.List.Sums.{sum_by-set, sum_by-cons, sum_by-append}
use Rattle.std.proofs.lemmas.Option.{get_or_from_slice_get, slice_get_within}
use Rattle.histories.specs.declared.entry.Entry.{Entry}
use Rattle.histories.specs.SetObject.{after_offer, reply_to}
use Rattle.histories.specs.History.{entry}
use Rattle.histories.specs.Counts.{entries_with}
use Rattle.link_set.specs.Hash.{stripe_of}
use Rattle.class_store.specs.Seen.{PassSide, Track, calls_with}
use Rattle.class_store.specs.Batches.{entries_for, OffersBatch}
use Rattle.workers.specs.Keys.{times}
use Rattle.workers.specs.Offered.{AreEmpty, AreGathered, IsSamePass, MadeCalls, gathered_at, gathered_with}

-- the entries of a batch have its keys, each as often
batch_entries : (key : List ℕ) (c n : ℕ) (set keys : List (List ℕ)) → entries_with key (entries_for c n set keys) ≡ times key keys
batch_entries key c n set [] = refl
batch_entries key c n set (k ∷ ks) =
    sum_by-cons (λ (e : Entry). cond (bytes_eq key e.key) 1 0) (entry c n k (reply_to set k)) (entries_for c (suc n) (after_offer set k) ks)
    ∙ (ap (λ m. cond (bytes_eq key k) 1 0 + m) (batch_entries key c (suc n) (after_offer set k) ks)
    ∙ sym (sum_by-cons (λ (l : List ℕ). cond (bytes_eq key l) 1 0) k ks))

-- a batch at one stripe is one more call of the pass for each of its keys
pub batch_calls : (old new : PassSide) (stripe : ℕ) (keys : List (List ℕ)) (news : ℕ) → OffersBatch old new stripe keys news → MadeCalls old new keys
batch_calls old new stripe keys news (t, u, before, there, is, batch) key =
    let f : Track → ℕ = λ (t : Track). entries_with key t.mine in
    let set = sum_by-set f old.tracks stripe u t (slice_get_within old.tracks stripe t there) in
    let same : f (get_or old.tracks stripe t) ≡ f t = ap f (get_or_from_slice_get old.tracks stripe t t there) in
    let more : List Entry = entries_for old.number (length t.mine) _ keys in
    let grown : f u ≡ f t + times key keys = ap (entries_with key) batch.mine
    ∙ (sum_by-append (λ (e : Entry). cond (bytes_eq key e.key) 1 0) t.mine more ∙ ap (λ m. f t + m) (batch_entries key old.number (length t.mine) _ keys)) in
    let after : sum_by f new.tracks ≡ sum_by f (slice_set old.tracks stripe u) = ap (sum_by f) is in
    omega arith

-- ---- gathered keys
pub none_gathered : (stripes : ℕ) → AreEmpty (replicate stripes [])
none_gathered stripes s l = get_or-replicate stripes s [] []
    (let n : length (replicate {A = List (List ℕ)} stripes []) ≡ stripes = length-replicate stripes [] in omega arith)

pub empty_with : (key : List ℕ) (batches : List (List (List ℕ))) → AreEmpty batches → gathered_with key batches ≡ 0
empty_with key [] none = refl
empty_with key (b ∷ bs) none =
    let here : times key b ≡ 0 = ap (times key) (none 0 (omega arith)) in
    let rest : gathered_with key bs ≡ 0 = empty_with key bs (λ s l. none (suc s) (omega arith)) in
    let sum = sum_by-cons (times key) b bs in omega arith

pub empty_gathered : (batches : List (List (List ℕ))) → AreEmpty batches → AreGathered batches
empty_gathered batches none = record {
  names = λ s l. subst (All (λ key. stripe_of (length batches) key ≡ s)) (sym (none s l)) (λ k d m. absurd (omega arith));
  few = λ s l. let e = ap (λ (b : List (List ℕ)). length b) (none s l) in omega arith;
}

-- one batch is offered
pub offered_with : (key : List ℕ) (old new : PassSide) (before : List (List (List ℕ))) (s : ℕ) → s < length before → MadeCalls old new (gathered_at before s)
    → calls_with key new + gathered_with key (slice_set before s []) ≡ calls_with key old + gathered_with key before
offered_with key old new before s l made =
    let set : sum_by (times key) (slice_set before s []) + times key (get_or before s []) ≡ sum_by (times key) before + times key [] =
    sum_by-set (times key) before s [] [] l in
    let m : calls_with key new ≡ calls_with key old + times key (get_or before s []) = made key in
    let z : times key [] ≡ 0 = refl in
    omega arith

-- one more key is gathered
pub added_with : (key k : List ℕ) (before : List (List (List ℕ))) (s : ℕ) (batch : List (List ℕ)) → s < length before
    → batch ≡ gathered_at before s ++ k ∷ [] → gathered_with key (slice_set before s batch) ≡ gathered_with key before + times key (k ∷ [])
added_with key k before s batch l is =
    let set : sum_by (times key) (slice_set before s batch) + times key (get_or before s []) ≡ sum_by (times key) before + times key batch =
    sum_by-set (times key) before s batch [] l in
    let more : times key batch ≡ times key (get_or before s []) + times key (k ∷ []) = ap (times key) is
    ∙ sum_by-append (λ (l : List ℕ). cond (bytes_eq key l) 1 0) (gathered_at before s) (k ∷ []) in
    omega arith

-- what is so of each batch stays so where one is changed that it is so of
pub set_gathered : (before : List (List (List ℕ))) (s : ℕ) (batch : List (List ℕ)) → AreGathered before → s < length before
    → All (λ key. stripe_of (length before) key ≡ s) batch → length batch < 16 → AreGathered (slice_set before s batch)
set_gathered before s batch are l names few = record { names = names_at; few = few_at }
  where
    same : length (slice_set before s batch) ≡ length before
    same = length-set before s batch

    names_at : (t : ℕ) → t < length (slice_set before s batch)
        → All (λ key. stripe_of (length (slice_set before s batch)) key ≡ t) (gathered_at (slice_set before s batch) t)
    names_at t m =
        subst (λ (n : ℕ). All (λ key. stripe_of n key ≡ t) (gathered_at (slice_set before s batch) t)) (sym same)
        (⊎_elim
        (λ (here : t ≡ s). subst (λ (t : ℕ). All (λ key. stripe_of (length before) key ≡ t) (gathered_at (slice_set before s batch) t)) (sym here)
        (subst (All (λ key. stripe_of (length before) key ≡ s)) (sym (get_or-set_same before s batch [] l)) names))
        (λ (other : t ≢ s). subst (All (λ key. stripe_of (length before) key ≡ t)) (sym (get_or-set_other before s t batch [] other))
        (are.names t (let e = same in omega arith)))
        (cases_eq t s))

    few_at : (t : ℕ) → t < length (slice_set before s batch) → length (gathered_at (slice_set before s batch) t) < 16
    few_at t m =
        ⊎_elim
        (λ (here : t ≡ s). subst (λ (t : ℕ). length (gathered_at (slice_set before s batch) t) < 16) (sym here)
        (subst (λ (b : List (List ℕ)). length b < 16) (sym (get_or-set_same before s batch [] l)) few))
        (λ (other : t ≢ s). subst (λ (b : List (List ℕ)). length b < 16) (sym (get_or-set_other before s t batch [] other))
        (are.few t (let e = same in omega arith)))
        (cases_eq t s)

-- how far the rest was offered: the batches below s are empty
pub record IsRest (start : PassSide) (first : List (List (List ℕ))) (s : ℕ) (pass : PassSide) (batches : List (List (List ℕ))) : Type 0 where
  pub same : IsSamePass start pass
  pub gathered : AreGathered batches
  pub empty : (t : ℕ) → t < s → gathered_at batches t ≡ []
  pub calls : (key : List ℕ) → calls_with key pass + gathered_with key batches ≡ calls_with key start + gathered_with key first

pub rest_more : (start old new : PassSide) (first before after : List (List (List ℕ))) (s : ℕ) → IsRest start first s old before → s < length before
    → after ≡ slice_set before s [] → IsSamePass old new → MadeCalls old new (gathered_at before s) → IsRest start first (s + 1) new after
rest_more start old new first before after s h l is same made =
    subst (IsRest start first (s + 1) new) (sym is) record {
      same = (let a = h.same in record { level = same.level ∙ a.level; number = same.number ∙ a.number });
      gathered = set_gathered before s [] h.gathered l (λ k d m. absurd (omega arith)) (omega arith);
      empty = λ t m.
          ⊎_elim
          (λ (here : t ≡ s). subst (λ (t : ℕ). gathered_at (slice_set before s []) t ≡ []) (sym here) (get_or-set_same before s [] [] l))
          (λ (other : t ≢ s). get_or-set_other before s t [] [] other ∙ h.empty t (below t m other))
          (cases_eq t s);
      calls = λ key. offered_with key old new before s l made ∙ h.calls key;
    }
  where
    below : (t : ℕ) → t < s + 1 → t ≢ s → t < s
    below t m other = ⊎_elim (λ (l : t < s). l) (λ (g : s ≤ t). absurd (other (omega arith))) (cases_lt t s)

-- a list that was lent whole and came back
pub written : {X : Type 0} (len : ℕ) (new old : List X) → length new ≡ length old → len ≡ length old → take len (new ++ drop (length new) old) ≡ new
written len new old same is =
    ap (λ (l : List _). take len (new ++ l)) (drop_all (length new) old (omega arith)) ∙ (ap (take len) (append-nil new) ∙ take_all len new (omega arith))
