-- Histories that share no key, one after the other.
use Rattle.std.proofs.Common.{◌≡◌, ℕ, suc, ◌+◌, Bool, true, false, cond, ◌==◌, ◌&&◌, ◌||◌, ⊎_elim, List, [], ◌∷◌, ◌++◌, Some, slice_get, refl, ap, sym, ◌∙◌, subst, arith, Contains, bytes_eq, eqb-true, append_assoc, append-nil}
use Rattle.std.specs.List.{count_by, filter, flat_map, sum_by}
use Rattle.std.proofs.lemmas.Bool.{false≢true, or_cases, or_left, or_right}
use Rattle.std.proofs.lemmas.List.Elements.{filter-append}
use Rattle.std.proofs.lemmas.List.Folds.{list_any-append}
use Rattle.std.proofs.lemmas.List.Sums.{sum_by-cons, sum_by-append}
use Rattle.histories.specs.declared.entry.Entry.{Entry}
use Rattle.histories.specs.declared.entry.Reply.{Reply}
use Rattle.histories.specs.declared.entry.Reply.TheVariants.{New, Again}
use Rattle.histories.specs.SetObject.{has_key, after_offer, keys_from, keys_after}
use Rattle.histories.specs.History.{IsLegal, IsNumbered, RepliesFrom, calls_by}
use Rattle.histories.specs.Counts.{entries_in, entries_with, is_new, keys_of, new_keys, news_among, news_with}
use Rattle.histories.specs.Joined.{ShareNoKey, joined, one_call_more, renumbered}
use Rattle.histories.proofs.Keys.{contains_from_has, has_key-after, keys_of-append, same_bytes}
use Rattle.histories.proofs.News.{one_new}
use Rattle.histories.proofs.Once.{new_exact}

abbrev together : List (List Entry) → List Entry
together histories = flat_map (λ history. history) histories

-- ---- calls numbered anew
numbered_by : (c : ℕ) (made : ℕ → ℕ) (e : Entry) (es : List Entry) (b : Bool) → (e.caller == c) ≡ b
    → IsNumbered c (cond b (suc (made c)) (made c)) (calls_by c es)
    → IsNumbered c (made c) (cond b (record { caller = e.caller; call = made e.caller; key = e.key; reply = e.reply } ∷ calls_by c es) (calls_by c es))
numbered_by c made e es true is rest = let same : e.caller ≡ c = eqb-true e.caller c is in (same, ap made same, rest)
numbered_by c made e es false is rest = rest

numbered : (c : ℕ) (made : ℕ → ℕ) (history : List Entry) → IsNumbered c (made c) (calls_by c (renumbered made history))
numbered c made [] = tt
numbered c made (e ∷ es) = numbered_by c made e (renumbered (one_call_more e.caller made) es) (e.caller == c) refl (numbered c (one_call_more e.caller made) es)

-- the replies don't depend on the numbers
still_told : (keys : List (List ℕ)) (made : ℕ → ℕ) (history : List Entry) → RepliesFrom keys history → RepliesFrom keys (renumbered made history)
still_told keys made [] told = tt
still_told keys made (e ∷ es) told = (told.0, still_told (after_offer keys e.key) (one_call_more e.caller made) es told.1)

told_after : (keys : List (List ℕ)) (xs ys : List Entry) → RepliesFrom keys xs → RepliesFrom (keys_from keys xs) ys → RepliesFrom keys (xs ++ ys)
told_after keys [] ys first second = second
told_after keys (x ∷ xs) ys first second = (first.0, told_after (after_offer keys x.key) xs ys first.1 second)

-- ---- a set that has other keys besides
has_beside : (more keys : List (List ℕ)) (key : List ℕ) → has_key more key ≡ false → has_key (more ++ keys) key ≡ has_key keys key
has_beside more keys key none = list_any-append (bytes_eq key) more keys ∙ ap (λ b. b || has_key keys key) none

offer_beside : (more keys : List (List ℕ)) (key : List ℕ) (b : Bool)
    → cond b (more ++ keys) ((more ++ keys) ++ key ∷ []) ≡ more ++ cond b keys (keys ++ key ∷ [])
offer_beside more keys key true = refl
offer_beside more keys key false = append_assoc more keys (key ∷ [])

hasnt_first : (b c : Bool) → (b || c) ≡ false → b ≡ false
hasnt_first true c e = e
hasnt_first false c e = refl

own_key : (e : Entry) (es : List Entry) → has_key (keys_of (e ∷ es)) e.key ≡ true
own_key e es = or_left (bytes_eq e.key e.key) (has_key (keys_of es) e.key) (same_bytes e.key e.key refl)

later_key : (e : Entry) (es : List Entry) (key : List ℕ) → has_key (keys_of es) key ≡ true → has_key (keys_of (e ∷ es)) key ≡ true
later_key e es key there = or_right (bytes_eq key e.key) (has_key (keys_of es) key) there

told_beside : (more keys : List (List ℕ)) (history : List Entry) → ((key : List ℕ) → has_key (keys_of history) key ≡ true → has_key more key ≡ false)
    → RepliesFrom keys history → RepliesFrom (more ++ keys) history
told_beside more keys [] apart told = tt
told_beside more keys (e ∷ es) apart told =
    let same : has_key (more ++ keys) e.key ≡ has_key keys e.key = has_beside more keys e.key (apart e.key (own_key e es)) in
    let next : after_offer (more ++ keys) e.key ≡ more ++ after_offer keys e.key = ap (λ b. cond b (more ++ keys) ((more ++ keys) ++ e.key ∷ [])) same
    ∙ offer_beside more keys e.key (has_key keys e.key) in (
      told.0 ∙ ap (λ b. cond b Again New) (sym same),
      subst (λ set. RepliesFrom set es) (sym next) (told_beside more (after_offer keys e.key) es (λ key there. apart key (later_key e es key there)) told.1),
    )

-- ---- all of them
-- a key of one of the histories
found_in : (histories : List (List Entry)) (key : List ℕ) → has_key (keys_of (together histories)) key ≡ true
    → (s : ℕ) × (history : List Entry) × (slice_get histories s ≡ Some history) × Contains (keys_of history) key
found_in [] key there = absurd (false≢true there)
found_in (h ∷ hs) key there = ⊎_elim
    (λ (here : has_key (keys_of h) key ≡ true). (0, h, refl, contains_from_has (keys_of h) key here))
    (λ (other : has_key (keys_of (together hs)) key ≡ true). let f = found_in hs key other in (suc f.0, f.1, f.2, f.3))
    (or_cases (has_key (keys_of h) key) (has_key (keys_of (together hs)) key)
    (sym (list_any-append (bytes_eq key) (keys_of h) (keys_of (together hs))) ∙ (ap (λ keys. has_key keys key) (sym (keys_of-append h (together hs))) ∙ there)))

missing_by : (b : Bool) → (b ≡ true → ⊥) → b ≡ false
missing_by true none = absurd (none refl)
missing_by false none = refl

-- what a later history has is none of the first one's
apart_first : (h : List Entry) (hs : List (List Entry)) → ShareNoKey (h ∷ hs) → (key : List ℕ) → has_key (keys_of (together hs)) key ≡ true
    → has_key (keys_after h) key ≡ false
apart_first h hs apart key there =
    let f = found_in hs key there in
    missing_by (has_key (keys_after h) key) (λ first.
    let same : 0 ≡ suc f.0 = apart 0 (suc f.0) h f.1 refl f.2 key (contains_from_has (keys_of h) key (sym (has_key-after key h) ∙ first)) f.3 in omega arith)

apart_rest : (h : List Entry) (hs : List (List Entry)) → ShareNoKey (h ∷ hs) → ShareNoKey hs
apart_rest h hs apart s t first second at_s at_t key a b = let same : suc s ≡ suc t = apart (suc s) (suc t) first second at_s at_t key a b in omega arith

told_all : (histories : List (List Entry)) → ((s : ℕ) (history : List Entry) → slice_get histories s ≡ Some history → IsLegal history)
    → ShareNoKey histories → RepliesFrom [] (together histories)
told_all [] legal apart = tt
told_all (h ∷ hs) legal apart =
    let rest : RepliesFrom [] (together hs) = told_all hs (λ s history at. legal (suc s) history at) (apart_rest h hs apart) in
    let first : IsLegal h = legal 0 h refl in
    told_after [] h (together hs) first.replies
    (subst (λ set. RepliesFrom set (together hs)) (append-nil (keys_after h)) (told_beside (keys_after h) [] (together hs) (apart_first h hs apart) rest))

pub joined_legal : (histories : List (List Entry)) → ((s : ℕ) (history : List Entry) → slice_get histories s ≡ Some history → IsLegal history)
    → ShareNoKey histories → IsLegal (joined histories)
joined_legal histories legal apart = record {
  replies = still_told [] (λ _. 0) (together histories) (told_all histories legal apart);
  numbers = λ c. numbered c (λ _. 0) (together histories);
}

-- ---- entries and keys stay
still_counted : (p : Reply → List ℕ → Bool) (made : ℕ → ℕ) (history : List Entry)
    → count_by (λ (e : Entry). p e.reply e.key) (renumbered made history) ≡ count_by (λ (e : Entry). p e.reply e.key) history
still_counted p made [] = refl
still_counted p made (e ∷ es) =
    sum_by-cons (λ (e : Entry). cond (p e.reply e.key) 1 0) (record { caller = e.caller; call = made e.caller; key = e.key; reply = e.reply })
    (renumbered (one_call_more e.caller made) es)
    ∙ (ap (λ n. cond (p e.reply e.key) 1 0 + n) (still_counted p (one_call_more e.caller made) es)
    ∙ sym (sum_by-cons (λ (e : Entry). cond (p e.reply e.key) 1 0) e es))

counted_together : (p : Entry → Bool) (histories : List (List Entry)) → count_by p (together histories) ≡ sum_by (count_by p) histories
counted_together p [] = refl
counted_together p (h ∷ hs) =
    sum_by-append (λ (e : Entry). cond (p e) 1 0) h (together hs)
    ∙ (ap (λ n. count_by p h + n) (counted_together p hs) ∙ sym (sum_by-cons (count_by p) h hs))

pub joined_entries : (histories : List (List Entry)) (key : List ℕ) → entries_with key (joined histories) ≡ entries_in histories key
joined_entries histories key = still_counted (λ _. bytes_eq key) (λ _. 0) (together histories) ∙ counted_together (λ (e : Entry). bytes_eq key e.key) histories

pub joined_news : (histories : List (List Entry)) (key : List ℕ) → news_with key (joined histories) ≡ news_among histories key
joined_news histories key = still_counted (λ reply other. is_new reply && bytes_eq key other) (λ _. 0) (together histories)
    ∙ counted_together (λ (e : Entry). is_new e.reply && bytes_eq key e.key) histories

new_still_by : (made : ℕ → ℕ) (e : Entry) (xs ys : List Entry) (b : Bool) → keys_of xs ≡ keys_of ys
    → keys_of (cond b (record { caller = e.caller; call = made e.caller; key = e.key; reply = e.reply } ∷ xs) xs) ≡ keys_of (cond b (e ∷ ys) ys)
new_still_by made e xs ys true same = ap (λ keys. e.key ∷ keys) same
new_still_by made e xs ys false same = same

new_still : (made : ℕ → ℕ) (history : List Entry) → new_keys (renumbered made history) ≡ new_keys history
new_still made [] = refl
new_still made (e ∷ es) = new_still_by made e (filter (λ (e : Entry). is_new e.reply) (renumbered (one_call_more e.caller made) es))
    (filter (λ (e : Entry). is_new e.reply) es) (is_new e.reply)
    (new_still (one_call_more e.caller made) es)

new_together : (histories : List (List Entry)) → new_keys (together histories) ≡ flat_map new_keys histories
new_together [] = refl
new_together (h ∷ hs) =
    ap keys_of (filter-append (λ (e : Entry). is_new e.reply) h (together hs))
    ∙ (keys_of-append (filter (λ (e : Entry). is_new e.reply) h) (filter (λ (e : Entry). is_new e.reply) (together hs))
    ∙ ap (λ keys. new_keys h ++ keys) (new_together hs))

pub joined_new : (histories : List (List Entry)) → new_keys (joined histories) ≡ flat_map new_keys histories
joined_new histories = new_still (λ _. 0) (together histories) ∙ new_together histories

-- a key that was told New in one of the histories was told New once in all
pub once_among : (histories : List (List Entry)) (key : List ℕ) → IsLegal (joined histories) → Contains (flat_map new_keys histories) key
    → news_among histories key ≡ 1
once_among histories key legal new =
    let there : Contains (new_keys (joined histories)) key = subst (λ (keys : List (List ℕ)). Contains keys key) (sym (joined_new histories)) new in
    sym (joined_news histories key) ∙ one_new (joined histories) key legal ((new_exact (joined histories) key legal).0 there)
