-- Each key of a history was told New, and once, whatever the order.
use Rattle.std.proofs.Common.{◌≡◌, ◌≢◌, ◌↔◌, ℕ, ◌+◌, Bool, true, false, cond, ◌||◌, ltb, List, [], ◌∷◌, ◌++◌, refl, ap, sym, ◌∙◌, subst, arith, Contains, bytes_eq}
use Rattle.std.specs.List.{AllPairs, count_by}
use Rattle.std.proofs.lemmas.Bool.{false≢true}
use Rattle.std.proofs.lemmas.List.Elements.{Contains-get_or}
use Rattle.std.proofs.lemmas.List.Quantifiers.{all_pairs_push}
use Rattle.std.proofs.lemmas.List.Sums.{sum_by-cons}
use Rattle.std.proofs.lemmas.Bool.Decides.{nat_tests}
use Rattle.histories.specs.declared.entry.Entry.{Entry}
use Rattle.histories.specs.declared.entry.Reply.{Reply}
use Rattle.histories.specs.declared.entry.Reply.TheVariants.{New, Again}
use Rattle.histories.specs.SetObject.{has_key, reply_to, after_offer, keys_from, keys_after}
use Rattle.histories.specs.History.{IsLegal}
use Rattle.histories.specs.Counts.{AreItsKeys, keys_of, new_keys, entries_with}
use Rattle.histories.proofs.Keys.{has_from_contains, contains_from_has, has_key-after}
use Rattle.histories.proofs.News.{kept_keys}

abbrev Apart : List (List ℕ) → Type 0
Apart = AllPairs (λ (x y : List ℕ). x ≢ y)

apart_none : Apart []
apart_none i j d lt short = absurd (omega arith)

apart_by : (keys : List (List ℕ)) (key : List ℕ) (b : Bool) → has_key keys key ≡ b → Apart keys → Apart (cond b keys (keys ++ key ∷ []))
apart_by keys key true e apart = apart
apart_by keys key false e apart = all_pairs_push (λ (x y : List ℕ). x ≢ y) keys key apart
    (λ k d lt same. false≢true (sym e ∙ has_from_contains keys key (subst (Contains keys) same (Contains-get_or keys k d lt))))

-- a set's keys stay apart
apart_from : (keys : List (List ℕ)) (history : List Entry) → Apart keys → Apart (keys_from keys history)
apart_from keys [] apart = apart
apart_from keys (e ∷ es) apart = apart_from (after_offer keys e.key) es (apart_by keys e.key (has_key keys e.key) refl apart)

pub new_apart : (history : List Entry) → IsLegal history → AllPairs (λ x y. x ≢ y) (new_keys history)
new_apart history legal = subst Apart (kept_keys history legal) (apart_from [] history apart_none)

pub has_new : (history : List Entry) (key : List ℕ) → IsLegal history → has_key (new_keys history) key ≡ has_key (keys_of history) key
has_new history key legal = ap (λ keys. has_key keys key) (sym (kept_keys history legal)) ∙ has_key-after key history

-- two lists with the same test have the same keys
same_keys : (xs ys : List (List ℕ)) (key : List ℕ) → has_key xs key ≡ has_key ys key → Contains xs key ↔ Contains ys key
same_keys xs ys key e = (
  (λ there. contains_from_has ys key (sym e ∙ has_from_contains xs key there)),
  (λ there. contains_from_has xs key (e ∙ has_from_contains ys key there)),
)

pub new_exact : (history : List Entry) (key : List ℕ) → IsLegal history → Contains (new_keys history) key ↔ Contains (keys_of history) key
new_exact history key legal = same_keys (new_keys history) (keys_of history) key (has_new history key legal)

-- ---- by how often the keys stand in a list
count_step : (b h : Bool) (m n : ℕ) → h ≡ ltb 0 n → m ≡ cond b 1 0 + n → (b || h) ≡ ltb 0 m
count_step true h m n e f = let g : m ≡ 1 + n = f in grind (arith, nat_tests)
count_step false h m n e f = let g : m ≡ n = f ∙ omega arith in e ∙ ap (ltb 0) (sym g)

-- a key is there just where its count isn't 0
has_counts : (keys : List (List ℕ)) (key : List ℕ) → has_key keys key ≡ ltb 0 (count_by (bytes_eq key) keys)
has_counts [] key = refl
has_counts (x ∷ xs) key = count_step (bytes_eq key x) (has_key xs key) (count_by (bytes_eq key) (x ∷ xs)) (count_by (bytes_eq key) xs) (has_counts xs key)
    (sum_by-cons (λ (k : List ℕ). cond (bytes_eq key k) 1 0) x xs)

entries_count : (history : List Entry) (key : List ℕ) → entries_with key history ≡ count_by (bytes_eq key) (keys_of history)
entries_count [] key = refl
entries_count (e ∷ es) key =
    sum_by-cons (λ (e : Entry). cond (bytes_eq key e.key) 1 0) e es
    ∙ (ap (λ n. cond (bytes_eq key e.key) 1 0 + n) (entries_count es key) ∙ sym (sum_by-cons (λ (k : List ℕ). cond (bytes_eq key k) 1 0) e.key (keys_of es)))

has_listed : (keys : List (List ℕ)) (history : List Entry) (key : List ℕ) → AreItsKeys keys history → has_key (keys_of history) key ≡ has_key keys key
has_listed keys history key counts = has_counts (keys_of history) key ∙ (ap (ltb 0) (sym (entries_count history key) ∙ counts key) ∙ sym (has_counts keys key))

pub new_listed : (keys : List (List ℕ)) (history : List Entry) (key : List ℕ) → IsLegal history → AreItsKeys keys history
    → Contains (new_keys history) key ↔ Contains keys key
new_listed keys history key legal counts = same_keys (new_keys history) keys key (has_new history key legal ∙ has_listed keys history key counts)

-- ---- what the set answers
abbrev code : Reply → ℕ
code New = 0
code Again = 1

reply_by : (b : Bool) → (cond b Again New ≡ New) ↔ (b ≡ false)
reply_by true = ((λ e. absurd (let f : 1 ≡ 0 = ap code e in omega arith)), (λ e. absurd (false≢true (sym e))))
reply_by false = ((λ e. refl), (λ e. refl))

again_by : (b : Bool) → (cond b Again New ≡ Again) ↔ (b ≡ true)
again_by true = ((λ e. refl), (λ e. refl))
again_by false = ((λ e. absurd (let f : 0 ≡ 1 = ap code e in omega arith)), (λ e. absurd (false≢true e)))

missing_by : (keys : List (List ℕ)) (key : List ℕ) (b : Bool) → has_key keys key ≡ b → ¬ (Contains keys key) → b ≡ false
missing_by keys key true e none = absurd (none (contains_from_has keys key e))
missing_by keys key false e none = refl

pub told_new : (history : List Entry) (key : List ℕ) → (reply_to (keys_after history) key ≡ New) ↔ ¬ (Contains (keys_of history) key)
told_new history key =
    let r = reply_by (has_key (keys_after history) key) in (
      (λ e there. false≢true (sym (r.0 e) ∙ (has_key-after key history ∙ has_from_contains (keys_of history) key there))),
      (λ none. r.1 (has_key-after key history ∙ missing_by (keys_of history) key (has_key (keys_of history) key) refl none)),
    )

pub told_again : (history : List Entry) (key : List ℕ) → (reply_to (keys_after history) key ≡ Again) ↔ Contains (keys_of history) key
told_again history key =
    let r = again_by (has_key (keys_after history) key) in (
      (λ e. contains_from_has (keys_of history) key (sym (has_key-after key history) ∙ r.0 e)),
      (λ there. r.1 (has_key-after key history ∙ has_from_contains (keys_of history) key there)),
    )
