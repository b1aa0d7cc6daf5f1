-- The keys of a set after a history are those of its entries.
use Rattle.std.proofs.Common.{◌≡◌, ℕ, zero, suc, ◌<◌, Bool, true, false, cond, ◌||◌, List, [], ◌∷◌, ◌++◌, length, slice_index_or, refl, ap, sym, ◌∙◌, subst, arith, Contains, bytes_eq, ⊎_elim}
use mathlib.Core.List.{IsPrefix}
use Rattle.std.proofs.lemmas.Bool.{false≢true, or_cases, or_left, or_right}
use Rattle.std.proofs.lemmas.List.Folds.{list_any-append}
use Rattle.std.proofs.lemmas.Slice.Eq.{bytes_eq-Decides}
use Rattle.histories.specs.declared.entry.Entry.{Entry}
use Rattle.histories.specs.SetObject.{has_key, after_offer, keys_from, keys_after}
use Rattle.histories.specs.Counts.{keys_of}

pub same_bytes : (xs ys : List ℕ) → xs ≡ ys → bytes_eq xs ys ≡ true
same_bytes xs ys e = (bytes_eq-Decides xs ys).1 e

bytes_same : (xs ys : List ℕ) → bytes_eq xs ys ≡ true → xs ≡ ys
bytes_same xs ys e = (bytes_eq-Decides xs ys).0 e

has_at : (keys : List (List ℕ)) (key : List ℕ) (k : ℕ) → k < length keys → slice_index_or keys k key ≡ key → has_key keys key ≡ true
has_at [] key k below e = absurd (omega arith)
has_at (x ∷ xs) key zero below e = or_left (bytes_eq key x) (has_key xs key) (same_bytes key x (sym e))
has_at (x ∷ xs) key (suc k) below e = or_right (bytes_eq key x) (has_key xs key) (has_at xs key k (omega arith) e)

-- the test, and what it tells
pub has_from_contains : (keys : List (List ℕ)) (key : List ℕ) → Contains keys key → has_key keys key ≡ true
has_from_contains keys key c = has_at keys key c.0 c.1 c.2

pub contains_from_has : (keys : List (List ℕ)) (key : List ℕ) → has_key keys key ≡ true → Contains keys key
contains_from_has [] key e = absurd (false≢true e)
contains_from_has (x ∷ xs) key e = ⊎_elim
    (λ (here : bytes_eq key x ≡ true). (0, omega arith, sym (bytes_same key x here)))
    (λ (there : has_key xs key ≡ true). let c = contains_from_has xs key there in (suc c.0, (let l = c.1 in omega arith), c.2))
    (or_cases (bytes_eq key x) (has_key xs key) e)

hasnt_by : (keys : List (List ℕ)) (key : List ℕ) → ¬ (Contains keys key) → (b : Bool) → has_key keys key ≡ b → has_key keys key ≡ false
hasnt_by keys key none true e = absurd (none (contains_from_has keys key e))
hasnt_by keys key none false e = e

pub hasnt : (keys : List (List ℕ)) (key : List ℕ) → ¬ (Contains keys key) → has_key keys key ≡ false
hasnt keys key none = hasnt_by keys key none (has_key keys key) refl

-- ---- the set after a history
pub keys_from-append : (keys : List (List ℕ)) (xs ys : List Entry) → keys_from keys (xs ++ ys) ≡ keys_from (keys_from keys xs) ys
keys_from-append keys [] ys = refl
keys_from-append keys (x ∷ xs) ys = keys_from-append (after_offer keys x.key) xs ys

or_false : (b : Bool) → (b || false) ≡ b
or_false true = refl
or_false false = refl

or_assoc : (a b c : Bool) → ((a || b) || c) ≡ (a || (b || c))
or_assoc true b c = refl
or_assoc false b c = refl

or_same : (b c : Bool) → (c ≡ true → b ≡ true) → b ≡ (b || c)
or_same true c e = refl
or_same false true e = absurd (false≢true (e refl))
or_same false false e = refl

pub has_after_by : (keys : List (List ℕ)) (x key : List ℕ) (b : Bool) → has_key keys x ≡ b
    → has_key (cond b keys (keys ++ x ∷ [])) key ≡ (has_key keys key || bytes_eq key x)
has_after_by keys x key true e = or_same (has_key keys key) (bytes_eq key x) (λ same. subst (λ k. has_key keys k ≡ true) (sym (bytes_same key x same)) e)
has_after_by keys x key false e = list_any-append (bytes_eq key) keys (x ∷ []) ∙ ap (λ b. has_key keys key || b) (or_false (bytes_eq key x))

-- a set has the keys that it had, and those of the entries
pub has_key-from : (keys : List (List ℕ)) (key : List ℕ) (history : List Entry)
    → has_key (keys_from keys history) key ≡ (has_key keys key || has_key (keys_of history) key)
has_key-from keys key [] = sym (or_false (has_key keys key))
has_key-from keys key (e ∷ es) =
    has_key-from (after_offer keys e.key) key es
    ∙ (ap (λ b. b || has_key (keys_of es) key) (has_after_by keys e.key key (has_key keys e.key) refl)
    ∙ or_assoc (has_key keys key) (bytes_eq key e.key) (has_key (keys_of es) key))

pub has_key-after : (key : List ℕ) (history : List Entry) → has_key (keys_after history) key ≡ has_key (keys_of history) key
has_key-after key history = has_key-from [] key history

pub keys_of-append : (xs ys : List Entry) → keys_of (xs ++ ys) ≡ keys_of xs ++ keys_of ys
keys_of-append [] ys = refl
keys_of-append (x ∷ xs) ys = ap (λ l. x.key ∷ l) (keys_of-append xs ys)

-- a key that isn't in the set isn't in a beginning of the history either
pub not_seen : (key : List ℕ) (seen history : List Entry) → IsPrefix seen history → ¬ (Contains (keys_after history) key) → ¬ (Contains (keys_of seen) key)
not_seen key seen history p none there =
    let has : has_key (keys_of history) key ≡ true =
    subst (λ h. has_key (keys_of h) key ≡ true) p.1 (ap (λ l. has_key l key) (keys_of-append seen p.0)
    ∙ (list_any-append (bytes_eq key) (keys_of seen) (keys_of p.0)
    ∙ or_left (has_key (keys_of seen) key) (has_key (keys_of p.0) key) (has_from_contains (keys_of seen) key there))) in
    none (contains_from_has (keys_after history) key (has_key-after key history ∙ has))
