-- The keys that were told New.
use Rattle.std.proofs.Common.{◌≡◌, ℕ, ◌+◌, Bool, true, false, not, cond, ◌||◌, ◌&&◌, List, [], ◌∷◌, ◌++◌, refl, ap, sym, ◌∙◌, arith, Contains, bytes_eq, append_assoc, append-nil}
use Rattle.std.specs.List.{filter}
use Rattle.std.proofs.lemmas.Bool.{false≢true}
use Rattle.std.proofs.lemmas.List.Sums.{sum_by-cons}
use Rattle.std.proofs.lemmas.Slice.Eq.{bytes_eq-Decides}
use Rattle.histories.specs.declared.entry.Entry.{Entry}
use Rattle.histories.specs.declared.entry.Reply.TheVariants.{New, Again}
use Rattle.histories.specs.SetObject.{has_key, reply_to, after_offer, keys_from, keys_after}
use Rattle.histories.specs.History.{RepliesFrom, IsLegal}
use Rattle.histories.specs.Counts.{keys_of, new_keys, is_new, news_with}
use Rattle.histories.proofs.Keys.{has_from_contains, has_after_by}

kept_by : (keys : List (List ℕ)) (e : Entry) (es : List Entry) (b : Bool) → has_key keys e.key ≡ b → e.reply ≡ reply_to keys e.key
    → keys_from (after_offer keys e.key) es ≡ after_offer keys e.key ++ new_keys es → keys_from (after_offer keys e.key) es ≡ keys ++ new_keys (e ∷ es)
kept_by keys e es true is reply rest =
    let again : is_new e.reply ≡ false = ap is_new (reply ∙ ap (λ b. cond b Again New) is) in
    rest ∙ (ap (λ b. cond b keys (keys ++ e.key ∷ []) ++ new_keys es) is
    ∙ ap (λ b. keys ++ keys_of (cond b (e ∷ filter (λ (e : Entry). is_new e.reply) es) (filter (λ (e : Entry). is_new e.reply) es))) (sym again))
kept_by keys e es false is reply rest =
    let new : is_new e.reply ≡ true = ap is_new (reply ∙ ap (λ b. cond b Again New) is) in
    rest ∙ (ap (λ b. cond b keys (keys ++ e.key ∷ []) ++ new_keys es) is ∙ (append_assoc keys (e.key ∷ []) (new_keys es)
    ∙ ap (λ b. keys ++ keys_of (cond b (e ∷ filter (λ (e : Entry). is_new e.reply) es) (filter (λ (e : Entry). is_new e.reply) es))) (sym new)))

-- a set keeps what it had, and the keys that were told New
kept_from : (keys : List (List ℕ)) (history : List Entry) → RepliesFrom keys history → keys_from keys history ≡ keys ++ new_keys history
kept_from keys [] r = sym (append-nil keys)
kept_from keys (e ∷ es) r = kept_by keys e es (has_key keys e.key) refl r.0 (kept_from (after_offer keys e.key) es r.1)

pub kept_keys : (history : List Entry) → IsLegal history → keys_after history ≡ new_keys history
kept_keys history legal = kept_from [] history legal.replies

-- ---- one entry with New
-- what the keys before, the set's answer and the entry's own key make of the count
cases_new : (H K B E : Bool) (n rest m : ℕ) → (B ≡ true → K ≡ H) → n ≡ cond (not H && B) 1 0 → rest ≡ cond (cond H K (K || B)) 0 (cond E 1 0)
    → m ≡ cond K 0 (cond (B || E) 1 0) → n + rest ≡ m
cases_new true true B E n rest m same a b c = let a' : n ≡ 0 = a in let b' : rest ≡ 0 = b in let c' : m ≡ 0 = c in omega arith
cases_new true false true E n rest m same a b c = absurd (false≢true (same refl))
cases_new true false false E n rest m same a b c = let a' : n ≡ 0 = a in let e : rest ≡ m = b ∙ sym c in omega arith
cases_new false true true E n rest m same a b c = absurd (false≢true (sym (same refl)))
cases_new false true false E n rest m same a b c = let a' : n ≡ 0 = a in let b' : rest ≡ 0 = b in let c' : m ≡ 0 = c in omega arith
cases_new false false true E n rest m same a b c = let a' : n ≡ 1 = a in let b' : rest ≡ 0 = b in let c' : m ≡ 1 = c in omega arith
cases_new false false false E n rest m same a b c = let a' : n ≡ 0 = a in let e : rest ≡ m = b ∙ sym c in omega arith

bytes_same : (xs ys : List ℕ) → bytes_eq xs ys ≡ true → xs ≡ ys
bytes_same xs ys e = (bytes_eq-Decides xs ys).0 e

told : (b : Bool) → is_new (cond b Again New) ≡ not b
told true = refl
told false = refl

after_has : (keys : List (List ℕ)) (x key : List ℕ) (b : Bool) → has_key keys x ≡ b
    → has_key (cond b keys (keys ++ x ∷ [])) key ≡ cond b (has_key keys key) (has_key keys key || bytes_eq key x)
after_has keys x key true e = refl
after_has keys x key false e = has_after_by keys x key false e

no_new : (b : Bool) (n : ℕ) → n ≡ 0 → n ≡ cond b 0 (cond false 1 0)
no_new true n e = e
no_new false n e = e

one_new_from : (keys : List (List ℕ)) (key : List ℕ) (history : List Entry) → RepliesFrom keys history
    → news_with key history ≡ cond (has_key keys key) 0 (cond (has_key (keys_of history) key) 1 0)
one_new_from keys key [] r = no_new (has_key keys key) (news_with key []) refl
one_new_from keys key (e ∷ es) r =
    let rest = one_new_from (after_offer keys e.key) key es r.1 in
    let H : Bool = has_key keys e.key in let K : Bool = has_key keys key in let B : Bool = bytes_eq key e.key in let E : Bool = has_key (keys_of es) key in
    sum_by-cons (λ (e : Entry). cond (is_new e.reply && bytes_eq key e.key) 1 0) e es
    ∙ cases_new H K B E (cond (is_new e.reply && bytes_eq key e.key) 1 0) (news_with key es) (cond K 0 (cond (B || E) 1 0))
    (λ same. ap (has_key keys) (bytes_same key e.key same))
    (ap (λ b. cond (b && bytes_eq key e.key) 1 0) (ap is_new r.0 ∙ told H))
    (rest ∙ ap (λ b. cond b 0 (cond E 1 0)) (after_has keys e.key key H refl))
    refl

-- each key of a legal history was told New once
pub one_new : (history : List Entry) (key : List ℕ) → IsLegal history → Contains (keys_of history) key → news_with key history ≡ 1
one_new history key legal there = one_new_from [] key history legal.replies ∙ ap (λ b. cond b 1 0) (has_from_contains (keys_of history) key there)
