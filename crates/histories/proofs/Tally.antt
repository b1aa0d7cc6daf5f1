-- The entries of a history, counted caller by caller.
use Rattle.std.proofs.Common.{◌≡◌, ℕ, ◌+◌, Bool, true, false, cond, ◌==◌, List, [], ◌∷◌, refl, ap, ap₂, sym, ◌∙◌, arith, bytes_eq, eq-eqb, ◌⊎◌, ⊎_elim, inl, inr}
use Rattle.std.specs.List.{sum_by, count_by}
use Rattle.std.proofs.lemmas.List.Sums.{sum_by-cons}
use Rattle.histories.specs.declared.entry.Entry.{Entry}
use Rattle.histories.specs.History.{calls_by}
use Rattle.histories.specs.Counts.{entries_with}

pub sum_both : {X : Type 0} (f g h : X → ℕ) (xs : List X) → ((x : X) → h x ≡ f x + g x) → sum_by h xs ≡ sum_by f xs + sum_by g xs
sum_both f g h [] e = refl
sum_both f g h (x ∷ xs) e =
    let r : sum_by h xs ≡ sum_by f xs + sum_by g xs = sum_both f g h xs e in
    let a = sum_by-cons f x xs in let b = sum_by-cons g x xs in let c = sum_by-cons h x xs in let d = e x in omega arith

pub sum_same : {X : Type 0} (f g : X → ℕ) (xs : List X) → ((x : X) → f x ≡ g x) → sum_by f xs ≡ sum_by g xs
sum_same f g [] e = refl
sum_same f g (x ∷ xs) e = sum_by-cons f x xs ∙ (ap₂ (λ a b. a + b) (e x) (sum_same f g xs e) ∙ sym (sum_by-cons g x xs))

pub sum_none : {X : Type 0} (xs : List X) → sum_by (λ (x : X). 0) xs ≡ 0
sum_none [] = refl
sum_none {X = X} (x ∷ xs) = let r : sum_by (λ (x : X). 0) xs ≡ 0 = sum_none xs in let s = sum_by-cons (λ (x : X). 0) x xs in omega arith

-- how often an entry counts for a caller
abbrev counted : List ℕ → Entry → ℕ → ℕ
counted key e c = cond (e.caller == c) (cond (bytes_eq key e.key) 1 0) 0

one_more_by : (key : List ℕ) (e : Entry) (c : ℕ) (es : List Entry) (b : Bool)
    → entries_with key (cond b (e ∷ calls_by c es) (calls_by c es)) ≡ cond b (cond (bytes_eq key e.key) 1 0) 0 + entries_with key (calls_by c es)
one_more_by key e c es true = sum_by-cons (λ (e : Entry). cond (bytes_eq key e.key) 1 0) e (calls_by c es)
one_more_by key e c es false = omega arith

one_more : (key : List ℕ) (e : Entry) (es : List Entry) (c : ℕ) → entries_with key (calls_by c (e ∷ es)) ≡ counted key e c + entries_with key (calls_by c es)
one_more key e es c = one_more_by key e c es (e.caller == c)

-- the callers among which an entry's own stands count it as often as it stands there
either_way : (b : Bool) (n : ℕ) → cond b n n ≡ n
either_way true n = refl
either_way false n = refl

counts : (e : Entry) (cs : List ℕ) (b : Bool) → sum_by (λ c. cond (e.caller == c) (cond b 1 0) 0) cs ≡ cond b (count_by (λ c. e.caller == c) cs) 0
counts e cs true = refl
counts e cs false = sum_same (λ c. cond (e.caller == c) 0 0) (λ c. 0) cs (λ c. either_way (e.caller == c) 0) ∙ sum_none cs

calls_here : (e : Entry) (es : List Entry) → calls_by e.caller (e ∷ es) ≡ e ∷ calls_by e.caller es
calls_here e es = ap (λ b. cond b (e ∷ calls_by e.caller es) (calls_by e.caller es)) (eq-eqb e.caller e.caller refl)

rest_none_by : (e : Entry) (c : ℕ) (es : List Entry) (b : Bool) → cond b (e ∷ calls_by c es) (calls_by c es) ≡ [] → calls_by c es ≡ []
rest_none_by e c es true is = absurd (cc is)
rest_none_by e c es false is = is

-- where each caller that has an entry stands once among these, the entries with a key are those of these callers with it
pub by_callers : (key : List ℕ) (cs : List ℕ) (history : List Entry) → ((c : ℕ) → (calls_by c history ≡ []) ⊎ (count_by (λ d. c == d) cs ≡ 1))
    → entries_with key history ≡ sum_by (λ c. entries_with key (calls_by c history)) cs
by_callers key cs [] each = sym (sum_none cs)
by_callers key cs (e ∷ es) each =
    let rest : entries_with key es ≡ sum_by (λ c. entries_with key (calls_by c es)) cs = by_callers key cs es
    (λ c. ⊎_elim (λ none. inl (rest_none_by e c es (e.caller == c) none)) inr (each c)) in
    let own : count_by (λ d. e.caller == d) cs ≡ 1 = ⊎_elim (λ (none : calls_by e.caller (e ∷ es) ≡ []). absurd (cc (sym (calls_here e es) ∙ none)))
    (λ (o : count_by (λ d. e.caller == d) cs ≡ 1). o) (each e.caller) in
    let here : sum_by (counted key e) cs ≡ cond (bytes_eq key e.key) 1 0 = counts e cs (bytes_eq key e.key)
    ∙ ap (λ (n : ℕ). cond (bytes_eq key e.key) n 0) own in
    sum_by-cons (λ (e : Entry). cond (bytes_eq key e.key) 1 0) e es
    ∙ (ap₂ (λ a b. a + b) (sym here) rest
    ∙ sym (sum_both (counted key e) (λ c. entries_with key (calls_by c es)) (λ c. entries_with key (calls_by c (e ∷ es))) cs (one_more key e es)))
