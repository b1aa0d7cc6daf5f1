-- The list of the deques that were found empty.
use Rattle.std.proofs.Common.{◌≡◌, ◌≢◌, ℕ, zero, suc, ◌+◌, ◌-◌, ◌<◌, ◌≤◌, ◌==◌, cond, nat_lt, Option, None, Some, MatchOption, List, [], ◌∷◌, ◌++◌, Contains, sym, ap, ◌∙◌, subst, ⊎_elim, append_assoc, append-nil, arith, inl, inr}
use Rattle.std.proofs.lemmas.Bool.Decides.{nat_tests}
use Rattle.std.proofs.lemmas.Bool.{cases_eq}
use Rattle.std.proofs.lemmas.List.Elements.{Contains-append_left, Contains-append_cases, Contains-push, Contains-push_cases}
use Rattle.steal_deque.specs.Deque.{one, times}
use Rattle.steal_pool.specs.Ring.{ring}
use mathlib.Core.List.{IsPrefix}
use Rattle.steal_pool.specs.Shift.{visited}
use Rattle.steal_deque.proofs.Steps.{times_same}
use Rattle.steal_pool.proofs.Filled.{ring_below}

visited_more : (deques number old more : ℕ) → IsPrefix (visited deques number old) (visited deques number (old + more))
visited_more deques number old zero = ([], append-nil (visited deques number old) ∙ (let e : old ≡ old + zero = omega arith in ap (visited deques number) e))
visited_more deques number old (suc m) =
    let h = visited_more deques number old m in
    let e : old + suc m ≡ suc (old + m) = omega arith in (
      h.0 ++ ring deques number (old + m) ∷ [],
      sym (append_assoc (visited deques number old) h.0 (ring deques number (old + m) ∷ []))
          ∙ ap (λ (l : List ℕ). l ++ ring deques number (old + m) ∷ []) h.1 ∙ sym (ap (visited deques number) e),
    )

pub visited_grow : (deques number old new : ℕ) → old ≤ new → IsPrefix (visited deques number old) (visited deques number new)
visited_grow deques number old new le =
    subst (λ (n : ℕ). IsPrefix (visited deques number old) (visited deques number n)) (let e : old + (new - old) ≡ new = omega arith in e)
    (visited_more deques number old (new - old))

-- the place on the ring at which a deque comes
place : ℕ → ℕ → ℕ → ℕ
place deques number d = cond (nat_lt d number) (d + deques - number) (d - number)

ring_place : (deques number d : ℕ) → number < deques → d < deques → ring deques number (place deques number d) ≡ d
unfolding place
ring_place deques number d a b = grind (arith, nat_tests)

place_below : (deques number d : ℕ) → number < deques → d < deques → place deques number d < deques
unfolding place
place_below deques number d a b = grind (arith, nat_tests)

visited_have : (deques number n j : ℕ) → j < n → Contains (visited deques number n) (ring deques number j)
visited_have deques number zero j l = absurd (omega arith)
visited_have deques number (suc n) j l =
    ⊎_elim
    (λ (is : j ≡ n). subst (λ (i : ℕ). Contains (visited deques number n ++ ring deques number n ∷ []) (ring deques number i)) (sym is)
    (Contains-push (visited deques number n) (ring deques number n)))
    (λ (isnt : j ≢ n). Contains-append_left (visited deques number n) (ring deques number n ∷ []) (ring deques number j)
    (visited_have deques number n j (omega arith)))
    (cases_eq j n)

visited_all : (deques number d : ℕ) → number < deques → d < deques → Contains (visited deques number deques) d
visited_all deques number d a b = subst (Contains (visited deques number deques)) (ring_place deques number d a b)
    (visited_have deques number deques (place deques number d) (place_below deques number d a b))

ring_one : (deques number i j : ℕ) → number < deques → i < j → j < deques → ring deques number i ≡ ring deques number j → ⊥
ring_one deques number i j a b c e = grind (arith, nat_tests)

pub nothing_in : (x : ℕ) → Contains [] x → ⊥
nothing_in x h = let l : h.0 < 0 = h.1 in omega arith

visited_lack : (deques number n j : ℕ) → number < deques → n ≤ j → j < deques → Contains (visited deques number n) (ring deques number j) → ⊥
visited_lack deques number zero j a b c h = nothing_in (ring deques number j) h
visited_lack deques number (suc n) j a b c h =
    ⊎_elim (λ (old : Contains (visited deques number n) (ring deques number j)). visited_lack deques number n j a (omega arith) c old)
    (λ (new : ring deques number n ≡ ring deques number j). ring_one deques number n j a (omega arith) c new)
    (Contains-push_cases (visited deques number n) (ring deques number n) (ring deques number j) h)

abbrev pub HasAll : ℕ → ℕ → ℕ → Type 0
HasAll deques number done = (d : ℕ) → d < deques → Contains (visited deques number done) d

pub ended_from : (deques number done : ℕ) (r : Option ℕ) → number < deques → MatchOption r (done ≡ deques) (λ _. done < deques)
    → MatchOption r (HasAll deques number done) (λ _. HasAll deques number done → ⊥)
ended_from deques number done None own h = subst (λ (n : ℕ). HasAll deques number n) (sym h) (λ d l. visited_all deques number d own l)
ended_from deques number done (Some p) own h = λ all. visited_lack deques number done done own (omega arith) h
    (all (ring deques number done) (ring_below deques number done own h))

-- a number that stands nowhere in a list
pub not_among : (x : ℕ) (xs : List ℕ) → times x xs ≡ 0 → ¬ (Contains xs x)
not_among x [] none h = nothing_in x h
not_among x (y ∷ ys) none h =
    ⊎_elim
    (λ (here : y ≡ x). let o : one (x == y) ≡ 1 = ap (λ (z : ℕ). one (x == z)) here ∙ times_same x in absurd (omega arith))
    (λ (there : Contains ys x). not_among x ys (omega arith) there)
    (⊎_elim (λ (a : Contains (y ∷ []) x). ⊎_elim (λ (none : Contains [] x). absurd (nothing_in x none)) (λ (is : y ≡ x). inl is)
    (Contains-push_cases [] y x a)) (λ (b : Contains ys x). inr b) (Contains-append_cases (y ∷ []) ys x h))

pub ended_as : {A B : Type 0} (r : Option ℕ) → MatchOption r A (λ _. A → ⊥) → (A → B) → (B → A) → MatchOption r B (λ _. B → ⊥)
ended_as None h to from = to h
ended_as (Some p) h to from = λ b. h (from b)

-- what is new to the old takings, in words that clauses use
pub new_to : (parents p : ℕ) (first old new : List ℕ) → old ≡ first → (p < parents) × (times p old ≡ 0) × (new ≡ old ++ p ∷ [])
    → (p < parents) × ¬ (Contains first p) × (new ≡ first ++ p ∷ [])
new_to parents p first old new same h = (h.0, not_among p first (ap (times p) (sym same) ∙ h.1), h.2 ∙ ap (λ (l : List ℕ). l ++ p ∷ []) same)
