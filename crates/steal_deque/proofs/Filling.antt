-- A deque's share of the numbers, and how it is filled.
use Rattle.std.proofs.Common.{◌≡◌, ◌≢◌, ℕ, zero, suc, ◌+◌, ◌-◌, ◌%◌, ◌^◌, min, ◌<◌, ◌≤◌, ◌==◌, ◌⊎◌, Bool, true, false, cond, List, [], ◌∷◌, ◌++◌, sym, refl, ap, ◌∙◌, ⊎_elim, arith, inl, inr}
use Rattle.std.proofs.lemmas.Bool.{cases_eq, cases_lt}
use Rattle.std.proofs.Math.Nat.{mod-eq_of_lt, mod-add-mod, add-mod_right}
use Rattle.std.proofs.lemmas.Bool.Decides.{nat_tests}
use Rattle.steal_deque.specs.declared.deque.Knowledge.{Knowledge}
use Rattle.steal_deque.specs.declared.deque.Task.TheVariants.{Number}
use Rattle.steal_deque.specs.Deque.{knowledge, one, times, share, PutTask, IsFilled}
use Rattle.steal_deque.proofs.Steps.{times-append, times_same}

pub same_from : (a b : ℕ) → (a == b) ≡ true → a ≡ b
same_from a b e = grind (arith, nat_tests)

pub one_other : (x y : ℕ) → x ≢ y → one (x == y) ≡ 0
one_other x y apart = let e : (x == y) ≡ false = grind (arith, nat_tests) in ap one e

-- which numbers a share has, each once
pub share_times : (deques number x n : ℕ) → (times x (share deques number n) ≡ 0) ⊎ ((times x (share deques number n) ≡ 1) × (x < n) × (x % deques ≡ number))
share_times deques number x zero = inl refl
share_times deques number x (suc p) =
    elim (p % deques == number) as (λ b. (p % deques == number) ≡ b → (times x (cond b (share deques number p ++ p ∷ []) (share deques number p)) ≡ 0)
    ⊎ ((times x (cond b (share deques number p ++ p ∷ []) (share deques number p)) ≡ 1) × (x < suc p) × (x % deques ≡ number))) [
      | true ↦ λ e.
          let rest : p % deques ≡ number = same_from (p % deques) number e in
          let sum : times x (share deques number p ++ p ∷ []) ≡ times x (share deques number p) + (one (x == p) + 0) = times-append x
          (share deques number p) (p ∷ []) in
          ⊎_elim
          (λ (is : x ≡ p).
          let o : one (x == p) ≡ 1 = ap (λ (y : ℕ). one (x == y)) (sym is) ∙ times_same x in
          let r : x % deques ≡ number = ap (λ (y : ℕ). y % deques) is ∙ rest in
          ⊎_elim (λ (z : times x (share deques number p) ≡ 0). inr (omega arith, omega arith, r))
          (λ (h : (times x (share deques number p) ≡ 1) × (x < p) × (x % deques ≡ number)). let l = h.1 in absurd (omega arith))
          (share_times deques number x p))
          (λ (isnt : x ≢ p).
          let o : one (x == p) ≡ 0 = one_other x p isnt in
          ⊎_elim (λ (z : times x (share deques number p) ≡ 0). inl (omega arith))
          (λ (h : (times x (share deques number p) ≡ 1) × (x < p) × (x % deques ≡ number)). let l = h.1 in let t = h.0 in
          inr (omega arith, omega arith, h.2)) (share_times deques number x p))
          (cases_eq x p)
      | false ↦ λ e. ⊎_elim (λ z. inl z) (λ (h : (times x (share deques number p) ≡ 1) × (x < p) × (x % deques ≡ number)). inr
          (h.0, omega arith, h.2)) (share_times deques number x p)
    ] refl

pub rest_small : (x w : ℕ) → x < w → x % w ≡ x
rest_small x w l = mod-eq_of_lt l

-- between two numbers of a deque there are as many as there are deques
pub rest_moves : (p i w : ℕ) → 0 < i → i < w → (p + i) % w ≢ p % w
rest_moves p i w some few same =
    let r : ℕ = p % w in
    let below : r < w = omega arith in
    let e : (r + i) % w ≡ (p + i) % w = mod-add-mod p w i in
    ⊎_elim
    (λ (l : r + i < w). let s = rest_small (r + i) w l in absurd (omega arith))
    (λ (m : w ≤ r + i).
    let back : ℕ = r + i - w in
    let sum : back + w ≡ r + i = omega arith in
    let t : (back + w) % w ≡ back % w = add-mod_right back w in
    let u : (back + w) % w ≡ (r + i) % w = ap (λ (y : ℕ). y % w) sum in
    let s = rest_small back w (omega arith) in absurd (omega arith))
    (cases_lt (r + i) w)

share_own : (deques number p : ℕ) → p % deques ≡ number → share deques number (suc p) ≡ share deques number p ++ p ∷ []
share_own deques number p is = let e : (p % deques == number) ≡ true = grind (arith, nat_tests) in
    ap (λ (b : Bool). cond b (share deques number p ++ p ∷ []) (share deques number p)) e

share_other : (deques number p : ℕ) → p % deques ≢ number → share deques number (suc p) ≡ share deques number p
share_other deques number p isnt = let e : (p % deques == number) ≡ false = grind (arith, nat_tests) in
    ap (λ (b : Bool). cond b (share deques number p ++ p ∷ []) (share deques number p)) e

share_gap : (deques number p j : ℕ) → p % deques ≡ number → j < deques → share deques number (suc p + j) ≡ share deques number p ++ p ∷ []
share_gap deques number p zero is l = let e : suc p + zero ≡ suc p = omega arith in ap (share deques number) e ∙ share_own deques number p is
share_gap deques number p (suc j) is l =
    let e : suc p + suc j ≡ suc (p + suc j) = omega arith in
    let f : suc p + j ≡ p + suc j = omega arith in
    ap (share deques number) e ∙ share_other deques number (p + suc j)
    (λ (z : (p + suc j) % deques ≡ number). rest_moves p (suc j) deques (omega arith) l (z ∙ sym is))
    ∙ ap (share deques number) (sym f) ∙ share_gap deques number p j is (omega arith)

share_before : (deques number p : ℕ) → number < deques → p ≤ number → share deques number p ≡ []
share_before deques number zero a b = refl
share_before deques number (suc p) a b =
    let small : p % deques ≡ p = rest_small p deques (omega arith) in
    share_other deques number p (λ (z : p % deques ≡ number). absurd (omega arith)) ∙ share_before deques number p a (omega arith)

-- A deque was given the numbers of its share that lie below `next`, which is its next number or beyond the parents
pub record IsFilling (deques number parents next : ℕ) (flavor : ℕ) (v : Knowledge) : Type 0 where
  pub fifo : flavor ≡ 0
  pub view : v ≡ knowledge 64 (share deques number (min next parents)) [] false false
  pub next_own : next < parents → next % deques ≡ number

pub filling_first : (deques number parents flavor : ℕ) (v : Knowledge) → number < deques → flavor ≡ 0 → v ≡ knowledge 64 [] [] false false
    → IsFilling deques number parents number flavor v
filling_first deques number parents flavor v below fifo is = record {
  fifo = fifo;
  view = is ∙ ap (λ (l : List ℕ). knowledge 64 l [] false false) (sym (share_before deques number (min number parents) below (omega arith)));
  next_own = λ _. rest_small number deques below;
}

pub filling_more : (deques number parents next after flavor flavor' : ℕ) (v w : Knowledge) → IsFilling deques number parents next flavor v
    → number < deques → next < parents → after ≡ min (next + deques) (2 ^ 64 - 1) → parents < 2 ^ 64
    → flavor' ≡ flavor → PutTask v (Number next) w → IsFilling deques number parents after flavor' w
filling_more deques number parents next after flavor flavor' v w h own more is fits same put =
    let j : ℕ = min after parents - next - 1 in
    let e : suc next + j ≡ min after parents = omega arith in
    let now : min next parents ≡ next = omega arith in
    let all : v.pushed ++ next ∷ [] ≡ share deques number (min after parents) =
    ap (λ (l : List ℕ). l ++ next ∷ []) (ap (λ (u : Knowledge). u.pushed) h.view ∙ ap (share deques number) now)
    ∙ sym (share_gap deques number next j (h.next_own more) (omega arith)) ∙ ap (share deques number) e in
    record {
      fifo = same ∙ h.fifo;
      view = put ∙ ap (λ (u : Knowledge). knowledge u.parts (v.pushed ++ next ∷ []) u.taken u.closed u.ended) h.view
          ∙ ap (λ (l : List ℕ). knowledge 64 l [] false false) all;
      next_own = λ l. let f : after ≡ next + deques = omega arith in ap (λ (y : ℕ). y % deques) f ∙ add-mod_right next deques ∙ h.next_own more;
    }

pub filling_last : (deques number parents next flavor : ℕ) (v : Knowledge) → IsFilling deques number parents next flavor v → parents ≤ next
    → IsFilled flavor v (share deques number parents)
filling_last deques number parents next flavor v h done =
    let e : min next parents ≡ parents = omega arith in
    let view : v ≡ knowledge 64 (share deques number parents) [] false false = h.view ∙ ap (λ (n : ℕ). knowledge 64 (share deques number n) [] false false) e in
    record {
      fifo = h.fifo;
      parts = ap (λ (u : Knowledge). u.parts) view;
      all = ap (λ (u : Knowledge). u.pushed) view;
      none = ap (λ (u : Knowledge). u.taken) view;
      fresh = ap (λ (u : Knowledge). u.ended) view;
    }
