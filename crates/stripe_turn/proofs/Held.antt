-- The stripes that a turn holds, by their places.
use Rattle.std.proofs.Common.{◌≡◌, ℕ, zero, suc, ◌-◌, ◌<◌, ◌≤◌, ◌==◌, Bool, true, false, not, cond, eqb, List, [], ◌∷◌, ◌++◌, map, length, take, drop, slice_index, refl, ap, sym, ◌∙◌, subst, arith, Option, None, eqb-true, eq-eqb, ne_eqb, remove, Contains, ⊎_elim}
use Rattle.std.specs.List.{list_any, IsDistinct, AllByRecursion}
use Rattle.std.proofs.lemmas.Bool.{false≢true, or_cases}
use Rattle.std.proofs.lemmas.List.{append-nil, append_assoc}
use Rattle.std.proofs.lemmas.Map.Keys.{IsDistinct-head, IsDistinct-tail, IsDistinct-cons}
use Rattle.std.proofs.lemmas.Map.Steps.{length-le_from_distinct_below}
use Rattle.atomic_table.specs.Table.{Me, turned}
use Rattle.stripe_turn.specs.declared.stripe.Stripe.{Stripe}
use Rattle.stripe_turn.specs.declared.stripe.Tables.{Tables}
use Rattle.stripe_turn.specs.Seen.{without, out_slot, IsTurn, turned_by}

-- ---- turning a list
pub turned_by-more : {A : Type 0} (n m : ℕ) (xs : List (ℕ × A)) → m ≡ suc n → turned (turned_by n xs) ≡ turned_by m xs
turned_by-more zero m xs e = ap (λ k. turned_by k xs) (sym e)
turned_by-more (suc n) m xs e = turned_by-more n (suc n) (turned xs) refl ∙ ap (λ k. turned_by k xs) (sym e)

pub turned_by-front : {A : Type 0} (a b : List (ℕ × A)) → turned_by (length a) (a ++ b) ≡ b ++ a
turned_by-front [] b = sym (append-nil b)
turned_by-front (x ∷ a) b = ap (turned_by (length a)) (append_assoc a b (x ∷ [])) ∙ (turned_by-front a (b ++ x ∷ []) ∙ append_assoc b (x ∷ []) a)

-- ---- the stripes but one
pub without_rest : (x : ℕ) (xs : List ℕ) → AllByRecursion (λ y. eqb x y ≡ false) xs → without x xs ≡ xs
without_rest x [] all = refl
without_rest x (y ∷ ys) all = ap (λ b. cond (not b) (y ∷ without x ys) (without x ys)) all.0 ∙ ap (λ l. y ∷ l) (without_rest x ys all.1)

all_at : (P : ℕ → Type 0) (xs : List ℕ) (k : ℕ) → AllByRecursion P xs → k < length xs → P (slice_index xs k)
all_at P [] k all below = absurd (omega arith)
all_at P (x ∷ xs) zero all below = all.0
all_at P (x ∷ xs) (suc k) all below = all_at P xs k all.1 (omega arith)

all_without_by : (P : ℕ → Type 0) (at x : ℕ) (xs : List ℕ) → P x → AllByRecursion P (without at xs) → (b : Bool)
    → AllByRecursion P (cond (not b) (x ∷ without at xs) (without at xs))
all_without_by P at x xs p all true = all
all_without_by P at x xs p all false = (p, all)

all_without : (P : ℕ → Type 0) (at : ℕ) (xs : List ℕ) → AllByRecursion P xs → AllByRecursion P (without at xs)
all_without P at [] all = tt
all_without P at (x ∷ xs) all = all_without_by P at x xs all.0 (all_without P at xs all.1) (at == x)

distinct_without_by : (at x : ℕ) (xs : List ℕ) → AllByRecursion (λ y. eqb x y ≡ false) xs → IsDistinct eqb (without at xs) → (b : Bool)
    → IsDistinct eqb (cond (not b) (x ∷ without at xs) (without at xs))
distinct_without_by at x xs all d true = d
distinct_without_by at x xs all d false = IsDistinct-cons eqb x (without at xs) (all_without (λ y. eqb x y ≡ false) at xs all) d

distinct_without : (at : ℕ) (xs : List ℕ) → IsDistinct eqb xs → IsDistinct eqb (without at xs)
distinct_without at [] d = d
distinct_without at (x ∷ xs) d = distinct_without_by at x xs (IsDistinct-head eqb x xs d) (distinct_without at xs (IsDistinct-tail eqb x xs d)) (at == x)

-- ---- one more stripe, which isn't held
pub not_among : (at : ℕ) (xs : List ℕ) → ¬ (Contains xs at) → AllByRecursion (λ y. eqb at y ≡ false) xs
not_among at [] none = tt
not_among at (x ∷ xs) none = (ne_eqb at x (λ e. none (0, omega arith, sym e)), not_among at xs (λ c. none (suc c.0, (let l = c.1 in omega arith), c.2)))

any_below : (n q : ℕ) (xs : List ℕ) → AllByRecursion (λ k. k < n) xs → list_any (eqb q) xs ≡ true → q < n
any_below n q [] all e = absurd (false≢true e)
any_below n q (x ∷ xs) all e = ⊎_elim (λ (here : eqb q x ≡ true). subst (λ k. k < n) (sym (eqb-true q x here)) all.0)
    (λ (there : list_any (eqb q) xs ≡ true). any_below n q xs all.1 there) (or_cases (eqb q x) (list_any (eqb q) xs) e)

pub few_held : (held : List ℕ) (at words : ℕ) → IsDistinct eqb held → AllByRecursion (λ k. k < words) held → ¬ (Contains held at) → at < words
    → length held < words
few_held held at words apart within none below =
    let l : length (at ∷ held) ≤ words = length-le_from_distinct_below (at ∷ held) words (IsDistinct-cons eqb at held (not_among at held none) apart)
    (λ q e. any_below words q (at ∷ held) (below, within) e) in omega arith

pub turn_more : (held : List ℕ) (at words : ℕ) (me next : Me (Option Stripe) Tables) → IsTurn held words me → ¬ (Contains held at) → at < words
    → next ≡ (me.0, (at, None) ∷ me.1) → IsTurn (at ∷ held) words next
turn_more held at words me next is none below e = record {
  slots = ap (λ m. m.1) e ∙ ap (λ l. (at, None) ∷ l) is.slots;
  apart = IsDistinct-cons eqb at held (not_among at held none) is.apart;
  within = (below, is.within);
}

-- ---- one stripe less
differ_from : (x at : ℕ) → eqb x at ≡ false → eqb at x ≡ false
differ_from x at e = ne_eqb at x (λ same. false≢true (sym e ∙ eq-eqb x at (sym same)))

pub without_at : (held : List ℕ) (place at : ℕ) → IsDistinct eqb held → place < length held → slice_index held place ≡ at → remove held place ≡ without at held
without_at [] place at apart below here = absurd (omega arith)
without_at (x ∷ xs) zero at apart below here = subst (λ a. xs ≡ without a (x ∷ xs)) here
    (sym (ap (λ b. cond (not b) (x ∷ without x xs) (without x xs)) (eq-eqb x x refl) ∙ without_rest x xs (IsDistinct-head eqb x xs apart)))
without_at (x ∷ xs) (suc place) at apart below here =
    let other : eqb at x ≡ false = differ_from x at
    (subst (λ a. eqb x a ≡ false) here (all_at (λ y. eqb x y ≡ false) xs place (IsDistinct-head eqb x xs apart) (omega arith))) in
    ap (λ l. x ∷ l) (without_at xs place at (IsDistinct-tail eqb x xs apart) (omega arith) here)
    ∙ sym (ap (λ b. cond (not b) (x ∷ without at xs) (without at xs)) other)

split_at : (held : List ℕ) (place at : ℕ) → place < length held → slice_index held place ≡ at
    → map out_slot held ≡ map out_slot (take place held) ++ (at, None) ∷ map out_slot (drop (suc place) held)
split_at [] place at below here = absurd (omega arith)
split_at (x ∷ xs) zero at below here = ap (λ a. (a, None) ∷ map out_slot xs) here
split_at (x ∷ xs) (suc place) at below here = ap (λ l. out_slot x ∷ l) (split_at xs place at (omega arith) here)

map_length : (xs : List ℕ) → length (map out_slot xs) ≡ length xs
map_length [] = refl
map_length (x ∷ xs) = ap suc (map_length xs)

map_both : (xs ys : List ℕ) → map out_slot xs ++ map out_slot ys ≡ map out_slot (xs ++ ys)
map_both [] ys = refl
map_both (x ∷ xs) ys = ap (λ l. out_slot x ∷ l) (map_both xs ys)

take_length : (xs : List ℕ) (n : ℕ) → n ≤ length xs → length (take n xs) ≡ n
take_length xs zero le = refl
take_length [] (suc n) le = absurd (omega arith)
take_length (x ∷ xs) (suc n) le = ap suc (take_length xs n (omega arith))

drop_length : (xs : List ℕ) (n : ℕ) → length (drop n xs) ≡ length xs - n
drop_length xs zero = omega arith
drop_length [] (suc n) = omega arith
drop_length (x ∷ xs) (suc n) = let e : length (drop n xs) ≡ length xs - n = drop_length xs n in omega arith

-- the slots behind the one at this place, and before it
abbrev others : List ℕ → ℕ → List (ℕ × Option Stripe)
others held place = map out_slot (drop (suc place) held) ++ map out_slot (take place held)

pub to_front : (held : List ℕ) (place at : ℕ) (slots turned_slots : List (ℕ × Option Stripe)) → slots ≡ map out_slot held → place < length held
    → slice_index held place ≡ at → turned_slots ≡ turned_by place slots
    → turned_slots ≡ (at, None) ∷ others held place
to_front held place at slots turned_slots is below here e =
    e ∙ (ap (turned_by place) (is ∙ split_at held place at below here)
    ∙ subst (λ n. turned_by n (map out_slot (take place held) ++ (at, None) ∷ map out_slot (drop (suc place) held)) ≡ (at, None) ∷ others held place)
    (map_length (take place held) ∙ take_length held place (omega arith))
    (turned_by-front (map out_slot (take place held)) ((at, None) ∷ map out_slot (drop (suc place) held))))

pub to_back : (held : List ℕ) (place n : ℕ) → n ≡ length held - 1 - place → turned_by n (others held place) ≡ map out_slot (remove held place)
to_back held place n e =
    let count : length (map out_slot (drop (suc place) held)) ≡ n = let l = map_length (drop (suc place) held) in
    let d = drop_length held (suc place) in omega arith in
    subst (λ m. turned_by m (others held place) ≡ map out_slot (take place held) ++ map out_slot (drop (suc place) held))
    count
    (turned_by-front (map out_slot (drop (suc place) held)) (map out_slot (take place held)))
    ∙ map_both (take place held) (drop (suc place) held)

pub turn_less : (held : List ℕ) (place at words : ℕ) (me next : Me (Option Stripe) Tables) → IsTurn held words me → place < length held
    → slice_index held place ≡ at → next.1 ≡ map out_slot (remove held place) → IsTurn (remove held place) words next
turn_less held place at words me next is below here e = record {
  slots = e;
  apart = subst (IsDistinct eqb) (sym (without_at held place at is.apart below here)) (distinct_without at held is.apart);
  within = subst (AllByRecursion (λ k. k < words)) (sym (without_at held place at is.apart below here)) (all_without (λ k. k < words) at held is.within);
}

none_apart : IsDistinct eqb []
unfolding IsDistinct
none_apart = tt

pub turn_none : (held : List ℕ) (words : ℕ) (me : Me (Option Stripe) Tables) → held ≡ [] → me.1 ≡ [] → IsTurn held words me
turn_none held words me is e = subst (λ l. IsTurn l words me) (sym is) record { slots = e; apart = none_apart; within = tt }
