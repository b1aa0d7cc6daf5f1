-- The masks in a table, listed.
use Rattle.std.proofs.Common.{◌≡◌, ℕ, zero, suc, ◌+◌, ◌*◌, ◌/◌, ◌%◌, ◌^◌, ◌<◌, refl, sym, ◌∙◌, ap, subst, arith, cond, Bool, true, false, inl, inr, ◌⊎◌, ◌↔◌, ◌||◌, List, [], ◌∷◌, length, IsTrue, replicate, bit_or, slice_index, slice_set}
use Rattle.std.specs.Bool.{◌==◌}
use Rattle.std.specs.List.{Contains, filter, range_with_len}
use Rattle.std.specs.List.Sorted.{IsStrictlyIncreasing}
use Rattle.std.proofs.lemmas.Bool.{false≢true, eqb-true, or_cases, or_left, or_right}
use Rattle.std.proofs.lemmas.List.Elements.{All-contains, All-contains_itself, All-filter, filter_passes, Contains-append_cases, Contains-append_right}
use Rattle.std.proofs.lemmas.List.FromFn.{length-range_with_len, get_or-range_with_len}
use Rattle.std.proofs.lemmas.List.Kept.{IsStrictlyIncreasing-filter}
use Rattle.matrix_lemmas.proofs.Sums.{same_number}
use Rattle.matroid_theory.specs.Tables.{has}
use Rattle.represent.specs.Tables.{masks_below}
use Rattle.matrix_lemmas.proofs.TableBits.{has_none, has_more}

-- what passes a test is kept
kept : (p : ℕ → Bool) (xs : List ℕ) (X : ℕ) → Contains xs X → p X ≡ true → Contains (filter p xs) X
kept p [] X c t = absurd (let l = c.1 in omega arith)
kept p (x ∷ xs) X c t =
    elim (Contains-append_cases (x ∷ []) xs X c) [
      | inl o ↦ at_head (p x) (ap p (first o) ∙ t) (first o)
      | inr o ↦ behind (p x) (kept p xs X o t)
    ]
  where
    first : Contains (x ∷ []) X → x ≡ X
    first (zero, l, e) = e
    first (suc k, l, e) = absurd (omega arith)

    at_head : (b : Bool) → b ≡ true → x ≡ X → Contains (cond b (x ∷ filter p xs) (filter p xs)) X
    at_head true e h = (0, omega arith, h)
    at_head false e h = absurd (false≢true e)

    behind : (b : Bool) → Contains (filter p xs) X → Contains (cond b (x ∷ filter p xs) (filter p xs)) X
    behind true h = Contains-append_right (x ∷ []) (filter p xs) X h
    behind false h = h

none_kept : (p : ℕ → Bool) (xs : List ℕ) → ((x : ℕ) → p x ≡ false) → filter p xs ≡ []
none_kept p [] h = refl
none_kept p (x ∷ xs) h = ap (λ (b : Bool). cond b (x ∷ filter p xs) (filter p xs)) (h x) ∙ none_kept p xs h

pub contains_masks : (n : ℕ) (words : List ℕ) (X : ℕ) → Contains (masks_below n words) X ↔ ((X < n) × IsTrue (has words X))
unfolding masks_below
contains_masks n words X = (
  (λ c. (
    in_range (All-contains (Contains (range_with_len 0 n)) (filter (has words) (range_with_len 0 n)) X
        (All-filter (has words) (Contains (range_with_len 0 n)) (range_with_len 0 n) (All-contains_itself (range_with_len 0 n))) c),
    All-contains (λ x. has words x ≡ true) (filter (has words) (range_with_len 0 n)) X (filter_passes (has words) (range_with_len 0 n)) c,
  )),
  (λ w. kept (has words) (range_with_len 0 n) X (
    X,
    (let e : length (range_with_len 0 n) ≡ n = length-range_with_len 0 n in let l : X < n = w.0 in
        omega arith),
    get_or-range_with_len 0 n X X w.0 ∙ omega arith,
  ) w.1),
)
  where
    in_range : Contains (range_with_len 0 n) X → X < n
    in_range (k, l, e) =
        let s : length (range_with_len 0 n) ≡ n = length-range_with_len 0 n in
        let g : 0 + k ≡ X = sym (get_or-range_with_len 0 n k X (omega arith)) ∙ e in
        omega arith

pub rising_masks : (n : ℕ) (words : List ℕ) → IsStrictlyIncreasing (masks_below n words)
unfolding masks_below
rising_masks n words = IsStrictlyIncreasing-filter (has words) (range_with_len 0 n) (λ k l.
    let s : length (range_with_len 0 n) ≡ n = length-range_with_len 0 n in
    let a = get_or-range_with_len 0 n k 0 (omega arith) in
    let b = get_or-range_with_len 0 n (k + 1) 0 (omega arith) in
    omega arith)

pub no_masks : (n m : ℕ) → masks_below n (replicate m 0) ≡ []
unfolding masks_below
no_masks n m = none_kept (has (replicate m 0)) (range_with_len 0 n) (has_none m)

-- one more mask
pub more_masks : (n : ℕ) (words new : List ℕ) (set : ℕ) → set < n → ((X : ℕ) → has new X ≡ (has words X || (set == X))) → (X : ℕ)
    → Contains (masks_below n new) X ↔ (Contains (masks_below n words) X ⊎ (set ≡ X))
more_masks n words new set below e X =
    let a = contains_masks n words X in
    let b = contains_masks n new X in (
      (λ c. let w = b.0 c in elim (or_cases (has words X) (set == X) (sym (e X) ∙ w.1)) [
        | inl o ↦ inl (a.1 (w.0, o))
        | inr o ↦
            inr (eqb-true set X o)
      ]),
      (λ d. elim d [
        | inl c ↦ (let w = a.0 c in b.1 (w.0, e X ∙ or_left (has words X) (set == X) w.1))
        | inr s ↦ b.1 (subst (λ (x : ℕ). x < n) s below, e X ∙ or_right (has words X) (set == X) (ap (λ x. x == X) s ∙ same_number X))
      ]),
    )

-- so a mask is put into the table
pub put_mask : (n : ℕ) (words old : List ℕ) → masks_below n words ≡ old → (set word bit : ℕ) → word ≡ set / 64 → bit ≡ set % 64
    → word < length words → set < n → (X : ℕ)
    → Contains (masks_below n (slice_set words word (bit_or (slice_index words word) (1 * 2 ^ bit % 2 ^ 64)))) X ↔ (Contains old X ⊎ (set ≡ X))
put_mask n words old e set word bit w b l below X =
    subst (λ (old : List ℕ). Contains (masks_below n (slice_set words word (bit_or (slice_index words word) (1 * 2 ^ bit % 2 ^ 64)))) X ↔
    (Contains old X ⊎ (set ≡ X))) e
    (more_masks n words (slice_set words word (bit_or (slice_index words word) (1 * 2 ^ bit % 2 ^ 64))) set below
    (has_more words set word bit w b l) X)
