-- What a search in a rising list says, and its parts between two numbers.
use Rattle.std.proofs.Common.{take, drop, length-take, length-drop, ◌≡◌, ℕ, ◌+◌, ◌-◌, ◌<◌, ◌≤◌, ◌∙◌, ap, subst, refl, arith, true, List, length, get_or, inl, inr, Result, Ok, Err, MatchResult, is_ok, ◌↔◌}
use Rattle.std.specs.List.{Contains, slice_index}
use Rattle.std.specs.List.Sorted.{IsStrictlyIncreasing, IsBinarySearchResult, IsNonDecreasingBy}
use Rattle.std.specs.Ordering.{nat_cmp}
use Rattle.std.proofs.lemmas.Grind.{common_steps}
use Rattle.std.proofs.lemmas.Bool.{cases_lt, false≢true}
use Rattle.std.proofs.lemmas.List.{get_or_default}
use Rattle.std.proofs.lemmas.List.Kept.{AllPairs-from_increasing}
use Rattle.std.proofs.lemmas.List.Sorted.{searched, IsNonDecreasingBy-from_default}

rising : (xs : List ℕ) → IsStrictlyIncreasing xs → (i j : ℕ) → i ≤ j → j < length xs → get_or xs i 0 ≤ get_or xs j 0
rising xs h i j l m = elim (cases_lt i j) [
  | inl b ↦ (let k : get_or xs i 0 < get_or xs j 0 = AllPairs-from_increasing xs h i j 0 b m in omega arith)
  | inr g ↦ (let e : i ≡ j = omega arith in subst (λ k. get_or xs i 0 ≤ get_or xs k 0) e (omega arith))
]

-- whether a search in a rising list finds a number is whether it stands there
pub search_finds : (xs : List ℕ) (x : ℕ) (r : Result ℕ ℕ) → IsStrictlyIncreasing xs → IsBinarySearchResult (λ y. nat_cmp y x) xs r →
    (is_ok r ≡ true) ↔ Contains xs x
search_finds xs x r h s = at r (searched xs x r s (rising xs h))
  where
    at : (r : Result ℕ ℕ) → MatchResult r (λ i. (i < length xs) × (get_or xs i 0 ≡ x))
        (λ i. (i ≤ length xs) × ((k : ℕ) → k < i → get_or xs k 0 < x) × ((k : ℕ) → i ≤ k → k < length xs → x < get_or xs k 0))
        → (is_ok r ≡ true) ↔ Contains xs x
    at (Ok i) (l, e) = ((λ _. (i, l, get_or_default xs i x 0 l ∙ e)), λ _. refl)
    at (Err i) (l, low, high) = (
      (λ t. absurd (false≢true t)),
      λ (k, b, e). let w : get_or xs k 0 ≡ x = get_or_default xs k 0 x b ∙ e in absurd (elim (cases_lt k i) [
        | inl m ↦ (let o : get_or xs k 0 < x = low k m in omega arith)
        | inr m ↦ (let o : x < get_or xs k 0 = high k m b in omega arith)
      ]),
    )

-- a rising list by the lemmas on partitions
pub rising_by : (xs : List ℕ) → IsStrictlyIncreasing xs → IsNonDecreasingBy (λ x. x) xs
rising_by xs h = IsNonDecreasingBy-from_default (λ x. x) xs 0 (rising xs h)

-- a part of a list
pub part-length : (xs : List ℕ) (i j : ℕ) → i ≤ j → j ≤ length xs → length (take (j - i) (drop i xs)) ≡ j - i
part-length xs i j l m = omega (arith, length-take (j - i) (drop i xs), length-drop i xs)

pub part-at : (xs : List ℕ) (i j k : ℕ) → i + k < j → j ≤ length xs → slice_index (take (j - i) (drop i xs)) k ≡ slice_index xs (i + k)
part-at xs i j k l m = grind (arith, common_steps)

-- the part of a list between the places of two numbers has what lies between them
pub in_part : (xs : List ℕ) (i j low high X : ℕ) → j ≤ length xs → ((k : ℕ) → k < i → slice_index xs k < low) →
    ((k : ℕ) → j ≤ k → k < length xs → high ≤ slice_index xs k)
    → low ≤ X → X < high → Contains xs X → Contains (take (j - i) (drop i xs)) X
in_part xs i j low high X m below from l h (k, b, e) =
    let d : slice_index xs k ≡ X = get_or_default xs k 0 X b ∙ e in
    let p : i ≤ k = elim (cases_lt k i) [ inl s ↦ (let c : slice_index xs k < low = below k s in absurd (omega arith)) | inr g ↦ g ] in
    let q : k < j = elim (cases_lt k j) [ inl s ↦ s | inr g ↦ (let c : high ≤ slice_index xs k = from k g b in absurd (omega arith)) ] in
    let n : length (take (j - i) (drop i xs)) ≡ j - i = part-length xs i j (omega arith) m in
    let a : slice_index (take (j - i) (drop i xs)) (k - i) ≡ slice_index xs (i + (k - i)) = part-at xs i j (k - i) (omega arith) m in
    let s : i + (k - i) ≡ k = omega arith in
    (k - i, omega arith, get_or_default (take (j - i) (drop i xs)) (k - i) X 0 (omega arith) ∙ a ∙ ap (slice_index xs) s ∙ d)

-- and nothing else
pub from_part : (xs : List ℕ) (i j k : ℕ) → j ≤ length xs → k < length (take (j - i) (drop i xs)) →
    (i + k < j) × (slice_index (take (j - i) (drop i xs)) k ≡ slice_index xs (i + k))
from_part xs i j k m l =
    let n : length (take (j - i) (drop i xs)) ≤ j - i = omega (arith, length-take (j - i) (drop i xs)) in
    let b : i + k < j = omega arith in
    (b, part-at xs i j k b m)
