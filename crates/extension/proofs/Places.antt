-- Lists of one length in the order by their first difference, and as numbers.
use Rattle.std.proofs.Common.{◌≡◌, ◌≢◌, ℕ, zero, suc, ◌<◌, ◌≤◌, refl, ◌⊎◌, sym, ◌∙◌, ap, subst, arith, List, [], ◌∷◌, length, slice_index, inl, inr}
use Rattle.std.specs.Cmp.Lexicographic.{slice_cmp}
use Rattle.std.specs.Ordering.{nat_cmp, ordering_then}
use Rattle.std.specs.declared.cmp.Ordering.TheVariants.{Less, Equal, Greater}
use Rattle.std.proofs.lemmas.Cmp.{ranked, by_ranked}
use Rattle.std.proofs.lemmas.Map.Lookups.{exact_bytes}

-- u and v agree before place d, and u has the lower code there
pub record DiffersAt (u v : List ℕ) (d : ℕ) : Type 0 where
  pub place_below : d < length v
  pub before : (p : ℕ) → p < d → slice_index u p ≡ slice_index v p
  pub lower : slice_index u d < slice_index v d

tail_differs : (x : ℕ) (xs ys : List ℕ) → ((d : ℕ) × DiffersAt xs ys d) → (d : ℕ) × DiffersAt (x ∷ xs) (x ∷ ys) d
tail_differs x xs ys (d, h) = (
  suc d,
  record {
    place_below = (let l : d < length ys = h.place_below in omega arith);
    before = before_more;
    lower = h.lower;
  },
)
  where
    before_more : (p : ℕ) → p < suc d → slice_index (x ∷ xs) p ≡ slice_index (x ∷ ys) p
    before_more zero l = refl
    before_more (suc p) l = h.before p (omega arith)

pub first_difference : (u v : List ℕ) → length u ≡ length v → slice_cmp nat_cmp u v ≡ Less → (d : ℕ) × DiffersAt u v d
first_difference [] [] e l = cc
first_difference [] (y ∷ ys) e l = absurd (omega arith)
first_difference (x ∷ xs) [] e l = absurd (omega arith)
first_difference (x ∷ xs) (y ∷ ys) e l =
    by_ranked (x < y) (x ≡ y) (y < x) (nat_cmp x y) (ranked x y (nat_cmp x y) refl)
    (λ _ b. (0, record { place_below = omega arith; before = λ p m. absurd (omega arith); lower = b }))
    (λ o s. let k : slice_cmp nat_cmp xs ys ≡ Less = sym (ap (λ o. ordering_then o (slice_cmp nat_cmp xs ys)) o) ∙ l in
    subst (λ (z : ℕ). (d : ℕ) × DiffersAt (x ∷ xs) (z ∷ ys) d) s (tail_differs x xs ys (first_difference xs ys (omega arith) k)))
    (λ o _. let k : Greater ≡ Less = sym (ap (λ o. ordering_then o (slice_cmp nat_cmp xs ys)) o) ∙ l in cc)

pub differing_less : (d : ℕ) (u v : List ℕ) → (length u ≡ 0) ⊎ (length u ≡ length v) → DiffersAt u v d → slice_cmp nat_cmp u v ≡ Less
differing_less d u [] e h = (let l : d < 0 = h.place_below in absurd (omega arith))
differing_less d [] (y ∷ ys) e h = refl
differing_less zero (x ∷ xs) (y ∷ ys) e h =
    let l : x < y = h.lower in
    by_ranked (x < y) (x ≡ y) (y < x) (nat_cmp x y) (ranked x y (nat_cmp x y) refl)
    (λ o _. ap (λ o. ordering_then o (slice_cmp nat_cmp xs ys)) o)
    (λ _ s. absurd (omega arith))
    (λ _ g. absurd (omega arith))
differing_less (suc d) (x ∷ xs) (y ∷ ys) e h =
    let s : x ≡ y = h.before 0 (omega arith) in
    by_ranked (x < y) (x ≡ y) (y < x) (nat_cmp x y) (ranked x y (nat_cmp x y) refl)
    (λ _ b. absurd (omega arith))
    (λ o _. ap (λ o. ordering_then o (slice_cmp nat_cmp xs ys)) o ∙ differing_less d xs ys (inr (lengths e)) (record {
      place_below = (let l : suc d < length (y ∷ ys) = h.place_below in omega arith);
      before = λ p l. h.before (suc p) (omega arith);
      lower = h.lower;
    }))
    (λ _ g. absurd (omega arith))
  where
    lengths : (length (x ∷ xs) ≡ 0) ⊎ (length (x ∷ xs) ≡ length (y ∷ ys)) → length xs ≡ length ys
    lengths e = elim e [ inl z ↦ absurd (omega arith) | inr s ↦ omega arith ]

-- codes that are at no place above those of another list
pub not_greater : (u v : List ℕ) → length u ≡ length v → ((p : ℕ) → p < length v → slice_index u p ≤ slice_index v p) → slice_cmp nat_cmp u v ≢ Greater
not_greater [] [] e h g = cc
not_greater [] (y ∷ ys) e h g = cc
not_greater (x ∷ xs) [] e h g = absurd (omega arith)
not_greater (x ∷ xs) (y ∷ ys) e h g =
    let l : x ≤ y = h 0 (omega arith) in
    by_ranked (x < y) (x ≡ y) (y < x) (nat_cmp x y) (ranked x y (nat_cmp x y) refl)
    (λ o _. let k : Less ≡ Greater = sym (ap (λ o. ordering_then o (slice_cmp nat_cmp xs ys)) o) ∙ g in cc)
    (λ o _. not_greater xs ys (omega arith) (λ p l. h (suc p) (omega arith)) (sym (ap (λ o. ordering_then o (slice_cmp nat_cmp xs ys)) o) ∙ g))
    (λ _ b. absurd (omega arith))

-- a list that isn't above another, and isn't the same, is below it
pub less_or_same : (u v : List ℕ) → slice_cmp nat_cmp u v ≢ Greater → u ≢ v → slice_cmp nat_cmp u v ≡ Less
less_or_same u v ng ne = elim (slice_cmp nat_cmp u v) as (λ o. slice_cmp nat_cmp u v ≡ o → o ≡ Less) [
  | Less ↦ (λ _. refl)
  | Equal ↦ (λ e. absurd (ne (exact_bytes u v e)))
  | Greater ↦ (λ e. absurd (ng e))
] refl
