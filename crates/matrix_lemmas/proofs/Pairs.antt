-- Sets of one or two columns, and their masks.
use Rattle.std.proofs.Common.{◌≡◌, ◌↔◌, ℕ, ◌^◌, ◌<◌, ◌≤◌, refl, sym, ◌∙◌, ap, arith, cond, Bool, true, false, ◌||◌, inl, inr, max, bit_or}
use Rattle.std.specs.Bool.{◌==◌}
use Rattle.std.specs.Int.{bit_at}
use Rattle.std.proofs.lemmas.Bool.{cases_lt, cases_eq}
use Rattle.std.proofs.lemmas.Nat.Bits.{bit_at_or, bit_at-pow_same, bit_at-pow_other}
use Rattle.matroid_theory.specs.Rep.{Rep, size, order, matrix}
use Rattle.matroid_theory.specs.Matroid.{members, IsIndependentIn}
use Rattle.matrix_lemmas.proofs.Masks.{IsIndependent-same}
use Rattle.matrix_lemmas.proofs.Sums.{same_number, other_number}

-- the set of columns i and j, which is of one column where they are the same
abbrev pub pair : ℕ → ℕ → ℕ → Bool
pair i j k = (k == i) || (k == j)

bit-one : (i k : ℕ) → bit_at (2 ^ i) k ≡ cond (k == i) 1 0
bit-one i k =
    elim (cases_eq k i) [
      | inl e ↦ ap (bit_at (2 ^ i)) e ∙ bit_at-pow_same i ∙ ap (λ b. cond b 1 0) (sym (same_number i) ∙ ap (λ x. x == i) (sym e))
      | inr n ↦ bit_at-pow_other i k n ∙ ap (λ b. cond b 1 0) (sym (other_number k i n))
    ]

-- the mask of columns i and j
members-pair : (i j k : ℕ) → members (bit_or (2 ^ i) (2 ^ j)) k ≡ ((k == i) || (k == j))
members-pair i j k =
    ap (λ x. x == 1) (bit_at_or (2 ^ i) (2 ^ j) k ∙ (λ t. max (bit-one i k t) (bit-one j k t))) ∙ either (k == i) (k == j)
  where
    either : (a b : Bool) → (max (cond a 1 0) (cond b 1 0) == 1) ≡ (a || b)
    either a b = elim a as (λ a. (max (cond a 1 0) (cond b 1 0) == 1) ≡ (a || b)) [
      | true ↦ elim b as (λ b. (max 1 (cond b 1 0) == 1) ≡ true) [ true ↦ refl | false ↦ refl ]
      | false ↦ elim b as (λ b. (max 0 (cond b 1 0) == 1) ≡ b) [ true ↦ refl | false ↦ refl ]
    ]

pub pair_independent : (M : Rep) (f i j : ℕ) → IsIndependentIn M f (members (bit_or (2 ^ i) (2 ^ j))) ↔ IsIndependentIn M f (pair i j)
pair_independent M f i j = (
  IsIndependent-same (order M f) M.rank (size M) (matrix M f) (members (bit_or (2 ^ i) (2 ^ j))) (pair i j) (λ k _. members-pair i j k),
  IsIndependent-same (order M f) M.rank (size M) (matrix M f) (pair i j) (members (bit_or (2 ^ i) (2 ^ j))) (λ k _. sym (members-pair i j k)),
)

pair_turned : (i j k : ℕ) → pair j i k ≡ pair i j k
pair_turned i j k = turned (k == j) (k == i)
  where
    turned : (a b : Bool) → (a || b) ≡ (b || a)
    turned a b = elim a as (λ a. (a || b) ≡ (b || a)) [
      | true ↦ elim b as (λ b. true ≡ (b || true)) [ true ↦ refl | false ↦ refl ]
      | false ↦ elim b as (λ b. b ≡ (b || false)) [ true ↦ refl | false ↦ refl ]
    ]

-- the pairs of each column and one that isn't after it are all pairs
pub pairs_both : (M : Rep) (f n : ℕ) → ((j : ℕ) → j < n → (i : ℕ) → i ≤ j → IsIndependentIn M f (pair i j)) → (i j : ℕ) → i < n →
    j < n → IsIndependentIn M f (pair i j)
pairs_both M f n h i j l m = elim (cases_lt j i) [
  | inr b ↦ h j m i b
  | inl g ↦ IsIndependent-same (order M f) M.rank (size M) (matrix M f) (pair j i) (pair i j) (λ k _. pair_turned i j k) (h i l j (omega arith))
]
