-- Sets of column numbers as masks.
use Rattle.std.proofs.Common.{◌≡◌, ℕ, zero, suc, ◌+◌, ◌-◌, ◌*◌, ◌^◌, ◌<◌, ◌≤◌, refl, sym, ◌∙◌, ap, arith, cond, Bool, true, false, inl, inr, lit<}
use Rattle.std.specs.Bool.{◌==◌}
use Rattle.std.specs.Prelude.{◌||◌}
use Rattle.std.specs.Int.{bit_at}
use Rattle.std.proofs.lemmas.Bool.{cases_lt, cases_eq, false≢true}
use Rattle.std.proofs.Math.Nat.{two-pow-succ}
use Rattle.std.proofs.lemmas.Nat.Bits.{bit_at_cat_low, bit_at_cat_high, bit_at-lt, same_from_bits_below}
use Rattle.matroid_theory.specs.Matrix.{size_below, IsIndependent}
use Rattle.matroid_theory.specs.Rep.{Rep, size, order, matrix}
use Rattle.matroid_theory.specs.Matroid.{members, IsBasis}
use Rattle.matroid_theory.specs.Minor.{any_below}
use Rattle.matrix_lemmas.proofs.Sums.{same_number, other_number}

-- a set's mask
abbrev pub mask : ℕ → (ℕ → Bool) → ℕ
mask zero S = 0
mask (suc n) S = cond (S n) 1 0 * 2 ^ n + mask n S

pub mask-below : (n : ℕ) (S : ℕ → Bool) → mask n S < 2 ^ n
mask-below zero S = lit< tt
mask-below (suc n) S =
    let h : mask n S < 2 ^ n = mask-below n S in
    let e : 2 ^ suc n ≡ 2 ^ n + 2 ^ n = two-pow-succ n in
    elim (S n) as (λ b. cond b 1 0 * 2 ^ n + mask n S < 2 ^ suc n) [ true ↦ omega arith | false ↦ omega arith ]

-- the sets of one size with the same numbers below n
pub size-same : (n : ℕ) (S T : ℕ → Bool) → ((j : ℕ) → j < n → S j ≡ T j) → size_below n S ≡ size_below n T
size-same zero S T h = refl
size-same (suc n) S T h = λ i. size-same n S T (λ j l. h j (omega arith)) i + cond (h n (omega arith) i) 1 0

-- tests that are the same below n pass at some number below n together
pub any_below-same : (n : ℕ) (p p' : ℕ → Bool) → ((x : ℕ) → x < n → p x ≡ p' x) → any_below n p ≡ any_below n p'
any_below-same zero p p' h = refl
any_below-same (suc n) p p' h = λ i. any_below-same n p p' (λ x l. h x (omega arith)) i || h n (omega arith) i

pub IsIndependent-same : (q r n : ℕ) (A : ℕ → ℕ → ℕ) (S T : ℕ → Bool) → ((j : ℕ) → j < n → S j ≡ T j) → IsIndependent q r n A S → IsIndependent q r n A T
IsIndependent-same q r n A S T h d =
    record { only_zero = λ a c z. d.only_zero a (record { codes = c.codes; outside = λ j l o. c.outside j l (sym (h j l) ∙ o) }) z }

-- whether a set is a basis depends on the numbers of columns in it alone
pub IsBasis-same : (M : Rep) (f : ℕ) (S T : ℕ → Bool) → ((j : ℕ) → j < size M → S j ≡ T j) → IsBasis M f S → IsBasis M f T
IsBasis-same M f S T h b = record {
  full = sym (size-same (size M) S T h) ∙ b.full;
  independent = IsIndependent-same (order M f) M.rank (size M) (matrix M f) S T h b.independent;
}

-- the bits of a mask are the set
pub members-mask : (n : ℕ) (S : ℕ → Bool) (j : ℕ) → j < n → members (mask n S) j ≡ S j
members-mask zero S j l = absurd (omega arith)
members-mask (suc n) S j l =
    elim (cases_lt j n) [
      | inl b ↦ ap (λ x. x == 1) (bit_at_cat_low (cond (S n) 1 0) n (mask n S) j b) ∙ members-mask n S j b
      | inr g ↦ (let e : j ≡ n = omega arith in
          ap (λ k. members (mask (suc n) S) k) e
          ∙ ap (λ x. x == 1) (bit_at_cat_high (cond (S n) 1 0) n (mask n S) n (mask-below n S) g') ∙ top (S n) ∙ ap S (sym e))
    ]
  where
    g' : n ≤ n
    g' = omega arith

    top : (b : Bool) → (bit_at (cond b 1 0) (n - n) == 1) ≡ b
    top b = (let z : n - n ≡ 0 = omega arith in ap (λ k. bit_at (cond b 1 0) k == 1) z)
        ∙ (elim b as (λ b. (bit_at (cond b 1 0) 0 == 1) ≡ b) [ true ↦ refl | false ↦ refl ])

-- masks with the same members below n are equal
pub same_bit : (a b : ℕ) → a < 2 → b < 2 → (a == 1) ≡ (b == 1) → a ≡ b
same_bit a b l m e = elim (cases_eq a 1) [
  | inl x ↦ elim (cases_eq b 1) [ inl y ↦ x ∙ sym y | inr n ↦ absurd (false≢true (sym (other_number b 1 n) ∙ sym e ∙ ap (λ z. z == 1) x ∙ same_number 1)) ]
  | inr n ↦ elim (cases_eq b 1) [ inl y ↦ absurd (false≢true (sym (other_number a 1 n) ∙ e ∙ ap (λ z. z == 1) y ∙ same_number 1)) | inr o ↦ omega arith ]
]

pub same_mask : (n X Y : ℕ) → X < 2 ^ n → Y < 2 ^ n → ((j : ℕ) → j < n → members X j ≡ members Y j) → X ≡ Y
same_mask n X Y l m h = same_from_bits_below n X Y l m (λ j b. same_bit (bit_at X j) (bit_at Y j) (bit_at-lt X j) (bit_at-lt Y j) (h j b))

-- so what holds of each mask of n columns holds of each set of them, where only those columns count
pub by_masks : (n : ℕ) (P : (ℕ → Bool) → Type 0) → ((S T : ℕ → Bool) → ((j : ℕ) → j < n → S j ≡ T j) → P S → P T) →
    ((X : ℕ) → X < 2 ^ n → P (members X)) → (S : ℕ → Bool) → P S
by_masks n P same all S = same (members (mask n S)) S (members-mask n S) (all (mask n S) (mask-below n S))
