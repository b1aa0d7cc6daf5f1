-- Sets with two elements in each other's place, and lists of twins.
use Rattle.std.proofs.Common.{◌≡◌, ◌≢◌, ℕ, zero, suc, ◌+◌, ◌%◌, ◌^◌, ◌<◌, refl, sym, ◌∙◌, ap, subst, arith, inl, inr, List, [], ◌∷◌, ◌++◌, length, length-append, Option, Some, None, slice_index_or, bit_or, bit_xor, max, MatchOption, is_some, true}
use Rattle.std.proofs.lemmas.Bool.{cases_lt, cases_order}
use Rattle.minor_test.specs.Twins.{AreAllFound, swapped, IsSwapped, AreTwins, AreTwinsOf}
use Rattle.std.specs.Bool.{◌==◌}
use Rattle.std.specs.Int.{bit_at}
use Rattle.std.proofs.lemmas.List.{get_or_append_left, get_or-append-add, get_or_past}
use Rattle.std.proofs.lemmas.Nat.{or_lt, xor_lt, pow_below}
use Rattle.std.proofs.lemmas.Nat.Bits.{bit_at_or, bit_at_xor, bit_at-pow_same, bit_at-pow_other, bit_at-lt, same_from_bits_below}
use Rattle.matroid_theory.specs.Matroid.{members}
use Rattle.matroid_theory.specs.Minor.{Matroid}
use Rattle.minor_test.proofs.Reordered.{swapped_first, swapped_second, swapped_other, swapped_cases}

-- ---- the exchange in a mask

-- of two bits that differ, each is what the other is not
other_bit : (a b : ℕ) → a < 2 → b < 2 → a ≢ b → ((a + 1) % 2 == 1) ≡ (b == 1)
other_bit zero zero l m n = absurd (n refl)
other_bit zero (suc zero) l m n = refl
other_bit (suc zero) zero l m n = refl
other_bit (suc zero) (suc zero) l m n = absurd (n refl)
other_bit zero (suc (suc b)) l m n = absurd (omega arith)
other_bit (suc zero) (suc (suc b)) l m n = absurd (omega arith)
other_bit (suc (suc a)) b l m n = absurd (omega arith)

same_bit : (a : ℕ) → a < 2 → ((a + 0) % 2 == 1) ≡ (a == 1)
same_bit zero l = refl
same_bit (suc zero) l = refl
same_bit (suc (suc a)) l = absurd (omega arith)

pub exchanged_flipped : (X i j x : ℕ) → i < j → bit_at X i ≢ bit_at X j → members (bit_xor X (bit_or (2 ^ i) (2 ^ j))) x ≡ members X (swapped i j x)
exchanged_flipped X i j x l ne = ap (λ b. b == 1) (bit_at_xor X (bit_or (2 ^ i) (2 ^ j)) x) ∙ elim (swapped_cases i j x) [
  | inl s ↦ (let a : bit_at (2 ^ i) x ≡ 1 = ap (bit_at (2 ^ i)) s ∙ bit_at-pow_same i in
      let b : bit_at (2 ^ j) x ≡ 0 = bit_at-pow_other j x (λ e. absurd (omega arith)) in
      ap (λ y. (bit_at X x + y) % 2 == 1) (flip x 1 0 1 a b refl)
      ∙ ap (λ y. (bit_at X y + 1) % 2 == 1) s ∙ other_bit (bit_at X i) (bit_at X j) (bit_at-lt X i) (bit_at-lt X j) ne
      ∙ sym (ap (λ y. members X (swapped i j y)) s ∙ ap (members X) (swapped_first i j)))
  | inr h ↦ elim h [
    | inl s ↦ (let a : bit_at (2 ^ i) x ≡ 0 = bit_at-pow_other i x (λ e. absurd (omega arith)) in
        let b : bit_at (2 ^ j) x ≡ 1 = ap (bit_at (2 ^ j)) s ∙ bit_at-pow_same j in
        ap (λ y. (bit_at X x + y) % 2 == 1) (flip x 0 1 1 a b refl)
        ∙ ap (λ y. (bit_at X y + 1) % 2 == 1) s ∙ other_bit (bit_at X j) (bit_at X i) (bit_at-lt X j) (bit_at-lt X i) (λ e. ne (sym e))
        ∙ sym (ap (λ y. members X (swapped i j y)) s ∙ ap (members X) (swapped_second i j l)))
    | inr (n, m) ↦ ap (λ y. (bit_at X x + y) % 2 == 1) (flip x 0 0 0 (bit_at-pow_other i x n) (bit_at-pow_other j x m) refl)
        ∙ same_bit (bit_at X x) (bit_at-lt X x) ∙ sym (ap (members X) (swapped_other i j x n m))
  ]
]
  where
    flip : (x a b c : ℕ) → bit_at (2 ^ i) x ≡ a → bit_at (2 ^ j) x ≡ b → max a b ≡ c → bit_at (bit_or (2 ^ i) (2 ^ j)) x ≡ c
    flip x a b c d e f = bit_at_or (2 ^ i) (2 ^ j) x ∙ (λ u. max (d u) (e u)) ∙ f

pub flipped_below : (X i j n : ℕ) → i < j → j < n → X < 2 ^ n → bit_xor X (bit_or (2 ^ i) (2 ^ j)) < 2 ^ n
flipped_below X i j n l m b = xor_lt n X (bit_or (2 ^ i) (2 ^ j)) b (or_lt n (2 ^ i) (2 ^ j) (pow_below i n (omega arith)) (pow_below j n m))

-- a set has one mask
pub one_swapped : (n i j X Y Z : ℕ) → Y < 2 ^ n → Z < 2 ^ n → IsSwapped n i j X Y → ((x : ℕ) → members Z x ≡ members X (swapped i j x)) → Z ≡ Y
one_swapped n i j X Y Z l m e d = same_from_bits_below n Z Y m l (λ x o. same (bit_at Z x) (bit_at Y x) (bit_at-lt Z x) (bit_at-lt Y x) (d x ∙ sym (e x o)))
  where
    same : (a b : ℕ) → a < 2 → b < 2 → (a == 1) ≡ (b == 1) → a ≡ b
    same zero zero l m e = refl
    same zero (suc zero) l m e = cc
    same (suc zero) zero l m e = cc
    same (suc zero) (suc zero) l m e = refl
    same zero (suc (suc b)) l m e = absurd (omega arith)
    same (suc zero) (suc (suc b)) l m e = absurd (omega arith)
    same (suc (suc a)) b l m e = absurd (omega arith)

-- ---- lists of twins

pub more_twins : (N : Matroid) (twins longer : List (Option ℕ)) (o : Option ℕ) (j : ℕ) → longer ≡ twins ++ o ∷ [] → length twins ≡ j
    → ((i : ℕ) → o ≡ Some i → AreTwins N i j) → AreTwinsOf N twins → AreTwinsOf N longer
more_twins N twins longer o j e n t h i x s =
    let d : slice_index_or (twins ++ o ∷ []) x None ≡ Some i = ap (λ (xs : List (Option ℕ)). slice_index_or xs x None) (sym e) ∙ s in
    elim (cases_order x (length twins)) [
      | inl q ↦ (let z : length twins + 0 ≡ x = omega arith in
          subst (λ (y : ℕ). AreTwins N i y) (sym (q ∙ n))
          (t i (sym (get_or-append-add twins (o ∷ []) 0 None) ∙ ap (λ y. slice_index_or (twins ++ o ∷ []) y None) z ∙ d)))
      | inr w ↦ elim w [
        | inl l ↦ h i x (sym (get_or_append_left twins (o ∷ []) None x l) ∙ d)
        | inr g ↦ (let k : length (twins ++ o ∷ []) ≡ length twins + 1 = length-append twins (o ∷ []) in
            let past : slice_index_or (twins ++ o ∷ []) x None ≡ None = get_or_past (twins ++ o ∷ []) x None (omega arith) in
            absurd (let c : None ≡ Some i = sym past ∙ d in cc))
      ]
    ]

pub more_found : (N : Matroid) (twins longer : List (Option ℕ)) (o : Option ℕ) (j : ℕ) → longer ≡ twins ++ o ∷ [] → length twins ≡ j
    → MatchOption o ((i : ℕ) → i < j → ¬ (AreTwins N i j)) (λ i. AreTwins N i j) → AreAllFound N twins j → AreAllFound N longer (j + 1)
more_found N twins longer o j e n found h i x l t =
    ap (λ (xs : List (Option ℕ)). is_some (slice_index_or xs x None)) e ∙ elim (cases_lt x (length twins)) [
      | inl b ↦ ap is_some (get_or_append_left twins (o ∷ []) None x b) ∙ h i x (omega arith) t
      | inr g ↦ (let z : x ≡ length twins + 0 = omega arith in let q : x ≡ j = omega arith in
          ap (λ y. is_some (slice_index_or (twins ++ o ∷ []) y None)) z ∙ ap is_some (get_or-append-add twins (o ∷ []) 0 None)
          ∙ is_found o found (subst (λ (y : ℕ). AreTwins N i y) q t))
    ]
  where
    is_found : (o : Option ℕ) → MatchOption o ((i : ℕ) → i < j → ¬ (AreTwins N i j)) (λ i. AreTwins N i j) → AreTwins N i j → is_some o ≡ true
    is_found None none t = absurd (none i t.before t)
    is_found (Some k) k_is t = refl
