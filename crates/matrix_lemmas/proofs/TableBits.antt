-- Tables of bits, as sets of masks.
use Rattle.std.proofs.Common.{◌≡◌, ◌≢◌, ℕ, zero, ◌+◌, ◌*◌, ◌/◌, ◌%◌, ◌^◌, ◌<◌, refl, sym, ◌∙◌, ap, arith, Bool, true, false, inl, inr, ◌⊎◌, ◌||◌, List, length, w64, bit_or, slice_index, slice_set, replicate}
use Rattle.std.specs.Bool.{◌==◌}
use Rattle.std.specs.Int.{bit_at}
use Rattle.std.proofs.lemmas.Bool.{cases_lt, cases_eq}
use Rattle.std.proofs.lemmas.List.{get_or-replicate, get_or_past, get_or-set_same, get_or-set_other, length-replicate}
use Rattle.std.proofs.lemmas.Nat.Bits.{bit_at-zero, bit_at_set_same, bit_at_set_other}
use Rattle.std.proofs.Math.Nat.{div-add-mod, mod-lt}
use Rattle.matrix_lemmas.proofs.Sums.{same_number, other_number}
use Rattle.matroid_theory.specs.Tables.{has}

-- a table of zeros has no mask
pub has_none : (n X : ℕ) → has (replicate n 0) X ≡ false
has_none n X = ap (λ w. bit_at w (X % 64) == 1) zero_word ∙ ap (λ b. b == 1) (bit_at-zero (X % 64))
  where
    zero_word : slice_index (replicate n 0) (X / 64) ≡ 0
    zero_word = elim (cases_lt (X / 64) n) [
      | inl l ↦ get_or-replicate n (X / 64) 0 0 l
      | inr g ↦ get_or_past (replicate n 0) (X / 64) 0 (let e : length (replicate n zero) ≡ n = length-replicate n 0 in omega arith)
    ]

-- the bit of one mask is set
pub has_more : (words : List ℕ) (set word bit : ℕ) → word ≡ set / 64 → bit ≡ set % 64 → word < length words → (X : ℕ)
    → has (slice_set words word (bit_or (slice_index words word) (1 * 2 ^ bit % 2 ^ 64))) X ≡ (has words X || (set == X))
has_more words set word bit we be l X = elim (cases_eq X set) [
  | inl e ↦ at_set e
  | inr ne ↦ elsewhere ne
]
  where
    new : ℕ
    new = bit_or (slice_index words word) (1 * 2 ^ bit % 2 ^ 64)

    below : bit < 64
    below = omega (arith, mod-lt)

    or_true : (a b : Bool) → b ≡ true → true ≡ (a || b)
    or_true true b e = refl
    or_true false b e = sym e

    or_false : (a b : Bool) → b ≡ false → a ≡ (a || b)
    or_false true b e = refl
    or_false false b e = sym e

    at_set : X ≡ set → has (slice_set words word new) X ≡ (has words X || (set == X))
    at_set e =
        ap (λ k. bit_at (slice_index (slice_set words word new) k) (X % 64) == 1) (ap (λ x. x / 64) e ∙ sym we)
        ∙ ap (λ k. bit_at (slice_index (slice_set words word new) word) k == 1) (ap (λ x. x % 64) e ∙ sym be)
        ∙ ap (λ w. bit_at w bit == 1) (get_or-set_same words word new 0 l)
        ∙ ap (λ b. b == 1) (bit_at_set_same w64 (slice_index words word) bit below)
        ∙ or_true (has words X) (set == X) (ap (λ x. set == x) e ∙ same_number set)

    other_bit : X ≢ set → X / 64 ≡ word → X % 64 ≢ bit
    other_bit ne e i = ne (let a : 64 * (X / 64) + X % 64 ≡ X = div-add-mod X 64 in
        let b : 64 * (set / 64) + set % 64 ≡ set = div-add-mod set 64 in omega arith)

    elsewhere : X ≢ set → has (slice_set words word new) X ≡ (has words X || (set == X))
    elsewhere ne =
        kept (cases_eq (X / 64) word)
        ∙ or_false (has words X) (set == X) (other_number set X (λ e. ne (sym e)))
      where
        kept : (X / 64 ≡ word) ⊎ (X / 64 ≢ word) → has (slice_set words word new) X ≡ has words X
        kept (inl e) =
            ap (λ k. bit_at (slice_index (slice_set words word new) k) (X % 64) == 1) e
            ∙ ap (λ w. bit_at w (X % 64) == 1) (get_or-set_same words word new 0 l)
            ∙ ap (λ b. b == 1) (bit_at_set_other w64 (slice_index words word) bit below (X % 64) (other_bit ne e))
            ∙ ap (λ k. bit_at (slice_index words k) (X % 64) == 1) (sym e)
        kept (inr other) = ap (λ w. bit_at w (X % 64) == 1) (get_or-set_other words word (X / 64) new 0 other)
