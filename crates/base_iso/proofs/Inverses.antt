-- The image of a mask under a permutation, and the inverse of an isomorphism.
use Rattle.std.proofs.Common.{◌≡◌, ℕ, ◌<◌, ◌≤◌, ◌^◌, sym, ◌∙◌, ap, subst, false, inl, inr}
use Rattle.std.specs.Bool.{◌==◌}
use Rattle.std.specs.Int.{bit_at}
use Rattle.std.proofs.lemmas.Bool.{cases_lt}
use Rattle.std.proofs.lemmas.Nat.Bits.{same_from_bits, bit_at-lt, bit_at_above}
use Rattle.matroid_theory.specs.Matroid.{members}
use Rattle.matroid_theory.specs.Minor.{Matroid, AreIsomorphicBy}
use Rattle.matroid_theory.specs.Move.{ArePermutation}
use Rattle.matrix_lemmas.proofs.Masks.{mask, mask-below, members-mask, same_bit, same_mask}

-- a mask has no member from n on
pub no_member : (n X j : ℕ) → X < 2 ^ n → n ≤ j → members X j ≡ false
no_member n X j l m = ap (λ x. x == 1) (bit_at_above X n j l m)

-- a number with no member from n on is a mask of n
pub is_mask : (n X : ℕ) → ((j : ℕ) → n ≤ j → members X j ≡ false) → X < 2 ^ n
is_mask n X h = subst (λ x. x < 2 ^ n) (sym (same_from_bits X (mask n (members X)) bit)) (mask-below n (members X))
  where
    bit : (j : ℕ) → bit_at X j ≡ bit_at (mask n (members X)) j
    bit j = same_bit (bit_at X j) (bit_at (mask n (members X)) j) (bit_at-lt X j) (bit_at-lt (mask n (members X)) j)
        (elim (cases_lt j n) [
          | inl b ↦ sym (members-mask n (members X) j b)
          | inr g ↦
              h j g ∙ sym (no_member n (mask n (members X)) j (mask-below n (members X)) g)
        ])

module _ (n : ℕ) (p u : ℕ → ℕ) (v : ArePermutation n p u) where
  -- the image of a mask
  pub relabelled : ℕ → ℕ
  relabelled X = mask n (λ j. members X (u j))

  pub relabelled-below : (X : ℕ) → relabelled X < 2 ^ n
  unfolding relabelled
  relabelled-below X = mask-below n (λ j. members X (u j))

  pub relabelled-members : (X j : ℕ) → j < n → members (relabelled X) (p j) ≡ members X j
  unfolding relabelled
  relabelled-members X j l = members-mask n (λ j. members X (u j)) (p j) (v.below j l) ∙ ap (members X) (v.there j l)

  pub relabelled_apart : (X Y : ℕ) → X < 2 ^ n → Y < 2 ^ n → relabelled X ≡ relabelled Y → X ≡ Y
  relabelled_apart X Y l m e = same_mask n X Y l m (λ j b. sym (relabelled-members X j b) ∙ ap (λ Z. members Z (p j)) e ∙ relabelled-members Y j b)

pub inverse_isomorphism : (M N : Matroid) (p u : ℕ → ℕ) → AreIsomorphicBy M N p u → AreIsomorphicBy N M u p
inverse_isomorphism M N p u h = record {
  ranks = sym h.ranks;
  sizes = sym h.sizes;
  labels = subst (λ (n : ℕ). ArePermutation n u p) (sym h.sizes)
      (let v = h.labels in record { below = v.inverse_below; inverse_below = v.below; there = v.back; back = v.there });
  bases = λ X Y l m e. let b = h.bases Y X (subst (λ (n : ℕ). Y < 2 ^ n) h.sizes m) (subst (λ (n : ℕ). X < 2 ^ n) h.sizes l)
      (λ j k. let v = h.labels in sym (e (p j) (subst (λ (n : ℕ). p j < n) (sym h.sizes) (v.below j k))) ∙ ap (members Y) (v.there j k)) in (b.1, b.0);
}
