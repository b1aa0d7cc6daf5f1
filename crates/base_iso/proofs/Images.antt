-- The image of a set, element by element.
use Rattle.std.proofs.Common.{◌≡◌, ◌≢◌, ℕ, ◌+◌, ◌*◌, ◌%◌, ◌^◌, ◌<◌, sym, ◌∙◌, ap, subst, arith, true, false, List, length, inl, inr, bit_or, w16}
use Rattle.std.specs.Bool.{◌==◌}
use Rattle.std.specs.Int.{bit_at}
use Rattle.std.specs.List.{slice_index}
use Rattle.std.proofs.lemmas.Bool.{cases_lt}
use Rattle.std.proofs.lemmas.Nat.Bits.{same_from_bits, bit_at-lt, bit_at_set_same, bit_at_set_other}
use Rattle.matroid_theory.specs.Matroid.{members}
use Rattle.matrix_lemmas.proofs.Masks.{same_bit}
use Rattle.base_iso.specs.Started.{AreLabels, IsImage}
use Rattle.base_iso.proofs.Places.{stands}
use Rattle.std.proofs.lemmas.List.{get_or_default}

-- a set has one image
pub one_image : (labels : List ℕ) (X Y Z : ℕ) → IsImage labels X Y → IsImage labels X Z → Y ≡ Z
one_image labels X Y Z y z = same_from_bits Y Z (λ j. same_bit (bit_at Y j) (bit_at Z j) (bit_at-lt Y j) (bit_at-lt Z j) (at j))
  where
    at : (j : ℕ) → members Y j ≡ members Z j
    at j = elim (stands labels j) [
      | inl c ↦ (let e : slice_index labels c.0 ≡ j = sym (get_or_default labels c.0 j 0 c.1) ∙ c.2 in
          ap (members Y) (sym e) ∙ y.labelled c.0 c.1 ∙ sym (z.labelled c.0 c.1) ∙ ap (members Z) e)
      | inr o ↦ y.others j o ∙ sym (z.others j o)
    ]

-- the labels of the elements of a set below n
pub record IsImageBelow (labels : List ℕ) (n X Y : ℕ) : Type 0 where
  pub labelled : (i : ℕ) → i < n → members Y (slice_index labels i) ≡ members X i
  pub others : (j : ℕ) → ((i : ℕ) → i < n → slice_index labels i ≢ j) → members Y j ≡ false

module _ (labels : List ℕ) (i set image : ℕ) (h : AreLabels 16 labels) (l : i < length labels) (m : IsImageBelow labels i set image) where
  -- an element in the set
  pub one_in : members set i ≡ true → IsImageBelow labels (i + 1) set (bit_or image (1 * 2 ^ slice_index labels i % 65536))
  one_in t = record {
    labelled = λ k b. elim (cases_lt k i) [
      | inl s ↦ other (slice_index labels k) (h.apart k i s l) ∙ m.labelled k s
      | inr s ↦ (let e : i ≡ k = omega arith in subst (λ k. members new (slice_index labels k) ≡ members set k) e (same ∙ sym t))
    ];
    others = λ j o. other j (λ e. o i (omega arith) (sym e)) ∙ m.others j (λ k b. o k (omega arith));
  }
    where
      new : ℕ
      new = bit_or image (1 * 2 ^ slice_index labels i % 65536)

      same : members (bit_or image (1 * 2 ^ slice_index labels i % 65536)) (slice_index labels i) ≡ true
      same = ap (λ x. x == 1) (bit_at_set_same w16 image (slice_index labels i) (h.below i l))

      other : (j : ℕ) → j ≢ slice_index labels i → members (bit_or image (1 * 2 ^ slice_index labels i % 65536)) j ≡ members image j
      other j n = ap (λ x. x == 1) (bit_at_set_other w16 image (slice_index labels i) (h.below i l) j n)

  -- an element outside
  pub one_out : members set i ≡ false → IsImageBelow labels (i + 1) set image
  one_out t = record {
    labelled = λ k b. elim (cases_lt k i) [
      | inl s ↦ m.labelled k s
      | inr s ↦ (let e : i ≡ k = omega arith in
          subst (λ k. members image (slice_index labels k) ≡ members set k) e (m.others (slice_index labels i) (λ k s. h.apart k i s l) ∙ sym t))
    ];
    others = λ j o. m.others j (λ k b. o k (omega arith));
  }
