-- One more image.
use Rattle.std.proofs.Common.{◌≡◌, ◌↔◌, ℕ, suc, ◌+◌, ◌-◌, ◌*◌, ◌^◌, ◌<◌, ◌≤◌, refl, sym, ◌∙◌, ap, subst, arith, Bool, true, false, inl, inr, ◌||◌, List, [], ◌∷◌, ◌++◌, length, add-one, IsTrue, slice_index, bit_or, max, lit<}
use Rattle.std.specs.List.{Contains}
use Rattle.std.specs.Bool.{◌==◌}
use Rattle.std.specs.Int.{bit_at}
use Rattle.std.proofs.lemmas.Bool.{cases_lt, cases_eq, false≢true, or_parts}
use Rattle.std.proofs.lemmas.List.{get_or_append_left, get_or-append-add}
use Rattle.std.proofs.Math.Nat.{two-pow-succ, pow-le-pow_right}
use Rattle.std.proofs.lemmas.Nat.{or_lt, pow_below}
use Rattle.std.proofs.lemmas.Nat.Bits.{bit_at_or, bit_at-pow_same, bit_at-pow_other, bit_at-lt, bit_at_above, bit_at_cat_low, bit_at_cat_high}
use Rattle.matroid_theory.specs.Rep.{Rep, size}
use Rattle.matroid_theory.specs.Matroid.{members, IsBasis}
use Rattle.matroid_theory.specs.Minor.{Matroid, image, IsMinorBy}
use Rattle.matrix_lemmas.proofs.Sums.{same_number, other_number}
use Rattle.matrix_lemmas.proofs.Masks.{IsBasis-same}
use Rattle.minor_test.specs.declared.search.Images.{Images}
use Rattle.matroid_theory.specs.Tables.{has}
use Rattle.minor_test.specs.Tables.{HasBases, HasMasks}
use Rattle.minor_test.specs.Searches.{first, AgreeBelow, AreImagesOf, image_with, CarriesNext}
use Rattle.minor_test.proofs.Images.{image-same, image_narrower, image_has, image_lacks, image_with_next}
use Rattle.minor_test.proofs.Embeddings.{embedding-same, one_more_embedded}

-- a mask with one more element
members_or : (X e i : ℕ) → members (bit_or X (2 ^ e)) i ≡ (members X i || (e == i))
members_or X e i = ap (λ b. b == 1) (bit_at_or X (2 ^ e) i) ∙ elim (cases_eq i e) [
  | inl s ↦ (let b : bit_at X i < 2 = bit_at-lt X i in
      let o : bit_at (2 ^ e) i ≡ 1 = ap (bit_at (2 ^ e)) s ∙ bit_at-pow_same e in
      let m : max (bit_at X i) (bit_at (2 ^ e) i) ≡ 1 = omega arith in
      ap (λ b. b == 1) m ∙ top (members X i) (e == i) (ap (λ x. e == x) s ∙ same_number e))
  | inr ne ↦ (let o : bit_at (2 ^ e) i ≡ 0 = bit_at-pow_other e i ne in
      let m : max (bit_at X i) (bit_at (2 ^ e) i) ≡ bit_at X i = omega arith in
      ap (λ b. b == 1) m ∙ same (members X i) (e == i) (other_number e i (λ s. ne (sym s))))
]
  where
    top : (a b : Bool) → b ≡ true → true ≡ (a || b)
    top true b e = refl
    top false b e = sym e

    same : (a b : Bool) → b ≡ false → a ≡ (a || b)
    same true b e = refl
    same false b e = sym e

-- the bits of 2 ^ n + X
below_top : (n X x : ℕ) → x < n → members (2 ^ n + X) x ≡ members X x
below_top n X x l = let e : 2 ^ n + X ≡ 1 * 2 ^ n + X = omega arith in ap (λ y. members y x) e ∙ ap (λ b. b == 1) (bit_at_cat_low 1 n X x l)

at_top : (n X : ℕ) → X < 2 ^ n → members (2 ^ n + X) n ≡ true
at_top n X l =
    let e : 2 ^ n + X ≡ 1 * 2 ^ n + X = omega arith in
    let k : n ≤ n = omega arith in
    let z : n - n ≡ 0 = omega arith in
    ap (λ y. members y n) e ∙ ap (λ b. b == 1) (bit_at_cat_high 1 n X n l k ∙ ap (bit_at 1) z)

-- an answer is settled by what it is true of
pub same_from_iff : {P Q : Type 0} (a b : Bool) → IsTrue a ↔ P → IsTrue b ↔ Q → P ↔ Q → a ≡ b
same_from_iff true true h k i = refl
same_from_iff true false h k i = sym (k.1 (i.0 (h.0 refl)))
same_from_iff false true h k i = h.1 (i.1 (k.0 refl))
same_from_iff false false h k i = refl

module _ (N : Matroid) (M : Rep) (C n : ℕ) (images : Images) (sets : List ℕ) (j : ℕ) where
  -- the images with this one
  abbrev old : ℕ → ℕ
  old = slice_index images.list.items

  abbrev new : ℕ → ℕ
  new = slice_index (images.list.items ++ j ∷ [])

  module _ (e : length images.list.items ≡ n) where
    new_before : (x : ℕ) → x < n → new x ≡ old x
    new_before x l = get_or_append_left images.list.items (j ∷ []) 0 x (omega arith)

    new_last : new n ≡ j
    new_last =
        let z : length images.list.items + 0 ≡ n = omega arith in
        ap new (sym z) ∙ get_or-append-add images.list.items (j ∷ []) 0 0

    -- a set of the first elements and the next has this image
    image_next : (S : ℕ → Bool) (i : ℕ) → S n ≡ true → image_with (suc n) new (members C) S i ≡ (image_with n old (members C) S i || (j == i))
    image_next S i t =
        image_with_next n new (members C) S i t
        ∙ (λ u. (image-same n new old S S i new_before (λ _ _. refl) u || members C i) || (new_last u == i))

    image_top : (X i : ℕ) → X < 2 ^ n → image_with (suc n) new (members C) (members (2 ^ n + X)) i ≡ (image_with n old (members C) (members X) i || (j == i))
    image_top X i l =
        image_next (members (2 ^ n + X)) i (at_top n X l)
        ∙ ap (λ a. (a || members C i) || (j == i)) (image-same n old old (members (2 ^ n + X)) (members X) i (λ _ _. refl) (λ x m. below_top n X x m))

    -- and one of the first elements the image that it had
    image_before : (X i : ℕ) → X < 2 ^ n → image_with (suc n) new (members C) (members X) i ≡ image_with n old (members C) (members X) i
    image_before X i l =
        ap (λ a. a || members C i)
        (image_narrower n (suc n) new (members X) i (omega arith) (λ x o _. ap (λ b. b == 1) (bit_at_above X n x l o))
        ∙ image-same n new old (members X) (members X) i new_before (λ _ _. refl))

    module _ (h : AreImagesOf N M C n images sets) (l : j < size M) where
      -- the mask of a set's image
      mask_top : (X i : ℕ) → X < 2 ^ n → i < size M →
          members (bit_or (slice_index sets X) (2 ^ j)) i ≡ image_with (suc n) new (members C) (members (2 ^ n + X)) i
      mask_top X i m o = members_or (slice_index sets X) j i ∙ ap (λ a. a || (j == i)) (h.sets_are X m i o) ∙ sym (image_top X i m)

      mask_below : (X : ℕ) → X < 2 ^ n → bit_or (slice_index sets X) (2 ^ j) < 2 ^ size M
      mask_below X m = or_lt (size M) (slice_index sets X) (2 ^ j) (h.sets_below X m) (pow_below j (size M) l)

      -- an image is new
      pub next_free : IsMinorBy (first N (n + 1)) M new (members C) → members images.used j ≡ false
      next_free g =
          h.used j l
          ∙ ap (λ a. a || members C j)
          (image_lacks n old (λ _. true) j
          (λ x m s. absurd (let i : x ≡ n = g.injection.apart x n (omega arith) (omega arith)
          (new_before x m ∙ s ∙ sym new_last) in omega arith)))
          ∙ ap (members C) (sym new_last) ∙ g.outside n (omega arith)

      module _ (minor whole : List ℕ) (has_masks : HasMasks N.bases minor) (has_bases : HasBases M whole) (room : 2 ^ suc n ≤ 2 ^ 16) where
        in_minor : (X : ℕ) → X < 2 ^ n → IsTrue (has minor (2 ^ n + X)) ↔ Contains N.bases (2 ^ n + X)
        in_minor X m = has_masks.exact (2 ^ n + X) (let d : 2 ^ suc n ≡ 2 ^ n + 2 ^ n = two-pow-succ n in omega arith)

        in_whole : (X : ℕ) → X < 2 ^ n →
            IsTrue (has whole (bit_or (slice_index sets X) (2 ^ j))) ↔ IsBasis M 0
            (image_with (suc n) new (members C) (members (2 ^ n + X)))
        in_whole X m =
            let w = has_bases.exact (bit_or (slice_index sets X) (2 ^ j)) (mask_below X m) in (
              (λ y. IsBasis-same M 0 (members (bit_or (slice_index sets X) (2 ^ j)))
                  (image_with (suc n) new (members C) (members (2 ^ n + X))) (λ i o. mask_top X i m o) (w.0 y)),
              (λ b. w.1 (IsBasis-same M 0 (image_with (suc n) new (members C) (members (2 ^ n + X)))
                  (members (bit_or (slice_index sets X) (2 ^ j))) (λ i o. sym (mask_top X i m o)) b)),
            )

        -- what is tested
        pub next_from : members images.used j ≡ false → CarriesNext minor whole (2 ^ n) sets j → IsMinorBy (first N (n + 1)) M new (members C)
        next_from free c = subst (λ (y : ℕ). IsMinorBy (first N y) M new (members C)) (sym (add-one n)) (
            let (unreached, out) = or_parts (image n old (λ _. true) j) (members C j) (sym (h.used j l) ∙ free) in
            one_more_embedded N M n new (members C) (subst (λ (y : ℕ). y < size M) (sym new_last) l) (ap (members C) new_last ∙ out)
            (λ x m s. false≢true (sym unreached ∙ ap (image n old (λ _. true)) (sym new_last ∙ sym s ∙ new_before x m) ∙ image_has n old (λ _. true) x m refl))
            (λ X m. let s = c X m in (
              (λ p. (in_whole X m).0 (sym s ∙ (in_minor X m).1 p)),
              (λ b. (in_minor X m).0 (s ∙ (in_whole X m).1 b)),
            ))
            (embedding-same (first N n) M old new (members C) (λ x m. sym (new_before x m)) h.embedding))

        pub next_carries : IsMinorBy (first N (n + 1)) M new (members C) → CarriesNext minor whole (2 ^ n) sets j
        next_carries g X o =
            same_from_iff (has minor (2 ^ n + X)) (has whole (bit_or (slice_index sets X) (2 ^ j)))
            (in_minor X o) (in_whole X o)
            ((subst (λ (y : ℕ). IsMinorBy (first N y) M new (members C)) (add-one n) g).bases (2 ^ n + X)
            (let d : 2 ^ suc n ≡ 2 ^ n + 2 ^ n = two-pow-succ n in omega arith))

      -- what is kept with this image
      pub images_next : (longer : Images) (after : List ℕ) → longer.list.items ≡ images.list.items ++ j ∷ [] → longer.used ≡ bit_or images.used (2 ^ j)
          → AgreeBelow (2 ^ n) sets after → ((X : ℕ) → X < 2 ^ n → slice_index after (2 ^ n + X) ≡ bit_or (slice_index sets X) (2 ^ j))
          → n < N.size → IsMinorBy (first N (n + 1)) M new (members C) → AreImagesOf N M C (suc n) longer after
      images_next longer after el eu low high room g = record {
        few = omega arith;
        embedding = subst (λ (xs : List ℕ). IsMinorBy (first N (suc n)) M (slice_index xs) (members C)) (sym el)
            (subst (λ (y : ℕ). IsMinorBy (first N y) M new (members C)) (add-one n) g);
        used_below = subst (λ (x : ℕ). x < 2 ^ size M) (sym eu) (or_lt (size M) images.used (2 ^ j) h.used_below (pow_below j (size M) l));
        used = λ i o. ap (λ x. members x i) eu ∙ members_or images.used j i ∙ ap (λ a. a || (j == i)) (h.used i o)
            ∙ sym (image_next (λ _. true) i refl) ∙ ap (λ (xs : List ℕ). image_with (suc n) (slice_index xs) (members C) (λ _. true) i) (sym el);
        sets_below = λ X m. elim (cases_lt X (2 ^ n)) [
          | inl b ↦ subst (λ (x : ℕ). x < 2 ^ size M) (sym (low X b)) (h.sets_below X b)
          | inr v ↦ (let (Y, o, e) = split X m v in subst (λ (y : ℕ). y < 2 ^ size M) (sym (ap (slice_index after) (sym e) ∙ high Y o)) (mask_below Y o))
        ];
        sets_are = λ X m i o. (elim (cases_lt X (2 ^ n)) [
          | inl b ↦ ap (λ x. members x i) (low X b) ∙ h.sets_are X b i o ∙ sym (image_before X i b)
          | inr v ↦ (let (Y, p, e) = split X m v in ap (λ x. members x i) (ap (slice_index after) (sym e) ∙ high Y p)
              ∙ mask_top Y i p o ∙ ap (λ x. image_with (suc n) new (members C) (members x) i) e)
        ]) ∙ ap (λ (xs : List ℕ). image_with (suc n) (slice_index xs) (members C) (members X) i) (sym el);
      }
        where
          split : (X : ℕ) → X < 2 ^ suc n → 2 ^ n ≤ X → (Y : ℕ) × (Y < 2 ^ n) × (2 ^ n + Y ≡ X)
          split X m g = let d : 2 ^ suc n ≡ 2 ^ n + 2 ^ n = two-pow-succ n in (X - 2 ^ n, omega arith, omega arith)

-- the sets are still right where they agree
pub images_kept : (N : Matroid) (M : Rep) (C n : ℕ) (images : Images) (sets others : List ℕ) → AgreeBelow (2 ^ n) sets others →
    AreImagesOf N M C n images sets → AreImagesOf N M C n images others
images_kept N M C n images sets others e h = record {
  few = h.few;
  embedding = h.embedding;
  used_below = h.used_below;
  used = h.used;
  sets_below = λ X l. subst (λ (x : ℕ). x < 2 ^ size M) (sym (e X l)) (h.sets_below X l);
  sets_are = λ X l j m. ap (λ x. members x j) (e X l) ∙ h.sets_are X l j m;
}

-- there are few sets of the first elements
pub room_below : (s n : ℕ) → s ≤ 10 → n < s → 2 ^ suc n ≤ 2 ^ 16
room_below s n m l = pow-le-pow_right {n = 2} (lit< tt) {i = suc n} {j = 16} (omega arith)

pub few_sets : (s n sets : ℕ) → s ≤ 10 → n < s → sets ≡ 2 ^ n → sets ≤ 512
few_sets s n sets m l e = let p : 2 ^ n ≤ 2 ^ 9 = pow-le-pow_right {n = 2} (lit< tt) {i = n} {j = 9} (omega arith) in omega arith
