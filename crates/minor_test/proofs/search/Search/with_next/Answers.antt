use Rattle.std.proofs.Common.{◌≡◌, ◌≤◌, ◌<◌, ◌+◌, ◌*◌, ◌%◌, ◌^◌, ◌++◌, ◌∷◌, [], ℕ, List, sym, ◌∙◌, ap, subst, arith, length, length-append, add-one, bit_or, slice_index, refl}
use Rattle.std.proofs.lemmas.Nat.{one_shl}
use Rattle.matroid_theory.specs.Rep.{size, KeepsLimits}
use Rattle.minor_test.specs.Searches.{AgreeBelow, AreImagesOf}
use Rattle.minor_test.proofs.NextImage.{images_next}
use Rattle.minor_test.proofs.search.Search.with_next.Goals as goal

pub returns-clause-kept : goal.returns-clause-kept
returns-clause-kept c = subst (λ (n : ℕ). AgreeBelow n c.args.sets.now c.add_next.new.sets) c.reached.ensures.value c.add_next.ensures.kept

pub returns-clause-images : goal.returns-clause-images
returns-clause-images c =
    let r : KeepsLimits c.args.self.now.whole.now = c.laws.ensures in
    let m : size c.args.self.now.whole.now ≤ 16 = r.size_most in
    let l : c.args.image < size c.args.self.now.whole.now = c.requires.image in
    let b : c.args.image < 16 = omega arith in
    let e : c.followed_by.result.items ≡ c.args.images.now.list.items ++ c.args.image ∷ [] = c.followed_by.ensures
    ∙ ap (λ (xs : List ℕ). xs ++ c.args.image ∷ []) c.as_slice.ensures.value in
    subst (λ (n : ℕ). AreImagesOf c.args.self.now.sought.now c.args.self.now.whole.now c.args.self.now.contracted n
    (record { list = c.followed_by.result; used = bit_or c.args.images.now.used (1 * 2 ^ c.args.image % 65536) }) c.add_next.new.sets)
    (sym (ap (λ (xs : List ℕ). length xs) e ∙ length-append c.args.images.now.list.items (c.args.image ∷ []) ∙ add-one (length c.args.images.now.list.items)))
    (images_next c.args.self.now.sought.now c.args.self.now.whole.now c.args.self.now.contracted
    (length c.args.images.now.list.items) c.args.images.now c.args.sets.now c.args.image refl c.requires.images l
    (record { list = c.followed_by.result; used = bit_or c.args.images.now.used (1 * 2 ^ c.args.image % 65536) }) c.add_next.new.sets
    e (ap (bit_or c.args.images.now.used) (one_shl c.args.image 16 b))
    (returns-clause-kept c)
    (subst (λ (n : ℕ). (X : ℕ) → X < n →
    slice_index c.add_next.new.sets (n + X) ≡ bit_or (slice_index c.args.sets.now X) (2 ^ c.args.image)) c.reached.ensures.value
    c.add_next.ensures.added)
    c.requires.room
    c.requires.next)
