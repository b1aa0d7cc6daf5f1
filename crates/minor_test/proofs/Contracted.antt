-- Sets that may be contracted.
use Rattle.std.proofs.Common.{◌≡◌, ◌↔◌, ℕ, ◌+◌, ◌^◌, ◌<◌, refl, sym, ◌∙◌, ap, subst, arith, lit<, Bool, true, false, ◌||◌, List, [], length, slice_index}
use Rattle.std.specs.List.{Contains}
use Rattle.std.proofs.lemmas.List.Elements.{Contains-get_or}
use Rattle.matroid_theory.specs.Matrix.{size_below}
use Rattle.matroid_theory.specs.Rep.{Rep, size, order, matrix}
use Rattle.matroid_theory.specs.Matroid.{members, IsBasis, IsIndependentIn}
use Rattle.matroid_theory.specs.Minor.{Matroid, image, IsMinorBy}
use mathlib.Core.Bool.{true≢false}
use Rattle.matrix_lemmas.proofs.Bases.{smaller_independent}
use Rattle.named_matroids.specs.SmallMatroids.{IsSmallMatroid}
use Rattle.minor_test.specs.declared.search.Images.{Images}
use Rattle.matroid_theory.specs.Tables.{has}
use Rattle.minor_test.specs.Tables.{HasBases, HasMasks}
use Rattle.minor_test.specs.Searches.{AreImagesOf, image_with}
use Rattle.minor_test.proofs.Embeddings.{narrower, none_embedded}
use Rattle.minor_test.proofs.NextImage.{same_from_iff}

-- the contracted set of an embedding is part of a basis
pub contracted_independent : (N : Matroid) (M : Rep) (C : ℕ) → IsSmallMatroid N → (f : ℕ → ℕ) → IsMinorBy N M f (members C) →
    IsIndependentIn M 0 (members C)
contracted_independent N M C small f h =
    smaller_independent (order M 0) M.rank (size M) (matrix M 0) (members C) S
    (λ j l e. (or_false (image N.size f (members B) j) (members C j) e).1) basis.independent
  where
    B : ℕ
    B = slice_index N.bases 0

    S : ℕ → Bool
    S = image_with N.size f (members C) (members B)

    basis : IsBasis M 0 S
    basis = (h.bases B (small.below 0 0 small.some)).0 (Contains-get_or N.bases 0 0 small.some)

    or_false : (a b : Bool) → (a || b) ≡ false → (a ≡ false) × (b ≡ false)
    or_false false false e = (refl, refl)
    or_false true b e = absurd (true≢false e)
    or_false false true e = absurd (true≢false e)

module _ (N : Matroid) (M : Rep) (C : ℕ) where
  -- it is a basis exactly where the minor has the empty one
  pub empty_alike : (f : ℕ → ℕ) → IsMinorBy N M f (members C) → Contains N.bases 0 ↔ IsBasis M 0 (members C)
  empty_alike f h = (narrower N M 0 f (members C) (omega arith) h).bases 0 (lit< tt)

  -- as their tables say
  pub tables_alike : C < 2 ^ size M → (minor whole : List ℕ) → HasMasks N.bases minor → HasBases M whole →
      (has minor 0 ≡ has whole C) ↔ (Contains N.bases 0 ↔ IsBasis M 0 (members C))
  tables_alike below minor whole m w = (
    (λ e. ((λ p. (w.exact C below).0 (sym e ∙ (m.exact 0 (lit< tt)).1 p)), (λ b. (m.exact 0 (lit< tt)).0 (e ∙ (w.exact C below).1 b)))),
    (λ i. same_from_iff (has minor 0) (has whole C) (m.exact 0 (lit< tt)) (w.exact C below) i),
  )

  -- so with none of the elements the search may begin
  pub begins : C < 2 ^ size M → (images : Images) (sets : List ℕ) → images.list.items ≡ [] → images.used ≡ C → slice_index sets 0 ≡ C
      → N.rank + size_below (size M) (members C) ≡ M.rank → (Contains N.bases 0 ↔ IsBasis M 0 (members C)) →
      AreImagesOf N M C (length images.list.items) images sets
  begins below images sets el eu es r e = subst (λ (n : ℕ). AreImagesOf N M C n images sets) (sym (ap (λ (xs : List ℕ). length xs) el)) (record {
    few = omega arith;
    embedding = none_embedded N M (slice_index images.list.items) (members C) r e;
    used_below = subst (λ (x : ℕ). x < 2 ^ size M) (sym eu) below;
    used = λ j _. ap (λ x. members x j) eu;
    sets_below = λ X l. subst (λ (x : ℕ). x < 2 ^ size M) (sym (first_set X l)) below;
    sets_are = λ X l j _. ap (λ x. members x j) (first_set X l);
  })
    where
      first_set : (X : ℕ) → X < 1 → slice_index sets X ≡ C
      first_set X l = let z : X ≡ 0 = omega arith in ap (slice_index sets) z ∙ es
