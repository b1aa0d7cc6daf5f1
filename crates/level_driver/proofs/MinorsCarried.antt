-- Equivalent representations have the same minors, and what is given is one list of matroids.
use Rattle.std.proofs.Common.{◌≡◌, ℕ, ◌+◌, ◌<◌, List, ◌&&◌, ◌||◌, Bool, length, sym, ◌∙◌, ap, subst, inl, inr}
use Rattle.std.specs.Bool.{◌==◌}
use Rattle.std.proofs.lemmas.Bool.{cases_eq}
use Rattle.matroid_theory.specs.declared.Mode.{Mode}
use Rattle.matroid_theory.specs.Rep.{Rep, count, size}
use Rattle.matroid_theory.specs.Matrix.{size_below}
use Rattle.matroid_theory.specs.Matroid.{members}
use Rattle.matroid_theory.specs.Minor.{Matroid, image, IsMinor}
use Rattle.matroid_theory.specs.Move.{ArePermutation, AreEquivalent}
use Rattle.matroid_laws.proofs.Carried.{basis_carried}
use Rattle.matrix_lemmas.proofs.Counts.{size_relabelled}
use Rattle.matroid_laws.proofs.Equivalence.{equivalent-symmetric}
use Rattle.matrix_lemmas.proofs.Masks.{IsBasis-same, any_below-same}
use Rattle.matrix_lemmas.proofs.Sums.{same_number, other_number}
use Rattle.level_driver.specs.Forbidden.{Avoids}

-- a number has the label of j exactly where j is its place
same_place : (n : ℕ) (label place : ℕ → ℕ) → ArePermutation n label place → (k j : ℕ) → k < n → j < n → (k == label j) ≡ (place k == j)
same_place n label place v k j l m =
    elim (cases_eq k (label j)) [
      | inl e ↦ ap (λ x. x == label j) e ∙ same_number (label j) ∙ sym (ap (λ x. x == j) (ap place e ∙ v.there j m) ∙ same_number j)
      | inr ne ↦ other_number k (label j) ne ∙ sym (other_number (place k) j (λ e. ne (sym (v.back k l) ∙ ap label e)))
    ]

module _ (mode : Mode) (M L : Rep) (e : AreEquivalent mode M L) (some : 0 < count M) (N : Matroid) where
  label : ℕ → ℕ
  label = e.move.label

  place : ℕ → ℕ
  place = e.move.place

  as_large : size L ≡ size M
  as_large = ap (λ s. s.size) e.takes.same_shape

  labels : ArePermutation (size M) e.move.label e.move.place
  labels = e.valid.labels

  -- a minor stays one under a move: an image goes to its place, and so does what is contracted
  pub minor_over : IsMinor N M → IsMinor N L
  unfolding label place
  minor_over (f, C, h) = (
    λ x. place (f x),
    λ j. C (label j),
    record {
      injection = record {
        below = λ x l. subst (λ n. place (f x) < n) (sym as_large) (labels.inverse_below (f x) (h.injection.below x l));
        apart = λ x y l m same. h.injection.apart x y l m
            (sym (labels.back (f x) (h.injection.below x l)) ∙ ap label same ∙ labels.back (f y) (h.injection.below y m));
      };
      outside = λ x l. ap C (labels.back (f x) (h.injection.below x l)) ∙ h.outside x l;
      contracted = ap (λ n. N.rank + n)
          (ap (λ n. size_below n (λ j. C (label j))) as_large ∙ size_relabelled (size M) label place labels C) ∙ h.contracted
          ∙ sym (ap (λ s. s.rank) e.takes.same_shape);
      bases = λ X l.
          let b = h.bases X l in
          let T : ℕ → Bool = λ k. image N.size f (members X) k || C k in
          let T' : ℕ → Bool = λ k. image N.size (λ x. place (f x)) (members X) k || C (label k) in
          let same : (j : ℕ) → j < size L → T (label j) ≡ T' j =
          λ j m k. any_below-same N.size (λ x. members X x && (f x == label j)) (λ x. members X x && (place (f x) == j))
          (λ x o k. members X x && same_place (size M) label place labels (f x) j (h.injection.below x o)
          (subst (λ n. j < n) as_large m) k) k || C (label j) in
          let over = basis_carried mode M L e.move e.shaped e.valid e.takes 0 some T in (
            λ c. IsBasis-same L 0 (λ j. T (label j)) T' same (over.0 (b.0 c)),
            λ d. b.1 (over.1 (IsBasis-same L 0 T' (λ j. T (label j)) (λ j m. sym (same j m)) d)),
          );
    },
  )

-- of two equivalent representations both avoid matroids, or neither
pub avoids_over : (mode : Mode) (M L : Rep) → AreEquivalent mode M L → 0 < count M → (Ns : List Matroid) → Avoids Ns M → Avoids Ns L
avoids_over mode M L e some Ns avoids k d l minor =
    avoids k d l (minor_over mode L M (equivalent-symmetric mode M L e)
    (subst (λ (n : ℕ). 0 < n) (sym (ap (λ s. length s.factors) e.takes.same_shape)) some) _ minor)
