-- Ordered bases: as sets, in another order, and with other elements in rows that don't count.
use Rattle.std.proofs.Common.{◌≡◌, inl, inr, ℕ, ◌<◌, ◌≤◌, sym, ◌∙◌, ap, subst}
use Rattle.std.specs.Bool.{nat_lt}
use Rattle.std.proofs.lemmas.Bool.{cases_lt}
use Rattle.matroid_theory.specs.Field.{IsField, times}
use Rattle.matroid_theory.specs.Matrix.{Matrix, combination}
use Rattle.matroid_theory.specs.Rep.{Rep, count, size, order, matrix, IsShaped}
use Rattle.matroid_theory.specs.Matroid.{IsBasis}
use Rattle.matroid_theory.specs.Move.{ArePermutation}
use Rattle.matrix_lemmas.proofs.Sums.{sum_same, sum_relabelled, times_zero}
use Rattle.matrix_lemmas.proofs.Steps.{Independent, all_coefficients}
use Rattle.matrix_lemmas.proofs.Counts.{size_relabelled}
use Rattle.matroid_laws.proofs.Rest.{size_front}
use Rattle.matroid_laws.proofs.Standard.{set_of_independent}
use Rattle.matroid_laws.proofs.Carried.{inverse_permutation}
use Rattle.form_trails.specs.Trail.{Trail, AreCoordinates, AreZeroBefore}
use Rattle.form_trails.proofs.Entries.{field}

module _ (q : ℕ) (F : IsField q) (r : ℕ) where
  -- independent columns in another order
  pub independent_relabelled : (A : Matrix) (p u : ℕ → ℕ) → ArePermutation r p u → Independent q r r A → Independent q r r (λ i l. A i (p l))
  independent_relabelled A p u w h = record {
    only_zero = λ a c z l b.
        ap a (sym (w.there l b))
        ∙ h.only_zero (λ j. a (u j)) (all_coefficients q F r r r (λ j. a (u j)) (λ j m. c.codes (u j) (w.inverse_below j m)))
        (λ i m. rows a i ∙ z i m) (p l) (w.below l b);
  }
    where
      rows : (a : ℕ → ℕ) (i : ℕ) → combination q r A (λ j. a (u j)) i ≡ combination q r (λ i l. A i (p l)) a i
      rows a i =
          sym (sum_relabelled q F r p u w (λ k. times q (A i k) (a (u k))) (λ k _. F.times_below (A i k) (a (u k))))
          ∙ sum_same q F r (λ l. times q (A i (p l)) (a (u (p l)))) (λ l. times q (A i (p l)) (a l)) (λ l b. ap (λ y. times q (A i (p l)) (a y)) (w.there l b))

module _ (M : Rep) (shaped : IsShaped M) where
  -- the first rank elements as a set
  pub first_basis : (label place : ℕ → ℕ) → ArePermutation (size M) label place → M.rank ≤ size M → (f : ℕ) → f < count M
      → Independent (order M f) M.rank M.rank (λ i l. matrix M f i (label l)) → IsBasis M f (λ j. nat_lt (place j) M.rank)
  first_basis label place w room f l h = record {
    full = size_relabelled (size M) place label (inverse_permutation (size M) label place w) (λ j. nat_lt j M.rank) ∙ size_front M.rank (size M) room;
    independent = set_of_independent (order M f) (field M shaped f l) M.rank (size M) (matrix M f) label place room w h;
  }

  -- coordinates with the same codes
  pub coordinates_same : (d : Trail) (x : ℕ) (c v : ℕ → ℕ → ℕ) → AreCoordinates M d x c →
      ((f i : ℕ) → f < count M → i < M.rank → c f i ≡ v f i) → AreCoordinates M d x v
  coordinates_same d x c v a e = record {
    codes = λ f i l b. subst (λ y. y < order M f) (e f i l b) (a.codes f i l b);
    scale = a.scale;
    scale_code = a.scale_code;
    scale_nonzero = a.scale_nonzero;
    combined = λ f i l b.
        sum_same (order M f) (field M shaped f l) M.rank (λ j. times (order M f) (matrix M f i (d.label j)) (times (order M f) (d.scalar f j) (v f j)))
        (λ j. times (order M f) (matrix M f i (d.label j)) (times (order M f) (d.scalar f j) (c f j)))
        (λ j o. ap (λ y. times (order M f) (matrix M f i (d.label j)) (times (order M f) (d.scalar f j) y)) (sym (e f j l o)))
        ∙ a.combined f i l b;
  }

  -- coordinates from row k on, where the elements and scalars from there on stay
  pub coordinates_kept : (d d' : Trail) (k : ℕ) → ((i : ℕ) → k ≤ i → i < M.rank → d'.label i ≡ d.label i) →
      ((f i : ℕ) → f < count M → k ≤ i → i < M.rank → d'.scalar f i ≡ d.scalar f i)
      → (x : ℕ) (c : ℕ → ℕ → ℕ) → AreCoordinates M d x c → AreZeroBefore M k c → AreCoordinates M d' x c
  coordinates_kept d d' k labels scalars x c a z = record {
    codes = a.codes;
    scale = a.scale;
    scale_code = a.scale_code;
    scale_nonzero = a.scale_nonzero;
    combined = λ f i l b.
        sum_same (order M f) (field M shaped f l) M.rank (λ j. times (order M f) (matrix M f i (d'.label j)) (times (order M f) (d'.scalar f j) (c f j)))
        (λ j. times (order M f) (matrix M f i (d.label j)) (times (order M f) (d.scalar f j) (c f j))) (λ j o. term f i j l o)
        ∙ a.combined f i l b;
  }
    where
      term : (f i j : ℕ) → f < count M → j < M.rank →
          times (order M f) (matrix M f i (d'.label j)) (times (order M f) (d'.scalar f j) (c f j)) ≡ times (order M f)
          (matrix M f i (d.label j)) (times (order M f) (d.scalar f j) (c f j))
      term f i j l o = let F = field M shaped f l in elim (cases_lt j k) [
        | inr g ↦ (λ t. times (order M f) (matrix M f i (labels j g o t)) (times (order M f) (scalars f j l g o t) (c f j)))
        | inl b ↦ nothing (matrix M f i (d'.label j)) (d'.scalar f j) (z f j l b) ∙ sym (nothing (matrix M f i (d.label j)) (d.scalar f j) (z f j l b))
      ]
        where
          nothing : (y t : ℕ) → c f j ≡ 0 → times (order M f) y (times (order M f) t (c f j)) ≡ 0
          nothing y t e = ap (λ v. times (order M f) y (times (order M f) t v)) e
              ∙ ap (times (order M f) y) (times_zero (order M f) (field M shaped f l) t) ∙ times_zero (order M f) (field M shaped f l) y
