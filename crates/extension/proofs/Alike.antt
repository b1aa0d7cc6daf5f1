-- Factors that are alike, by their columns.
use Rattle.std.proofs.Common.{◌≡◌, ◌↔◌, ◌+◌, ◌^◌, ◌<◌, ◌||◌, ℕ, Bool, List, IsTrue, subst, arith}
use Rattle.std.specs.Bool.{◌==◌}
use Rattle.arrayvec.specs.ArrayVec.{ArrayVec}
use Rattle.matroid_theory.specs.Matrix.{size_below}
use Rattle.matroid_theory.specs.Rep.{Rep, size, KeepsLimits}
use Rattle.matroid_theory.specs.Matroid.{members, IsIndependentIn}
use Rattle.column_sets.specs.Picked.{IsIndependentSet}
use Rattle.column_sets.specs.Sets.{IsSetOfSize}
use Rattle.bases.specs.FactorColumns.{IsFactorOf}
use Rattle.bases.proofs.Factors.{independent_same}
use Rattle.extension.specs.Steps.{with_new}

-- what holds of each set of one column fewer than the rank, under other names of the size and the rank
pub each_set : (M : Rep) (n k : ℕ) → n ≡ size M → k + 1 ≡ M.rank → (Q : (ℕ → Bool) → Type 0) (b : Bool)
    → (IsTrue b ↔ ((X : ℕ) → IsSetOfSize n k X → Q (λ j. (j == n) || members X j)))
    → IsTrue b ↔ ((X : ℕ) → X < 2 ^ size M → size_below (size M) (members X) + 1 ≡ M.rank → Q (with_new M (members X)))
each_set M n k e d Q b h = (
  (λ t X l s. named.0 t X (record { below = l; elements = omega arith })),
  (λ g. named.1 (λ X s. g X s.below (let f : size_below (size M) (members X) ≡ k = s.elements in omega arith))),
)
  where
    named : IsTrue b ↔ ((X : ℕ) → IsSetOfSize (size M) k X → Q (with_new M (members X)))
    named = subst (λ (n : ℕ). IsTrue b ↔ ((X : ℕ) → IsSetOfSize n k X → Q (λ j. (j == n) || members X j))) e h

module _ (P : Rep) (k : KeepsLimits P) (f p q : ℕ) (columns others : List (ArrayVec ℕ)) (x : IsFactorOf P 0 p columns)
    (y : IsFactorOf P f q others) (S : ℕ → Bool) where
  -- sets of columns as sets of the factors
  pub alike_in_factors : (IsIndependentSet p columns S ↔ IsIndependentSet q others S) → IsIndependentIn P 0 S ↔ IsIndependentIn P f S
  alike_in_factors h = (
    (λ d. (independent_same P k f q others y S).0 (h.0 ((independent_same P k 0 p columns x S).1 d))),
    (λ d. (independent_same P k 0 p columns x S).0 (h.1 ((independent_same P k f q others y S).1 d))),
  )

  pub alike_in_columns : (IsIndependentIn P 0 S ↔ IsIndependentIn P f S) → IsIndependentSet p columns S ↔ IsIndependentSet q others S
  alike_in_columns h = (
    (λ d. (independent_same P k f q others y S).1 (h.0 ((independent_same P k 0 p columns x S).0 d))),
    (λ d. (independent_same P k 0 p columns x S).1 (h.1 ((independent_same P k f q others y S).0 d))),
  )
