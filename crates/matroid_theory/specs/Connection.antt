-- Ranks of sets, separations and connectivity, in the first factor (Oxley, chapter 8).
--     They are meant for a representation that agrees: all factors then have the same ranks, and the rank of all columns is that of the representation.
use Rattle.std.specs.Prelude.{ℕ, ◌+◌, ◌<◌, ◌≤◌, Bool, not, ◌==◌, ◌||◌}
use Rattle.matroid_theory.specs.Matrix.{size_below, IsRankOf}
use Rattle.matroid_theory.specs.Rep.{Rep, size, order, matrix}

-- k is the rank of the set of columns
abbrev pub IsRank : Rep → (ℕ → Bool) → ℕ → Type 0
IsRank M S k = IsRankOf (order M 0) M.rank (size M) (matrix M 0) S k

-- a k-separation: X and its complement have k elements or more, and r(X) + r(E - X) - r(M) is below k
pub record IsSeparation (M : Rep) (k : ℕ) (X : ℕ → Bool) : Type 0 where
  pub large : k ≤ size_below (size M) X
  pub other_large : k ≤ size_below (size M) (λ j. not (X j))
  pub rank : ℕ
  pub other_rank : ℕ
  pub is_rank : IsRank M X rank
  pub is_other_rank : IsRank M (λ j. not (X j)) other_rank
  pub small : rank + other_rank < M.rank + k

abbrev pub IsConnected : Rep → Type 0
IsConnected M = (X : ℕ → Bool) → ¬ (IsSeparation M 1 X)

abbrev pub Is3Connected : Rep → Type 0
Is3Connected M = (X : ℕ → Bool) → ¬ (IsSeparation M 1 X) × ¬ (IsSeparation M 2 X)

-- leaving out any one element, or any two, keeps the rank
abbrev pub IsCosimple : Rep → Type 0
IsCosimple M = (i j : ℕ) → i < size M → j < size M → IsRank M (λ k. not ((k == i) || (k == j))) M.rank
