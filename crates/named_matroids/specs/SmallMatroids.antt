-- What a matroid of few elements keeps, and its dual.
use Rattle.std.specs.Prelude.{◌+◌, ◌-◌, ◌<◌, ◌≤◌, ◌≡◌, ◌^◌, length}
use Rattle.std.specs.List.{All, Contains}
use Rattle.std.specs.List.Sorted.{IsStrictlyIncreasing}
use Rattle.matroid_theory.specs.Matrix.{size_below}
use Rattle.matroid_theory.specs.Matroid.{members}
use Rattle.matroid_theory.specs.Minor.{Matroid}
use Rattle.column_sets.specs.Sets.{AreMasks}

-- 1 to 10 elements, and rising masks of rank many of them, at least one
pub record IsSmallMatroid (N : Matroid) : Type 0 where
  pub size_positive : 0 < N.size
  pub size_most : N.size ≤ 10
  pub rising : IsStrictlyIncreasing N.bases
  pub below : All (λ X. X < 2 ^ N.size) N.bases
  pub of_rank : All (λ X. size_below N.size (members X) ≡ N.rank) N.bases
  pub some : 0 < length N.bases

-- the bases of D are the complements of those of N (Oxley, section 2.1)
pub record IsDual (N D : Matroid) : Type 0 where
  pub sizes : D.size ≡ N.size
  pub ranks : D.rank + N.rank ≡ N.size
  pub bases : AreMasks N.size (λ X. Contains N.bases (2 ^ N.size - 1 - X)) D.bases
