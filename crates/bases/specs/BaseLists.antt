-- What a list of bases keeps.
use Rattle.std.specs.Prelude.{◌<◌, ◌≤◌, ◌≡◌, ◌^◌}
use Rattle.std.specs.List.{All}
use Rattle.std.specs.List.Sorted.{IsStrictlyIncreasing}
use Rattle.matroid_theory.specs.Matrix.{size_below}
use Rattle.matroid_theory.specs.Matroid.{members}
use Rattle.matroid_theory.specs.Minor.{Matroid}

-- rank 1 to 6, size at most 16, and rising masks of rank many elements
pub record IsBaseList (N : Matroid) : Type 0 where
  pub rank_positive : 0 < N.rank
  pub rank_most : N.rank ≤ 6
  pub size_most : N.size ≤ 16
  pub rising : IsStrictlyIncreasing N.bases
  pub below : All (λ X. X < 2 ^ N.size) N.bases
  pub of_rank : All (λ X. size_below N.size (members X) ≡ N.rank) N.bases
