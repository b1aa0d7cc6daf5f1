-- Sets of at most 10 elements have a place in a small table.
use Rattle.std.proofs.Common.{ℕ, ◌^◌, ◌<◌, ◌≤◌, arith, lit<}
use Rattle.std.specs.List.{All}
use Rattle.std.proofs.Math.Nat.{pow-le-pow_right}
use Rattle.matroid_theory.specs.Minor.{Matroid}
use Rattle.named_matroids.specs.SmallMatroids.{IsSmallMatroid}

pub in_table : (n X : ℕ) → n ≤ 10 → X < 2 ^ n → X < 1024
in_table n X l m = let p : 2 ^ n ≤ 2 ^ 10 = pow-le-pow_right {n = 2} (lit< tt) {i = n} {j = 10} l in omega arith

pub all_in_table : (N : Matroid) → IsSmallMatroid N → All (λ X. X < 1024) N.bases
all_in_table N small i d l = in_table N.size _ small.size_most (small.below i d l)
