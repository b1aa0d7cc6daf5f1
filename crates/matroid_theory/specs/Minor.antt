-- Lists of bases, relabellings and minors.
use Rattle.std.specs.Prelude.{ℕ, zero, suc, ◌+◌, ◌<◌, ◌^◌, ◌≡◌, ◌↔◌, ◌==◌, ◌||◌, ◌&&◌, Bool, false, List}
use Rattle.std.specs.List.{Contains}
use Rattle.std.specs.List.Sorted.{IsStrictlyIncreasing}
use Rattle.matroid_theory.specs.Matrix.{size_below}
use Rattle.matroid_theory.specs.Rep.{Rep, size}
use Rattle.matroid_theory.specs.Matroid.{members, IsBasis}
use Rattle.matroid_theory.specs.Move.{ArePermutation}

-- a matroid by its rank, its size and the masks of its bases
pub record Matroid : Type 0 where
  pub rank : ℕ
  pub size : ℕ
  pub bases : List ℕ

-- the rising list of the bases of M in its first factor
pub record AreBases (M : Rep) (bases : List ℕ) : Type 0 where
  pub rising : IsStrictlyIncreasing bases
  pub exact : (X : ℕ) → Contains bases X ↔ ((X < 2 ^ size M) × IsBasis M 0 (members X))

-- N is the matroid of the first factor of M
pub record IsMatroidOf (M : Rep) (N : Matroid) : Type 0 where
  pub ranks : N.rank ≡ M.rank
  pub sizes : N.size ≡ size M
  pub bases : AreBases M N.bases

-- whether the test passes at some number below n
abbrev pub any_below : ℕ → (ℕ → Bool) → Bool
any_below zero p = false
any_below (suc n) p = any_below n p || p n

-- f(X), for X a set of numbers below n
abbrev pub image : ℕ → (ℕ → ℕ) → (ℕ → Bool) → ℕ → Bool
image n f X k = any_below n (λ x. X x && (f x == k))

-- f carries the numbers below n one to one to numbers below m
pub record IsInjection (n m : ℕ) (f : ℕ → ℕ) : Type 0 where
  pub below : (x : ℕ) → x < n → f x < m
  pub apart : (x y : ℕ) → x < n → y < n → f x ≡ f y → x ≡ y

-- X is a basis of N exactly where f(X) together with C is a basis of M, for an injection f and a set C outside its image
pub record IsMinorBy (N : Matroid) (M : Rep) (f : ℕ → ℕ) (C : ℕ → Bool) : Type 0 where
  pub injection : IsInjection N.size (size M) f
  pub outside : (x : ℕ) → x < N.size → C (f x) ≡ false
  pub contracted : N.rank + size_below (size M) C ≡ M.rank
  pub bases : (X : ℕ) → X < 2 ^ N.size → Contains N.bases X ↔ IsBasis M 0 (λ k. image N.size f (members X) k || C k)

abbrev pub IsMinor : Matroid → Rep → Type 0
IsMinor N M = (f : ℕ → ℕ) × (C : ℕ → Bool) × IsMinorBy N M f C

-- the permutation p carries the bases of M exactly to those of N
pub record AreIsomorphicBy (M N : Matroid) (p u : ℕ → ℕ) : Type 0 where
  pub ranks : N.rank ≡ M.rank
  pub sizes : N.size ≡ M.size
  pub labels : ArePermutation M.size p u
  pub bases : (X Y : ℕ) → X < 2 ^ M.size → Y < 2 ^ M.size → ((j : ℕ) → j < M.size → members Y (p j) ≡ members X j) → Contains M.bases X ↔ Contains N.bases Y

-- M and N have the same bases up to relabelling
pub record HaveSameMatroid (M N : Rep) : Type 0 where
  pub ranks : N.rank ≡ M.rank
  pub sizes : size N ≡ size M
  pub label : ℕ → ℕ
  pub place : ℕ → ℕ
  pub labels : ArePermutation (size M) label place
  pub bases : (S : ℕ → Bool) → IsBasis M 0 (λ j. S (label j)) ↔ IsBasis N 0 S
