-- Duals (Oxley, chapter 2), orthogonal representations and dual forms.
use Rattle.std.specs.Prelude.{ℕ, ◌+◌, ◌<◌, ◌≡◌, ◌↔◌, Bool, not, if◌then◌else◌}
use Rattle.std.specs.Bool.{nat_lt}
use Rattle.matroid_theory.specs.Field.{times, negative}
use Rattle.matroid_theory.specs.Matrix.{Matrix, sum_below, unit}
use Rattle.matroid_theory.specs.Rep.{Rep, count, size, order, matrix}
use Rattle.matroid_theory.specs.Matroid.{IsBasis}
use Rattle.matroid_theory.specs.declared.Mode.{Mode}
use Rattle.matroid_theory.specs.Move.{AreEquivalent}
use Rattle.matroid_theory.specs.Order.{IsForm}

-- the elements that a set leaves out
abbrev pub complement : (ℕ → Bool) → ℕ → Bool
complement S j = not (S j)

-- the bases of the dual of a matroid are the complements of its bases
abbrev pub IsDualBasis : ((ℕ → Bool) → Type 0) → (ℕ → Bool) → Type 0
IsDualBasis IsBase S = IsBase (complement S)

-- every factor has a basis
abbrev pub HasBases : Rep → Type 0
HasBases M = (f : ℕ) → f < count M → (S : ℕ → Bool) × IsBasis M f S

-- N has the size of M, and in each factor the bases of the dual of M
pub record IsDualRep (M N : Rep) : Type 0 where
  pub same_factors : N.factors ≡ M.factors
  pub same_size : size N ≡ size M
  pub bases : (f : ℕ) → f < count M → (S : ℕ → Bool) → IsBasis N f S ↔ IsDualBasis (IsBasis M f) S

-- in every factor, each row of M and each row of N have products, entry by entry, that add up to 0; the ranks add up to the size
pub record AreOrthogonal (M N : Rep) : Type 0 where
  pub same_factors : N.factors ≡ M.factors
  pub same_size : size N ≡ size M
  pub ranks : M.rank + N.rank ≡ size M
  pub products : (f i k : ℕ) → f < count M → i < M.rank → k < N.rank →
      sum_below (order M f) (size M) (λ j. times (order M f) (matrix M f i j) (matrix N f k j)) ≡ 0

-- the form of the mode that is equivalent, in that mode, to a representation orthogonal to M
pub record IsDualForm (mode : Mode) (M N : Rep) : Type 0 where
  pub form : IsForm mode N
  pub orthogonal : Rep
  pub is_orthogonal : AreOrthogonal M orthogonal
  pub equivalent : AreEquivalent mode orthogonal N

-- for M = [I | D], the matrix [ -D transposed | I ] of factor f
abbrev pub dual_matrix : Rep → ℕ → Matrix
dual_matrix M f i j = if nat_lt j M.rank then negative (order M f) (matrix M f j (M.rank + i)) else unit (M.rank + i) j

-- N is that representation, with size - rank rows
pub record IsStandardDual (M N : Rep) : Type 0 where
  pub same_factors : N.factors ≡ M.factors
  pub same_size : size N ≡ size M
  pub ranks : M.rank + N.rank ≡ size M
  pub codes : (f i j : ℕ) → f < count M → i < N.rank → j < size M → matrix N f i j ≡ dual_matrix M f i j
