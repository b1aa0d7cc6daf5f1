-- Least numbers of columns whose groups of rows may be scaled.
use Rattle.std.specs.Prelude.{ℕ, ◌*◌, ◌/◌, ◌%◌, ◌<◌, ◌≡◌, ◌≢◌}
use Rattle.matroid_theory.specs.Field.{times}
use Rattle.matroid_theory.specs.Rep.{Rep, count, order}
use Rattle.form_trails.specs.Numbers.{weighed}

-- the number of a column with these codes by factor and row: its codes row by row, and factor by factor within a row, are the digits in base 16
abbrev pub number : Rep → (ℕ → ℕ → ℕ) → ℕ
number M c = weighed (λ e. c (e % count M) (e / count M)) (M.rank * count M)

-- a column with the rows of each group multiplied by its factor
abbrev pub scaled : Rep → (ℕ → ℕ) → (ℕ → ℕ → ℕ) → (ℕ → ℕ → ℕ) → ℕ → ℕ → ℕ
scaled M groups own c f i = times (order M f) (own f (groups i)) (c f i)

-- the factors, by factor of the product and group, make 1 of the first code in each group that isn't 0
pub record MakesOnes (M : Rep) (groups : ℕ → ℕ) (c own : ℕ → ℕ → ℕ) : Type 0 where
  pub codes : (f g : ℕ) → f < count M → own f g < order M f
  pub nonzero : (f g : ℕ) → f < count M → own f g ≢ 0
  pub leads : (f i : ℕ) → f < count M → i < M.rank → ((j : ℕ) → j < i → groups j ≡ groups i → c f j ≡ 0) → c f i ≢ 0 → scaled M groups own c f i ≡ 1
