-- Columns of which it is seen at once that a parent followed by them is no form.
use Rattle.std.specs.Prelude.{◌≡◌, ◌<◌, ◌-◌, List, ℕ, Some, slice_get}
use Rattle.std.specs.Cmp.Lexicographic.{slice_cmp}
use Rattle.std.specs.Ordering.{nat_cmp}
use Rattle.std.specs.declared.cmp.Ordering.TheVariants.{Less}
use Rattle.matroid_theory.specs.declared.Mode.{Mode}
use Rattle.matroid_theory.specs.Rep.{Rep, size}

-- a parent, and the mode of its children
pub record RefusalOf : Type 0 where
  pub parent : Rep
  pub mode : Mode

-- P has columns after its unit columns, and v is below the last one
pub record IsBelowLast (P : Rep) (v : List ℕ) : Type 0 where
  pub later : P.rank < size P
  pub last : List ℕ
  pub is_last : slice_get P.columns (size P - 1) ≡ Some last
  pub below : slice_cmp nat_cmp v last ≡ Less
