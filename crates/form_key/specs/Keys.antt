-- A level, seen by the keys of its forms.
use Rattle.std.specs.Prelude.{ℕ, ◌≡◌, ◌↔◌, List}
use Rattle.std.specs.List.{AllPairs, Contains}
use Rattle.std.specs.Cmp.Lexicographic.{slice_cmp}
use Rattle.std.specs.Ordering.{nat_cmp}
use Rattle.std.specs.declared.cmp.Ordering.TheVariants.{Less}
use Rattle.matroid_theory.specs.Rep.{Rep, shape, IsShaped, IsStandard}
use Rattle.matroid_theory.specs.Level.{Family, IsLevelForm}
use Rattle.form_key.specs.Packing.{packing}

-- a standard representation of the family's factors and rank, of size n
pub record IsStandardOf (q : Family) (n : ℕ) (M : Rep) : Type 0 where
  pub shapes : shape M ≡ record { factors = q.factors; rank = q.rank; size = n }
  pub shaped : IsShaped M
  pub standard : IsStandard M

-- the strictly rising list of the keys of exactly the forms of the level of size n
pub record AreLevelKeys (q : Family) (n : ℕ) (keys : List (List ℕ)) : Type 0 where
  pub rising : AllPairs (λ a b. slice_cmp nat_cmp a b ≡ Less) keys
  pub exact : (key : List ℕ) → Contains keys key ↔ ((M : Rep) × IsLevelForm q n M × (packing M ≡ key))
