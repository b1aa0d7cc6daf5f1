-- The packing of a standard representation: its codes after the unit columns, two to a byte.
use Rattle.std.specs.Prelude.{ℕ, ◌+◌, ◌*◌, ◌≡◌, List, [], ◌∷◌, drop}
use Rattle.std.specs.List.{concat}
use Rattle.matroid_theory.specs.Rep.{Rep, Shape, shape, IsShaped, IsStandard}

-- the codes of the columns after the unit columns: column by column, in a column from the top row, in a row factor by factor
abbrev pub later_codes : Rep → List ℕ
later_codes M = concat (drop M.rank M.columns)

-- two codes make a byte, the first in its upper half. A last code without a partner has 0 beside it
abbrev pub paired : List ℕ → List ℕ
paired [] = []
paired (x ∷ []) = x * 16 ∷ []
paired (x ∷ (y ∷ codes)) = (x * 16 + y) ∷ paired codes

abbrev pub packing : Rep → List ℕ
packing M = paired (later_codes M)

-- M is a standard representation of this shape, and its packing is the key
pub record IsPackedAs (s : Shape) (key : List ℕ) (M : Rep) : Type 0 where
  pub shapes : shape M ≡ s
  pub shaped : IsShaped M
  pub standard : IsStandard M
  pub packs : packing M ≡ key
