-- Groups of rows as the program keeps them. The first factor decides whether a row is 0.
use Rattle.std.specs.Prelude.{ℕ, ◌<◌, ◌≡◌, ◌≢◌, Bool, true, false, List, slice_index, slice_index_or}
use Rattle.matroid_theory.specs.Field.{times}

-- the factors, by factor of the product and group, aren't 0, and make 1 of the codes at the first row of each group that isn't 0
pub record AreGroupFactors (fields : List ℕ) (count : ℕ) (groups : ℕ → ℕ) (rows : ℕ) (c factors : ℕ → ℕ → ℕ) : Type 0 where
  pub nonzero : (f g : ℕ) → f < 3 → g < 6 → factors f g ≢ 0
  pub leads : (i : ℕ) → i < rows → ((j : ℕ) → j < i → groups j ≡ groups i → c 0 j ≡ 0) → c 0 i ≢ 0 → (f : ℕ) → f < count → c f i ≢ 0 → times
      (slice_index fields f) (factors f (groups i)) (c f i) ≡ 1

-- exactly the groups are marked that have a row that isn't 0
pub record MarksGroups (groups : ℕ → ℕ) (rows : ℕ) (c : ℕ → ℕ → ℕ) (met : List Bool) : Type 0 where
  pub marked : (i : ℕ) → i < rows → c 0 i ≢ 0 → slice_index_or met (groups i) false ≡ true
  pub found : (g : ℕ) → g < 6 → slice_index_or met g false ≡ true → (i : ℕ) × (i < rows) × (groups i ≡ g) × (c 0 i ≢ 0)
