-- Sets of masks as tables of bits.
use Rattle.std.specs.Prelude.{ℕ, List}
use Rattle.std.specs.List.{filter, range_with_len}
use Rattle.matroid_theory.specs.Tables.{has}

-- the masks in the table that are below n, from the lowest up
unfoldable pub masks_below : ℕ → List ℕ → List ℕ
masks_below n words = filter (has words) (range_with_len 0 n)
