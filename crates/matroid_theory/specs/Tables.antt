-- Sets of masks as tables of bits.
use Rattle.std.specs.Prelude.{ℕ, ◌/◌, ◌%◌, ◌==◌, Bool, List, slice_index}
use Rattle.std.specs.Int.{bit_at}

-- whether a mask is in the table: 64 masks to a word, bit by bit
abbrev pub has : List ℕ → ℕ → Bool
has words set = bit_at (slice_index words (set / 64)) (set % 64) == 1
