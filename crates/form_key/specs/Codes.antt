-- Codes of fields, and the halves of bytes.
use Rattle.std.specs.Prelude.{ℕ, ◌/◌, ◌%◌, ◌<◌, List, length, slice_index, ◌==◌, if◌then◌else◌}

-- half k of a list of bytes, counted from the upper half of the first byte; 0 behind the last byte
abbrev pub half_at : List ℕ → ℕ → ℕ
half_at bytes k = if k % 2 == 0 then slice_index bytes (k / 2) / 16 else slice_index bytes (k / 2) % 16

-- each code fits in half a byte
abbrev pub AreHalves : List ℕ → Type 0
AreHalves codes = (k : ℕ) → k < length codes → slice_index codes k < 16

-- each code is below the order of its factor, where the codes go through the factors in turn
abbrev pub AreCodesOf : List ℕ → List ℕ → Type 0
AreCodesOf factors codes = (k : ℕ) → k < length codes → slice_index codes k < slice_index factors (k % length factors)
