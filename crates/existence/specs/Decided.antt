-- Questions that have an answer.
use Rattle.std.specs.Prelude.{◌⊎◌}

-- it is so, or it isn't
abbrev pub IsDecided : Type 0 → Type 0
IsDecided P = P ⊎ ¬ P
