-- Two numbers exchanged.
use Rattle.std.specs.Prelude.{ℕ, ◌==◌, if◌then◌else◌}

abbrev pub exchange : ℕ → ℕ → ℕ → ℕ
exchange a b x = if x == a then b else (if x == b then a else x)
