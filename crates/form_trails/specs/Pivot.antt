-- A pivot: the codes of a column after an element is chosen for row k.
use Rattle.std.specs.Prelude.{ℕ, ◌==◌, if◌then◌else◌}
use Rattle.matroid_theory.specs.Field.{plus, times}
use Rattle.matroid_theory.specs.Rep.{Rep, order}
use Rattle.matroid_theory.specs.Exchange.{exchange}

-- a column keeps its code of row p, and its multiple of the chosen column is taken from the others, of which minus is the negative
abbrev pub cleared : Rep → ℕ → (ℕ → ℕ → ℕ) → (ℕ → ℕ → ℕ) → ℕ → ℕ → ℕ
cleared M p minus e f i = if i == p then e f p else plus (order M f) (e f i) (times (order M f) (e f p) (minus f i))

-- and then rows p and k are exchanged
abbrev pub pivoted : Rep → ℕ → ℕ → (ℕ → ℕ → ℕ) → (ℕ → ℕ → ℕ) → ℕ → ℕ → ℕ
pivoted M p k minus e f i = cleared M p minus e f (exchange p k i)
