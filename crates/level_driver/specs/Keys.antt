-- Keys of standard representations of one shape.
use Rattle.std.specs.Prelude.{ℕ, List}
use Rattle.std.specs.List.{Contains}
use Rattle.matroid_theory.specs.Rep.{Rep, Shape}
use Rattle.form_key.specs.Packing.{IsPackedAs}

-- each key is that of a standard representation of this shape
abbrev pub HavePacking : Shape → List (List ℕ) → Type 0
HavePacking s keys = (key : List ℕ) → Contains keys key → (M : Rep) × IsPackedAs s key M
