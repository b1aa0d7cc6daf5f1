-- Representations that have none of several matroids as a minor.
use Rattle.std.specs.Prelude.{List, map}
use Rattle.std.specs.List.{All}
use Rattle.matroid_theory.specs.Rep.{Rep}
use Rattle.matroid_theory.specs.Minor.{Matroid, IsMinor}
use Rattle.named_matroids.specs.Names.{NamedMatroid}

-- the matroids without their names
abbrev pub matroids_of : List NamedMatroid → List Matroid
matroids_of items = map (λ item. item.matroid) items

-- none of these matroids is a minor of M
abbrev pub Avoids : List Matroid → Rep → Type 0
Avoids Ns M = All (λ N. ¬ (IsMinor N M)) Ns
