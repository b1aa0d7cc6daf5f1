-- Names of matroids.
use Rattle.std.specs.Prelude.{ℕ, ◌<◌, ◌≤◌, ◌≡◌, List, [], ◌∷◌}
use Rattle.matroid_theory.specs.Minor.{Matroid}
use Rattle.matroid_theory.specs.Given.{IsGivenBy}
use Rattle.formats.specs.Minors.{given_as}
use Rattle.formats.specs.Statement as line
use Rattle.formats.specs.Statement.{minor_words, elements_of, IsUniform}
use Rattle.named_matroids.specs.declared.spelling.Spelling.{Spelling}
use Rattle.named_matroids.specs.declared.spelling.Spelling.TheVariants.{Uniform, Fano, FanoDual, NonFano, KFour, KFive, Matrix}
use Rattle.named_matroids.specs.declared.spelling.NameFault.{NameFault}
use Rattle.named_matroids.specs.declared.spelling.NameFault.TheVariants.{TooBig, Unknown}

-- a matroid and its name
pub record NamedMatroid : Type 0 where
  pub spelling : Spelling
  pub matroid : Matroid

-- what is spelled, as a line names it
abbrev pub named_by : Spelling → line.MinorName
named_by (Uniform rank size) = line.Uniform rank size
named_by Fano = line.Fano
named_by FanoDual = line.FanoDual
named_by NonFano = line.NonFano
named_by KFour = line.KFour
named_by KFive = line.KFive
named_by (Matrix text) = line.ByMatrix text.order text.columns

-- it names a matroid of at most 10 elements
pub record IsSmallName (minor : line.MinorName) : Type 0 where
  pub is_minor : line.IsMinorName minor
  pub few : elements_of minor ≤ 10

-- the matroid of a small name
pub record IsNamedMatroid (item : NamedMatroid) : Type 0 where
  pub small : IsSmallName (named_by item.spelling)
  pub given : IsGivenBy (given_as (named_by item.spelling)) item.matroid

-- the text names a uniform matroid of more than 10 elements
abbrev pub NamesTooBig : List ℕ → Type 0
NamesTooBig text = (rank : ℕ) × (size : ℕ) × IsUniform rank size × (10 < size) × (minor_words (line.Uniform rank size) ≡ text ∷ [])

-- the text names no matroid
abbrev pub NamesNone : List ℕ → Type 0
NamesNone text = (minor : line.MinorName) → line.IsMinorName minor → ¬ (minor_words minor ≡ text ∷ [])

-- what is wrong with the text
abbrev pub IsNameFault : List ℕ → NameFault → Type 0
IsNameFault text TooBig = NamesTooBig text
IsNameFault text Unknown = NamesNone text
