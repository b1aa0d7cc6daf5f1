-- What may be asked, and the words that ask it.
use Rattle.std.specs.Prelude.{ℕ, ◌+◌, ◌<◌, ◌≤◌, ◌≡◌, List, [], ◌∷◌, ◌++◌, map, length, codes, decimal}
use Rattle.matroid_theory.specs.Field.{IsOrder}
use Rattle.matroid_theory.specs.Rep.{Rep, size, IsStandard, KeepsLimits}
use Rattle.matroid_theory.specs.Matroid.{Agrees}
use Rattle.matroid_theory.specs.Minor.{Matroid}
use Rattle.matroid_theory.specs.Given.{IsGivenBy}
use Rattle.formats.specs.Lines.{parted}
use Rattle.formats.specs.Statement.{MinorName, IsMinorName, elements_of, minor_words, column_word}
use Rattle.formats.specs.Minors.{given_as}
use Rattle.formats.specs.Listing.{Form}
use Rattle.formats.specs.Levels.{columns_of}

pub data Question : Type 0 where
  -- the dual form of a representation
  Dual : Rep → Question
  -- the least matrix over the field of that order for a matroid that has a name
  OverName : ℕ → MinorName → Question
  -- and for the matroid of a representation
  OverForm : ℕ → Rep → Question

-- the orders of the factors, with the word `x` between two, as in a field line
abbrev pub field_words : List ℕ → List (List ℕ)
field_words orders = parted (codes "x") (map (λ order. decimal order ∷ []) orders)

-- the columns of each factor, with the word `|` between two factors, as in a form line
abbrev pub form_words : Form → List (List ℕ)
form_words form = parted (codes "|") (map (map column_word) form)

-- a representation, by its field and its columns
abbrev pub representation_words : Rep → List (List ℕ)
representation_words M = field_words M.factors ++ form_words (columns_of M)

-- its words tell its rank, since there is a column
pub record CanBeSpelled (M : Rep) : Type 0 where
  pub limits : KeepsLimits M
  pub some : 0 < size M

-- a standard representation within the limits, whose factors agree
pub record MayBeNamed (M : Rep) : Type 0 where
  pub limits : KeepsLimits M
  pub standard : IsStandard M
  pub agrees : Agrees M

-- its dual form has a rank from 1 to 6
pub record MayAskDual (M : Rep) : Type 0 where
  pub named : MayBeNamed M
  pub some : M.rank < size M
  pub most : size M ≤ M.rank + 6

-- a name of one word, of a matroid of at most 10 elements and of a rank from 1 to 6
pub record MayBeSought (name : MinorName) : Type 0 where
  pub is_name : IsMinorName name
  pub word : length (minor_words name) ≡ 1
  pub few : elements_of name ≤ 10
  pub matroid : Matroid
  pub given : IsGivenBy (given_as name) matroid
  pub low : 1 ≤ matroid.rank
  pub high : matroid.rank ≤ 6

pub record MayAskOverName (order : ℕ) (name : MinorName) : Type 0 where
  pub is_order : IsOrder order
  pub sought : MayBeSought name

pub record MayAskOverForm (order : ℕ) (M : Rep) : Type 0 where
  pub is_order : IsOrder order
  pub named : MayBeNamed M

abbrev pub MayAsk : Question → Type 0
MayAsk (Dual M) = MayAskDual M
MayAsk (OverName order name) = MayAskOverName order name
MayAsk (OverForm order M) = MayAskOverForm order M

abbrev pub spelling : Question → List (List ℕ)
spelling (Dual M) = codes "dual" ∷ representation_words M
spelling (OverName order name) = codes "over" ∷ decimal order ∷ codes "name" ∷ minor_words name
spelling (OverForm order M) = codes "over" ∷ decimal order ∷ codes "form" ∷ representation_words M

-- the words ask the question
pub record Asks (words : List (List ℕ)) (question : Question) : Type 0 where
  pub may : MayAsk question
  pub spelled : words ≡ spelling question
