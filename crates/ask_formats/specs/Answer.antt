-- The line that answers a question, and what asking leaves in a sink.
use Rattle.std.specs.Prelude.{ℕ, ◌≡◌, ◌⊎◌, List, Option, codes}
use Rattle.matroid_theory.specs.Rep.{Rep}
use Rattle.matroid_theory.specs.declared.Mode.TheVariants.{Linear}
use Rattle.matroid_theory.specs.Minor.{Matroid, IsMatroidOf}
use Rattle.matroid_theory.specs.Given.{IsGivenBy}
use Rattle.formats.specs.Minors.{given_as}
use Rattle.formats.specs.Listing.{form_text}
use Rattle.formats.specs.Levels.{columns_of, IsProperFront}
use Rattle.formats.specs.Run.{Gains}
use Rattle.dual_theory.specs.Dual.{IsDualForm}
use Rattle.dual_theory.specs.Represented.{Represents, IsLeastOver}
use Rattle.ask_formats.specs.Question.{Question, Dual, OverName, OverForm, Asks}

unfoldable pub none_text : List ℕ
none_text = codes "none\n"

-- the form line of the least standard matrix over the field with exactly the bases of N, or `none` where no matrix over the field has them
abbrev pub IsLineOver : ℕ → Matroid → List ℕ → Type 0
IsLineOver q N line =
    ((L : Rep) × IsLeastOver q N L × (line ≡ form_text (columns_of L)))
    ⊎ (((L : Rep) → ¬ (Represents q N L)) × (line ≡ none_text))

-- the form line of the dual form, or the line for the matroid over the field
abbrev pub IsAnswer : Question → List ℕ → Type 0
IsAnswer (Dual M) line = (N : Rep) × IsDualForm Linear M N × (line ≡ form_text (columns_of N))
IsAnswer (OverName q name) line = (N : Matroid) × IsGivenBy (given_as name) N × IsLineOver q N line
IsAnswer (OverForm q M) line = (N : Matroid) × IsMatroidOf M N × IsLineOver q N line

-- a part of an answer line that isn't all of it
pub record IsCutAnswer (question : Question) (text : List ℕ) : Type 0 where
  pub line : List ℕ
  pub answer : IsAnswer question line
  pub front : IsProperFront text line

-- The words ask a question, and the sink gained bytes for which `Part` holds.
pub record Answers (words : List (List ℕ)) (before after : Option (List ℕ)) (Part : Question → List ℕ → Type 0) : Type 0 where
  pub question : Question
  pub asks : Asks words question
  pub gains : Gains before after (Part question)
