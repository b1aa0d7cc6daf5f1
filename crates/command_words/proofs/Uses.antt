-- The uses of the options that the words spell.
use Rattle.std.specs.Prelude.{◌≡◌, ◌||◌, Bool, true, false, List, [], ◌∷◌, ◌++◌, map, codes, ◌⊎◌, Option, Some, None, if◌then◌else◌}
use Rattle.clap.specs.Walk.{Row, Rule, Text, Held, Walk, Waiting, reading_by}
use Rattle.clap.specs.Walk.{idle, option}
use Rattle.clap.specs.Simple.{filled}
use Rattle.clap.specs.declared.parser.matches.ValueSource.TheVariants.{CommandLine, DefaultValue}
use Rattle.command_words.specs.Command.{workers_rule, sample_rule, orderly_rule}

-- an option that takes a text
pub data Valued : Type 0 where
  Wide : Valued
  Sampled : Valued

-- which option: one that takes a text, or the flag
pub data Which : Type 0 where
  Takes : Valued → Which
  Flag : Which

abbrev pub name_of : Which → Text
name_of (Takes Wide) = codes "workers"
name_of (Takes Sampled) = codes "sample"
name_of Flag = codes "orderly"

-- the option as it is built
abbrev pub rule_for : Which → Rule
rule_for (Takes Wide) = filled workers_rule
rule_for (Takes Sampled) = filled sample_rule
rule_for Flag = filled orderly_rule

abbrev pub same : Which → Which → Bool
same (Takes Wide) (Takes Wide) = true
same (Takes Sampled) (Takes Sampled) = true
same Flag Flag = true
same _ _ = false

-- an option with its text, or the flag
pub data Use : Type 0 where
  Given : Valued → Text → Use
  Flagged : Use

abbrev pub option_of : Use → Which
option_of (Given i t) = Takes i
option_of Flagged = Flag

-- the text that `clap` keeps of a use
abbrev pub text_of : Use → Text
text_of (Given i t) = t
text_of Flagged = codes "true"

abbrev pub has : Which → List Use → Bool
has i [] = false
has i (u ∷ us) = same (option_of u) i || has i us

-- the text of an option
abbrev pub text_in : Which → List Use → Option Text
text_in i [] = None
text_in i (u ∷ us) = if same (option_of u) i then Some (text_of u) else text_in i us

-- each option is used once at most
abbrev pub AreOnce : List Use → Type 0
AreOnce [] = Unit {0}
AreOnce (u ∷ us) = (has (option_of u) us ≡ false) × AreOnce us

-- how a use is spelled: an option with its text in two words or in one, the flag in one
abbrev pub IsUse : Use → List Text → Type 0
IsUse (Given i t) front = (front ≡ (codes "--" ++ name_of (Takes i)) ∷ t ∷ []) ⊎ (front ≡ (codes "--" ++ (name_of (Takes i) ++ 61 ∷ t)) ∷ [])
IsUse Flagged front = front ≡ (codes "--" ++ name_of Flag) ∷ []

-- the words spell these uses
abbrev pub SpellsUses : List Text → List Use → Type 0
SpellsUses words [] = words ≡ []
SpellsUses words (u ∷ us) = (front : List Text) × (rest : List Text) × (words ≡ front ++ rest) × IsUse u front × SpellsUses rest us

-- what stands open after a word
pub data Pend : Type 0 where
  Resting : Pend
  Asking : Valued → Pend
  Holding : Valued → Text → Pend

abbrev pub row_for : Use → Row
row_for u = record {
  id = name_of (option_of u);
  values = text_of u ∷ [];
  count = None;
  source = Some CommandLine;
  reading = reading_by (rule_for (option_of u));
}

-- the row of a flag that isn't used
abbrev pub unused_row : Row
unused_row = record { id = name_of Flag; values = codes "false" ∷ []; count = None; source = Some DefaultValue; reading = reading_by (rule_for Flag) }

-- what stands behind the rows of the uses
abbrev pub rest_for : Bool → List Row
rest_for is_flagged = if is_flagged then [] else unused_row ∷ []

-- the rows at the end
abbrev pub rows_for : List Use → List Row
rows_for us = map row_for us ++ rest_for (has Flag us)

abbrev pub pending_for : Pend → Option (Text × List Text)
pending_for Resting = None
pending_for (Asking i) = Some (name_of (Takes i), [])
pending_for (Holding i v) = Some (name_of (Takes i), v ∷ [])

abbrev pub waiting_for : Pend → Waiting
waiting_for Resting = idle
waiting_for (Asking i) = option (name_of (Takes i))
waiting_for (Holding i v) = idle

abbrev pub held : List Use → Pend → Held
held us pend = record { rows = map row_for us; pending = pending_for pend; skip = 0 }

abbrev pub stands : List Use → Pend → Walk
stands us pend = record { held = held us pend; waiting = waiting_for pend; position = 1; is_trailing = false; stopped = None }
