-- Which texts are refused, and how.
use Rattle.std.specs.Prelude.{◌≡◌, ◌≢◌, ℕ, ◌+◌, ◌<◌, ◌≤◌, List, [], ◌∷◌, ◌++◌, length, filter_map, false}
use Rattle.formats.specs.declared.refusal.Word.{Word}
use Rattle.formats.specs.declared.refusal.Word.TheVariants.{Rank, Field, Size}
use Rattle.formats.specs.declared.refusal.Refusal.{Refusal}
use Rattle.formats.specs.declared.refusal.Refusal.TheVariants as refusal
use Rattle.formats.specs.Lines.{lines_of, words_of, is_skipped}
use Rattle.formats.specs.Statement.{Statement, Says, kind_number, forbid_kind, most_of_kind, named_elements}
use Rattle.formats.specs.Request.{version_of, SayInTurn, AreInOrder, count_of_kind, rank_in, field_in, size_in, column_count, most_bytes, most_columns, IsRankInRange, IsSizeInRange}

-- what may be wrong with a line
pub data Fault : Type 0 where
  NoForm : Fault
  Again : Fault
  NinthForbid : Fault
  TooBig : Fault

-- What is wrong with a line of these words, in a text of the version, after lines that said those entries.
abbrev pub HasFault : ℕ → List Statement → List (List ℕ) → Fault → Type 0
HasFault version said words NoForm = (entry : Statement) → Says version words entry → ⊥
HasFault version said words Again = (entry : Statement) × Says version words entry × (kind_number entry ≢ forbid_kind)
    × (most_of_kind (kind_number entry) ≤ count_of_kind (kind_number entry) said)
HasFault version said words NinthForbid = (entry : Statement) × Says version words entry × (kind_number entry ≡ forbid_kind)
    × (most_of_kind forbid_kind ≤ count_of_kind forbid_kind said)
HasFault version said words TooBig = (entry : Statement) × Says version words entry
    × (count_of_kind (kind_number entry) said < most_of_kind (kind_number entry)) × (10 < named_elements entry)

-- The line of this number is the first at fault: those before it are in order.
pub record FirstFault (text : List ℕ) (number : ℕ) (fault : Fault) : Type 0 where
  pub short : length text ≤ most_bytes
  pub before : List (List ℕ)
  pub line : List ℕ
  pub after : List (List ℕ)
  pub split : lines_of text ≡ before ++ line ∷ after
  pub place : number ≡ length before + 1
  pub said : List Statement
  pub says : SayInTurn (version_of text) before said
  pub in_order : AreInOrder said
  pub counts : is_skipped (words_of line) ≡ false
  pub wrong : HasFault (version_of text) said (words_of line) fault

-- No line is at fault, and these entries are said.
pub record NoFault (text : List ℕ) (entries : List Statement) : Type 0 where
  pub short : length text ≤ most_bytes
  pub said : SayInTurn (version_of text) (lines_of text) entries
  pub in_order : AreInOrder entries

-- the first of the three words that no line has
abbrev pub IsMissing : List Statement → Word → Type 0
IsMissing entries Rank = filter_map rank_in entries ≡ []
IsMissing entries Field = (filter_map rank_in entries ≢ []) × (filter_map field_in entries ≡ [])
IsMissing entries Size = (filter_map rank_in entries ≢ []) × (filter_map field_in entries ≢ []) × (filter_map size_in entries ≡ [])

-- the three values that are said
pub record AreValues (entries : List Statement) (rank : ℕ) (factors : List ℕ) (size : ℕ) : Type 0 where
  pub rank_said : filter_map rank_in entries ≡ rank ∷ []
  pub field_said : filter_map field_in entries ≡ factors ∷ []
  pub size_said : filter_map size_in entries ≡ size ∷ []

-- all lines are there, and these are their values
pub record HasValues (text : List ℕ) (rank : ℕ) (factors : List ℕ) (size : ℕ) : Type 0 where
  pub entries : List Statement
  pub none : NoFault text entries
  pub values : AreValues entries rank factors size

-- The text is refused so.
abbrev pub HasRefusal : List ℕ → Refusal → Type 0
HasRefusal text refusal.TooLong = most_bytes < length text
HasRefusal text (refusal.BadLine n) = FirstFault text n NoForm
HasRefusal text (refusal.Twice n) = FirstFault text n Again
HasRefusal text (refusal.TooManyForbidden n) = FirstFault text n NinthForbid
HasRefusal text (refusal.ForbidTooBig n) = FirstFault text n TooBig
HasRefusal text (refusal.Missing word) = (entries : List Statement) × NoFault text entries × IsMissing entries word
HasRefusal text (refusal.Rank v) = (factors : List ℕ) × (size : ℕ) × HasValues text v factors size × (IsRankInRange v → ⊥)
HasRefusal text (refusal.Size v) = (rank : ℕ) × (factors : List ℕ) × HasValues text rank factors v × IsRankInRange rank × (IsSizeInRange rank v → ⊥)
HasRefusal text (refusal.TooWide c) = (rank : ℕ) × (factors : List ℕ) × (size : ℕ) × HasValues text rank factors size
    × IsRankInRange rank × IsSizeInRange rank size × (c ≡ column_count rank factors) × (most_columns < c)
