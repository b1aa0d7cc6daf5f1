-- What a line says, how it is spelled, and what may be said.
use Rattle.std.specs.Prelude.{◌≡◌, ℕ, ◌+◌, ◌^◌, ◌<◌, ◌≤◌, ◌==◌, List, [], ◌∷◌, ◌++◌, map, length, codes, decimal, nat_lt, if◌then◌else◌}
use Rattle.std.specs.List.{AllByRecursion}
use Rattle.matroid_theory.specs.declared.Mode.{Mode}
use Rattle.matroid_theory.specs.declared.Mode.TheVariants.{Linear, Semilinear}
use Rattle.matroid_theory.specs.Field.{IsOrder, IsFactors}
use Rattle.formats.specs.declared.refusal.PrintMode.{PrintMode}
use Rattle.formats.specs.declared.refusal.PrintMode.TheVariants.{Forms, Counts}
use Rattle.formats.specs.Lines.{parted}

-- a matroid as a line names it
pub data MinorName : Type 0 where
  Uniform : ℕ → ℕ → MinorName
  Fano : MinorName
  FanoDual : MinorName
  NonFano : MinorName
  KFour : MinorName
  KFive : MinorName
  ByMatrix : ℕ → List (List ℕ) → MinorName

-- the letter of an entry of a column
abbrev pub entry_letter : ℕ → ℕ
entry_letter code = if nat_lt code 10 then 48 + code else 87 + code

abbrev pub column_word : List ℕ → List ℕ
column_word column = map entry_letter column

abbrev pub minor_words : MinorName → List (List ℕ)
minor_words (Uniform rank size) = (codes "U" ++ (decimal rank ++ (codes "," ++ decimal size))) ∷ []
minor_words Fano = codes "F7" ∷ []
minor_words FanoDual = codes "F7*" ∷ []
minor_words NonFano = codes "F7-" ∷ []
minor_words KFour = codes "K4" ∷ []
minor_words KFive = codes "K5" ∷ []
minor_words (ByMatrix order columns) = codes "matrix" ∷ decimal order ∷ map column_word columns

-- a number of at most nine digits
abbrev pub IsNumber : ℕ → Type 0
IsNumber n = n < 10 ^ 9

pub record IsUniform (rank size : ℕ) : Type 0 where
  pub low : rank ≤ size
  pub some : 1 ≤ size
  pub short : IsNumber size

-- at least one column, all of one length from 1 to 6, with entries below the order
pub record IsMatrix (order : ℕ) (columns : List (List ℕ)) : Type 0 where
  pub is_order : IsOrder order
  pub some : 0 < length columns
  pub height : (rows : ℕ) × (1 ≤ rows) × (rows ≤ 6) × AllByRecursion (λ column. length column ≡ rows) columns
  pub entries : AllByRecursion (λ column. AllByRecursion (λ code. code < order) column) columns

abbrev pub IsMinorName : MinorName → Type 0
IsMinorName (Uniform rank size) = IsUniform rank size
IsMinorName (ByMatrix order columns) = IsMatrix order columns
IsMinorName _ = Unit {0}

abbrev pub elements_of : MinorName → ℕ
elements_of (Uniform rank size) = size
elements_of (ByMatrix order columns) = length columns
elements_of KFour = 6
elements_of KFive = 10
elements_of _ = 7

-- what a line says
pub data Statement : Type 0 where
  VersionIs : ℕ → Statement
  RankIs : ℕ → Statement
  FieldIs : List ℕ → Statement
  SizeIs : ℕ → Statement
  EquivalenceIs : Mode → Statement
  Forbids : MinorName → Statement
  ListsConnected : Statement
  ListsThreeConnected : Statement
  ListsCosimple : Statement
  ListsDistinct : Statement
  ListsWith : MinorName → Statement
  Prints : PrintMode → Statement

abbrev pub print_word : PrintMode → List ℕ
print_word Forms = codes "forms"
print_word Counts = codes "counts"

abbrev pub mode_word : Mode → List ℕ
mode_word Linear = codes "linear"
mode_word Semilinear = codes "semilinear"

-- the words of the line that says it
abbrev pub spelling : Statement → List (List ℕ)
spelling (VersionIs n) = codes "version" ∷ decimal n ∷ []
spelling (RankIs n) = codes "rank" ∷ decimal n ∷ []
spelling (FieldIs factors) = codes "field" ∷ parted (codes "x") (map (λ order. decimal order ∷ []) factors)
spelling (SizeIs n) = codes "size" ∷ decimal n ∷ []
spelling (EquivalenceIs mode) = codes "equivalence" ∷ mode_word mode ∷ []
spelling (Forbids minor) = codes "forbid" ∷ minor_words minor
spelling ListsConnected = codes "filter" ∷ codes "connected" ∷ []
spelling ListsThreeConnected = codes "filter" ∷ codes "3conn" ∷ []
spelling ListsCosimple = codes "filter" ∷ codes "cosimple" ∷ []
spelling ListsDistinct = codes "filter" ∷ codes "distinct" ∷ []
spelling (ListsWith minor) = codes "filter" ∷ codes "has" ∷ minor_words minor
spelling (Prints print) = codes "print" ∷ print_word print ∷ []

-- what a line may say; a value that is out of its limits is refused later
abbrev pub IsStatement : Statement → Type 0
IsStatement (VersionIs n) = IsNumber n
IsStatement (RankIs n) = IsNumber n
IsStatement (SizeIs n) = IsNumber n
IsStatement (FieldIs factors) = IsFactors factors
IsStatement (Forbids minor) = IsMinorName minor
IsStatement (ListsWith minor) = IsMinorName minor
IsStatement _ = Unit {0}

-- the greatest order of a field in a text of the version
abbrev pub most_order : ℕ → ℕ
most_order version = if version == 2 then 13 else 9

-- the order of the field of a matrix
abbrev pub order_of_minor : MinorName → ℕ
order_of_minor (ByMatrix order columns) = order
order_of_minor _ = 0

-- It may be said in a text of the version: a version line names this version, and no order is above its greatest.
abbrev pub IsOfVersion : ℕ → Statement → Type 0
IsOfVersion version (VersionIs n) = n ≡ version
IsOfVersion version (FieldIs factors) = AllByRecursion (λ order. order ≤ most_order version) factors
IsOfVersion version (Forbids minor) = order_of_minor minor ≤ most_order version
IsOfVersion version (ListsWith minor) = order_of_minor minor ≤ most_order version
IsOfVersion version _ = Unit {0}

-- the words say it, in a text of the version
pub record Says (version : ℕ) (words : List (List ℕ)) (entry : Statement) : Type 0 where
  pub may : IsStatement entry
  pub of_version : IsOfVersion version entry
  pub spelled : words ≡ spelling entry

-- its kind, as its place in the table of the forms
abbrev pub kind_number : Statement → ℕ
kind_number (VersionIs n) = 0
kind_number (RankIs n) = 1
kind_number (FieldIs factors) = 2
kind_number (SizeIs n) = 3
kind_number (Forbids minor) = 4
kind_number ListsConnected = 5
kind_number ListsThreeConnected = 6
kind_number ListsCosimple = 7
kind_number ListsDistinct = 8
kind_number (ListsWith minor) = 9
kind_number (Prints print) = 10
kind_number (EquivalenceIs mode) = 11

abbrev pub forbid_kind : ℕ
forbid_kind = 4

-- A line of one kind may stand once, a `forbid` line eight times.
abbrev pub most_of_kind : ℕ → ℕ
most_of_kind kind = if kind == forbid_kind then 8 else 1

-- the elements of the matroid that it names, if it names one
abbrev pub named_elements : Statement → ℕ
named_elements (Forbids minor) = elements_of minor
named_elements (ListsWith minor) = elements_of minor
named_elements _ = 0
