-- Which texts stand for which request.
use Rattle.std.specs.Prelude.{◌≡◌, ℕ, zero, suc, ◌+◌, ◌-◌, ◌*◌, ◌^◌, ◌≤◌, ◌==◌, ◌&&◌, List, [], ◌∷◌, map, sum, length, count_by, codes, bytes_eq, Bool, false, true, Option, Some, None, option_to_list, filter_map, if◌then◌else◌}
use Rattle.std.specs.List.{AllByRecursion, list_any, range_with_len}
use Rattle.matroid_theory.specs.declared.Mode.{Mode}
use Rattle.matroid_theory.specs.declared.Mode.TheVariants.{Linear, Semilinear}
use Rattle.formats.specs.declared.refusal.PrintMode.{PrintMode}
use Rattle.formats.specs.declared.refusal.PrintMode.TheVariants.{Forms, Counts}
use Rattle.formats.specs.Lines.{lines_of, statements_of}
use Rattle.formats.specs.Statement.{MinorName, Statement, RankIs, FieldIs, SizeIs, EquivalenceIs, Forbids, ListsConnected, ListsThreeConnected, ListsCosimple, ListsDistinct, ListsWith, Prints, IsStatement, IsOfVersion, spelling, kind_number, most_of_kind, named_elements}

pub record Request : Type 0 where
  pub factors : List ℕ
  pub rank : ℕ
  pub size : ℕ
  pub forbid : List MinorName
  pub connected : Bool
  pub three_connected : Bool
  pub cosimple : Bool
  pub distinct : Bool
  pub has : Option MinorName
  pub print : PrintMode
  pub mode : Mode
  pub version : ℕ

-- the words are `version 2`
abbrev pub says_two : List (List ℕ) → Bool
says_two (first ∷ second ∷ []) = bytes_eq first (codes "version") && bytes_eq second (codes "2")
says_two _ = false

-- A text whose first line that isn't skipped is `version 2` is of version 2, every other of version 1.
abbrev pub version_in : List (List (List ℕ)) → ℕ
version_in [] = 1
version_in (words ∷ more) = if says_two words then 2 else 1

abbrev pub version_of : List ℕ → ℕ
version_of text = version_in (statements_of (lines_of text))

-- The lines that aren't skipped say these entries, in their order, in a text of the version.
pub record SayInTurn (version : ℕ) (lines : List (List ℕ)) (entries : List Statement) : Type 0 where
  pub may : AllByRecursion IsStatement entries
  pub of_version : AllByRecursion (IsOfVersion version) entries
  pub spelled : statements_of lines ≡ map spelling entries

abbrev pub count_of_kind : ℕ → List Statement → ℕ
count_of_kind kind entries = count_by (λ entry. kind_number entry == kind) entries

-- No kind stands too often, and no matroid that is named has more than ten elements.
pub record AreInOrder (entries : List Statement) : Type 0 where
  pub not_often : (kind : ℕ) → count_of_kind kind entries ≤ most_of_kind kind
  pub not_big : AllByRecursion (λ entry. named_elements entry ≤ 10) entries

abbrev pub rank_in : Statement → Option ℕ
rank_in (RankIs n) = Some n
rank_in _ = None

abbrev pub field_in : Statement → Option (List ℕ)
field_in (FieldIs factors) = Some factors
field_in _ = None

abbrev pub size_in : Statement → Option ℕ
size_in (SizeIs n) = Some n
size_in _ = None

abbrev pub forbidden_in : Statement → Option MinorName
forbidden_in (Forbids minor) = Some minor
forbidden_in _ = None

abbrev pub wanted_in : Statement → Option MinorName
wanted_in (ListsWith minor) = Some minor
wanted_in _ = None

abbrev pub has_kind : Statement → List Statement → Bool
has_kind entry entries = list_any (λ other. kind_number other == kind_number entry) entries

abbrev pub prints_counts : Statement → Bool
prints_counts (Prints Counts) = true
prints_counts _ = false

abbrev pub asks_semilinear : Statement → Bool
asks_semilinear (EquivalenceIs Semilinear) = true
asks_semilinear _ = false

-- What is asked for in these entries, whatever their order.
pub record AskFor (entries : List Statement) (request : Request) : Type 0 where
  pub rank : filter_map rank_in entries ≡ request.rank ∷ []
  pub field : filter_map field_in entries ≡ request.factors ∷ []
  pub size : filter_map size_in entries ≡ request.size ∷ []
  pub forbid : filter_map forbidden_in entries ≡ request.forbid
  pub connected : has_kind ListsConnected entries ≡ request.connected
  pub three_connected : has_kind ListsThreeConnected entries ≡ request.three_connected
  pub cosimple : has_kind ListsCosimple entries ≡ request.cosimple
  pub distinct : has_kind ListsDistinct entries ≡ request.distinct
  pub has : filter_map wanted_in entries ≡ option_to_list request.has
  pub print : (if list_any prints_counts entries then Counts else Forms) ≡ request.print
  pub mode : (if list_any asks_semilinear entries then Semilinear else Linear) ≡ request.mode

-- how many sets of k things n things have
abbrev pub subsets : ℕ → ℕ → ℕ
subsets n zero = 1
subsets zero (suc k) = 0
subsets (suc n) (suc k) = subsets n k + subsets n (suc k)

abbrev pub product_of : List ℕ → ℕ
product_of [] = 1
product_of (n ∷ ns) = n * product_of ns

-- how many normalised columns there are: for each support, the entries below its first
abbrev pub column_count : ℕ → List ℕ → ℕ
column_count rank factors = sum (map (λ s. subsets rank s * product_of (map (λ q. (q - 1) ^ (s - 1)) factors)) (range_with_len 1 rank))

abbrev pub most_bytes : ℕ
most_bytes = 65536

abbrev pub most_columns : ℕ
most_columns = 1000000

abbrev pub IsRankInRange : ℕ → Type 0
IsRankInRange rank = (1 ≤ rank) × (rank ≤ 6)

abbrev pub IsSizeInRange : ℕ → ℕ → Type 0
IsSizeInRange rank size = (rank ≤ size) × (size ≤ 16)

pub record IsWithinLimits (request : Request) : Type 0 where
  pub rank : IsRankInRange request.rank
  pub size : IsSizeInRange request.rank request.size
  pub columns : column_count request.rank request.factors ≤ most_columns

-- The text is a request, and this is what it asks for.
pub record StandsFor (text : List ℕ) (request : Request) : Type 0 where
  pub short : length text ≤ most_bytes
  pub version : version_of text ≡ request.version
  pub entries : List Statement
  pub said : SayInTurn (version_of text) (lines_of text) entries
  pub in_order : AreInOrder entries
  pub asked : AskFor entries request
  pub limits : IsWithinLimits request
