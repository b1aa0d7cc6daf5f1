-- The listing of a request, in blocks of pieces.
use Rattle.std.specs.Prelude.{◌≡◌, ℕ, ◌+◌, ◌-◌, ◌<◌, ◌==◌, List, [], ◌∷◌, ◌++◌, map, length, codes, decimal, option_to_list, Bool, true, false, flat_map}
use Rattle.std.specs.List.{concat, join_with_byte}
use Rattle.matroid_theory.specs.declared.Mode.{Mode}
use Rattle.matroid_theory.specs.declared.Mode.TheVariants.{Linear, Semilinear}
use Rattle.formats.specs.declared.refusal.PrintMode.{PrintMode}
use Rattle.formats.specs.declared.refusal.PrintMode.TheVariants.{Forms, Counts}
use Rattle.formats.specs.Lines.{line_of_words, joined}
use Rattle.formats.specs.Statement.{Statement, VersionIs, RankIs, FieldIs, SizeIs, EquivalenceIs, Forbids, ListsConnected, ListsThreeConnected, ListsCosimple, ListsDistinct, ListsWith, Prints, spelling, column_word}
use Rattle.formats.specs.Request.{Request}

-- an entry that is there where the flag is set
abbrev pub where_set : Bool → Statement → List Statement
where_set true entry = entry ∷ []
where_set false entry = []

abbrev pub is_semilinear : Mode → Bool
is_semilinear Linear = false
is_semilinear Semilinear = true

-- what the head says of a request, in its order
abbrev pub head_statements : Request → List Statement
head_statements q =
    VersionIs q.version ∷ FieldIs q.factors ∷ RankIs q.rank ∷ SizeIs q.size ∷ where_set (is_semilinear q.mode) (EquivalenceIs Semilinear)
    ++ map Forbids q.forbid
    ++ where_set q.connected ListsConnected ++ where_set q.three_connected ListsThreeConnected ++ where_set q.cosimple ListsCosimple
    ++ where_set q.distinct ListsDistinct ++ map ListsWith (option_to_list q.has)
    ++ Prints q.print ∷ []

-- a request text of these entries, in their order
abbrev pub text_of_statements : List Statement → List ℕ
text_of_statements entries = flat_map (λ entry. line_of_words (spelling entry)) entries

unfoldable pub head_text : Request → List ℕ
head_text q = codes "macek listing 1\n" ++ text_of_statements (head_statements q)

unfoldable pub level_text : ℕ → ℕ → ℕ → ℕ → List ℕ
level_text size classes listed tried = line_of_words
    (codes "level" ∷ decimal size ∷ codes "classes" ∷ decimal classes
    ∷ codes "listed" ∷ decimal listed ∷ codes "tried" ∷ decimal tried ∷ [])

-- a form, as the columns of each factor
abbrev pub Form : Type 0
Form = List (List (List ℕ))

-- the columns of one factor, as words
abbrev pub factor_text : List (List ℕ) → List ℕ
factor_text columns = join_with_byte 32 (map column_word columns)

unfoldable pub form_text : Form → List ℕ
form_text form = joined (codes " | ") (map factor_text form) ++ 10 ∷ []

unfoldable pub end_text : List ℕ
end_text = codes "end\n"

-- what the listing tells of a level
pub record LevelEntry : Type 0 where
  pub size : ℕ
  pub classes : ℕ
  pub listed : List Form
  pub tried : ℕ

abbrev pub form_pieces : PrintMode → List Form → List (List ℕ)
form_pieces Forms forms = map form_text forms
form_pieces Counts forms = []

-- the pieces of a level: its line, and the lines of its forms
abbrev pub level_pieces : PrintMode → LevelEntry → List (List ℕ)
level_pieces print l = level_text l.size l.classes (length l.listed) l.tried ∷ form_pieces print l.listed

-- how many levels a request has: one for each size from its rank on
abbrev pub level_count : Request → ℕ
level_count q = q.size + 1 - q.rank

abbrev pub with_front : List ℕ → List (List (List ℕ)) → List (List (List ℕ))
with_front piece [] = []
with_front piece (block ∷ blocks) = (piece ∷ block) ∷ blocks

-- the block of the end line, where all levels are there
abbrev pub end_blocks : Bool → List (List (List ℕ))
end_blocks true = (end_text ∷ []) ∷ []
end_blocks false = []

-- The pieces of a listing in blocks, one for each of its first levels, and the end after all of them. The head goes with the first level.
abbrev pub listing_blocks : Request → List LevelEntry → List (List (List ℕ))
listing_blocks q levels = with_front (head_text q) (map (level_pieces q.print) levels ++ end_blocks (length levels == level_count q))

abbrev pub text_of_blocks : List (List (List ℕ)) → List ℕ
text_of_blocks blocks = flat_map concat blocks

-- The text is cut off in a block: so many are whole, and of the next there is a part that isn't all of it.
pub record IsCutOff (blocks : List (List (List ℕ))) (whole : ℕ) (text : List ℕ) : Type 0 where
  pub before : List (List (List ℕ))
  pub block : List (List ℕ)
  pub after : List (List (List ℕ))
  pub split : blocks ≡ before ++ block ∷ after
  pub count : whole ≡ length before
  pub part : List ℕ
  pub rest : List ℕ
  pub cut : concat block ≡ part ++ rest
  pub proper : 0 < length rest
  pub is : text ≡ text_of_blocks before ++ part
