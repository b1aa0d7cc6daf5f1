-- How the parts of a line are spelled.
use Rattle.std.specs.Prelude.{ℕ, List, [], ◌∷◌, map, codes, decimal}
use Rattle.formats.specs.Lines.{parted}
use Rattle.request_lines.specs.declared.flags.Flag.{Flag}
use Rattle.request_lines.specs.declared.flags.Flag.TheVariants as flag
use Rattle.request_lines.specs.declared.keyword.Keyword.{Keyword}
use Rattle.request_lines.specs.declared.keyword.Keyword.TheVariants as keyword

-- the first word
abbrev pub keyword_word : Keyword → List ℕ
keyword_word keyword.Version = codes "version"
keyword_word keyword.Rank = codes "rank"
keyword_word keyword.Field = codes "field"
keyword_word keyword.Size = codes "size"
keyword_word keyword.Equivalence = codes "equivalence"
keyword_word keyword.Forbid = codes "forbid"
keyword_word keyword.Filter = codes "filter"
keyword_word keyword.Print = codes "print"

-- the second word of a filter line without a minor
abbrev pub flag_word : Flag → List ℕ
flag_word flag.Connected = codes "connected"
flag_word flag.Three = codes "3conn"
flag_word flag.Cosimple = codes "cosimple"
flag_word flag.Distinct = codes "distinct"

-- the other words of a field line
abbrev pub factor_words : List ℕ → List (List ℕ)
factor_words orders = parted (codes "x") (map (λ order. decimal order ∷ []) orders)
