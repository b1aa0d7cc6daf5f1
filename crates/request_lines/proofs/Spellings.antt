-- The first word of a line that says something, and the word of a name.
use Rattle.std.proofs.Common.{◌≡◌, ◌∙◌, ℕ, ◌≤◌, Option, None, Some, subst, List, [], ◌∷◌, length, slice_index, slice_index_or, refl, sym, ap, arith}
use Rattle.std.specs.Prelude.{codes, MatchOption}
use Rattle.formats.specs.Statement.{MinorName, Uniform, Fano, FanoDual, NonFano, KFour, KFive, ByMatrix, IsMatrix, IsMinorName, minor_words, most_order, order_of_minor}
use Rattle.formats.specs.Statement.{Statement, VersionIs, RankIs, FieldIs, SizeIs, EquivalenceIs, Forbids, ListsConnected, ListsThreeConnected, ListsCosimple, ListsDistinct, ListsWith, Prints, Says}
use Rattle.request_lines.specs.declared.keyword.Keyword.{Keyword}
use Rattle.request_lines.specs.declared.keyword.Keyword.TheVariants as keyword
use Rattle.request_lines.specs.declared.flags.Flag.{Flag}
use Rattle.request_lines.specs.declared.flags.Flag.TheVariants as flag
use Rattle.request_lines.specs.declared.line.NamedMinor.{NamedMinor}
use Rattle.request_lines.specs.Matrices.{matrix_words}
use Rattle.request_lines.specs.Said.{IsNamed}
use Rattle.request_lines.specs.Spellings.{keyword_word, flag_word}

-- the first word is a keyword
pub keyword_said : (version : ℕ) (word : List ℕ) (words : List (List ℕ)) (entry : Statement) → Says version (word ∷ words) entry
    → (k : Keyword) × (word ≡ keyword_word k)
keyword_said version word words (VersionIs n) said = let e = said.spelled in (keyword.Version, cc (e))
keyword_said version word words (RankIs n) said = let e = said.spelled in (keyword.Rank, cc (e))
keyword_said version word words (FieldIs orders) said = let e = said.spelled in (keyword.Field, cc (e))
keyword_said version word words (SizeIs n) said = let e = said.spelled in (keyword.Size, cc (e))
keyword_said version word words (Forbids minor) said = let e = said.spelled in (keyword.Forbid, cc (e))
keyword_said version word words ListsConnected said = let e = said.spelled in (keyword.Filter, cc (e))
keyword_said version word words ListsThreeConnected said = let e = said.spelled in (keyword.Filter, cc (e))
keyword_said version word words ListsCosimple said = let e = said.spelled in (keyword.Filter, cc (e))
keyword_said version word words ListsDistinct said = let e = said.spelled in (keyword.Filter, cc (e))
keyword_said version word words (ListsWith minor) said = let e = said.spelled in (keyword.Filter, cc (e))
keyword_said version word words (Prints print) said = let e = said.spelled in (keyword.Print, cc (e))
keyword_said version word words (EquivalenceIs mode) said = let e = said.spelled in (keyword.Equivalence, cc (e))

-- the third letter of the first word
abbrev third : List (List ℕ) → ℕ
third words = slice_index (slice_index_or words 0 []) 2

-- What stands behind the word `filter`.
pub data IsFilterLine (version : ℕ) (words : List (List ℕ)) : Type 0 where
  WithFlag : (f : Flag) → words ≡ flag_word f ∷ [] → IsFilterLine version words
  WithMinor : (minor : MinorName) → IsMinorName minor → order_of_minor minor ≤ most_order version →
      words ≡ codes "has" ∷ minor_words minor → IsFilterLine version words

pub filter_said : (version : ℕ) (words : List (List ℕ)) (entry : Statement) → Says version (codes "filter" ∷ words) entry → IsFilterLine version words
filter_said version words (VersionIs n) said = absurd (omega (arith, ap third said.spelled))
filter_said version words (RankIs n) said = absurd (omega (arith, ap third said.spelled))
filter_said version words (FieldIs factors) said = absurd (omega (arith, ap third said.spelled))
filter_said version words (SizeIs n) said = absurd (omega (arith, ap third said.spelled))
filter_said version words (Forbids minor) said = absurd (omega (arith, ap third said.spelled))
filter_said version words ListsConnected said = let e = said.spelled in WithFlag flag.Connected (cc (e))
filter_said version words ListsThreeConnected said = let e = said.spelled in WithFlag flag.Three (cc (e))
filter_said version words ListsCosimple said = let e = said.spelled in WithFlag flag.Cosimple (cc (e))
filter_said version words ListsDistinct said = let e = said.spelled in WithFlag flag.Distinct (cc (e))
filter_said version words (ListsWith minor) said = let e = said.spelled in WithMinor minor said.may said.of_version (cc (e))
filter_said version words (EquivalenceIs mode) said = absurd (omega (arith, ap third said.spelled))
filter_said version words (Prints mode) said = absurd (omega (arith, ap third said.spelled))

-- a minor has a word
some_words : (minor : MinorName) → 1 ≤ length (minor_words minor)
some_words (Uniform rank size) = omega arith
some_words (ByMatrix order columns) = omega arith
some_words Fano = omega arith
some_words FanoDual = omega arith
some_words NonFano = omega arith
some_words KFour = omega arith
some_words KFive = omega arith

-- a word that no matrix begins with
pub name_alone : (minor : MinorName) (words : List (List ℕ)) (word : List ℕ) (more : List (List ℕ)) → words ≡ minor_words minor → words ≡ word ∷ more
    → (word ≡ codes "matrix" → ⊥) → more ≡ []
name_alone (Uniform rank size) words word more is at none = cc (is, at)
name_alone Fano words word more is at none = cc (is, at)
name_alone FanoDual words word more is at none = cc (is, at)
name_alone NonFano words word more is at none = cc (is, at)
name_alone KFour words word more is at none = cc (is, at)
name_alone KFive words word more is at none = cc (is, at)
name_alone (ByMatrix order columns) words word more is at none = absurd (none (cc (is, at)))

-- a minor whose first word is `matrix` is a matrix
abbrev initial : List (List ℕ) → ℕ
initial words = slice_index (slice_index_or words 0 []) 0

pub matrix_alone : (minor : MinorName) (words : List (List ℕ)) → codes "matrix" ∷ words ≡ minor_words minor
    → (order : ℕ) × (columns : List (List ℕ)) × (minor ≡ ByMatrix order columns) × (words ≡ matrix_words order columns)
matrix_alone (Uniform rank size) words is = absurd (omega (arith, ap initial is))
matrix_alone Fano words is = absurd (omega (arith, ap initial is))
matrix_alone FanoDual words is = absurd (omega (arith, ap initial is))
matrix_alone NonFano words is = absurd (omega (arith, ap initial is))
matrix_alone KFour words is = absurd (omega (arith, ap initial is))
matrix_alone KFive words is = absurd (omega (arith, ap initial is))
matrix_alone (ByMatrix order columns) words is = (order, columns, refl, cc (is))

-- so what is read behind that word is what is read with it
pub matrix_read : (version : ℕ) (o : Option NamedMinor) (all words : List (List ℕ)) → all ≡ codes "matrix" ∷ words
    → MatchOption o
    ((order : ℕ) (columns : List (List ℕ)) → IsMatrix order columns → order ≤ most_order version → words ≡ matrix_words order columns → ⊥)
    (λ named. (order : ℕ) × (columns : List (List ℕ)) × IsMatrix order columns × (order ≤ most_order version) × (words ≡ matrix_words order columns)
    × IsNamed named (ByMatrix order columns))
    → MatchOption o
    ((minor : MinorName) → IsMinorName minor → order_of_minor minor ≤ most_order version → all ≡ minor_words minor → ⊥)
    (λ named. (minor : MinorName) × IsMinorName minor × (order_of_minor minor ≤ most_order version) × (all ≡ minor_words minor) × IsNamed named minor)
matrix_read version None all words at none = λ minor may of_version is.
    let m = matrix_alone minor words (sym at ∙ is) in
    none m.0 m.1 (subst IsMinorName m.2 may) (subst (λ (n : MinorName). order_of_minor n ≤ most_order version) m.2 of_version) m.3
matrix_read version (Some named) all words at some =
    (ByMatrix some.0 some.1, some.2, some.3, at ∙ ap (λ (ws : List (List ℕ)). codes "matrix" ∷ ws) some.4, some.5)

-- one word that is no flag
pub no_flag : (version : ℕ) (words : List (List ℕ)) (word : List ℕ) (entry : Statement) → words ≡ word ∷ [] → ((f : Flag) → word ≡ flag_word f → ⊥)
    → Says version (codes "filter" ∷ words) entry → ⊥
no_flag version words word entry one none said = by (filter_said version words entry said)
  where
    by : IsFilterLine version words → ⊥
    by (WithFlag f e) = none f (cc (one, e))
    by (WithMinor minor may of_version e) =
        let long : 1 ≤ length (minor_words minor) = some_words minor in
        omega (arith, long, ap length (sym one ∙ e))
