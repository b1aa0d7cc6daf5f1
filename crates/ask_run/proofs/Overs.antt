-- What words ask about a matroid over a field, and what answers it.
use Rattle.std.proofs.Common.{◌≡◌, ◌↔◌, ℕ, ◌≤◌, refl, sym, ◌∙◌, ap, subst, arith, inl, inr, List, [], ◌∷◌, drop, length, Option, Some, None, Result, Err}
use Rattle.std.specs.Prelude.{MatchOption, IfSome, IsNone, IsErrOf}
use Rattle.matroid_theory.specs.Rep.{Rep}
use Rattle.matroid_theory.specs.Minor.{Matroid, IsMatroidOf}
use Rattle.matroid_theory.specs.Given.{IsGivenBy}
use Rattle.matroid_laws.proofs.GivenLemmas.{given_unique}
use Rattle.formats.specs.Statement.{MinorName, Uniform, IsMinorName, minor_words, elements_of}
use Rattle.formats.specs.Minors.{given_as}
use Rattle.formats.specs.Listing.{form_text}
use Rattle.formats.specs.Levels.{columns_of}
use Rattle.formats.proofs.Unique.{minor_same}
use Rattle.named_matroids.specs.declared.spelling.NameFault.{NameFault}
use Rattle.named_matroids.specs.declared.spelling.NameFault.TheVariants.{TooBig, Unknown}
use Rattle.named_matroids.specs.Names.{NamesTooBig, NamesNone}
use Rattle.dual_theory.specs.Represented.{Represents, IsLeastOver}
use Rattle.ask_formats.specs.Places.{word_at}
use Rattle.ask_formats.specs.Question.{Question, Dual, OverName, OverForm, Asks, MayBeSought}
use Rattle.ask_formats.specs.Answer.{none_text, IsLineOver, IsAnswer}
use Rattle.ask_run.specs.Texts.{over_words}

-- ---- three kinds of questions

pub no_question : (words : List (List ℕ)) → ((M : Rep) → Asks words (Dual M) → ⊥) → ((q : ℕ) (name : MinorName) → Asks words (OverName q name) → ⊥)
    → ((q : ℕ) (M : Rep) → Asks words (OverForm q M) → ⊥) → (question : Question) → Asks words question → ⊥
no_question words duals names forms (Dual M) asks = duals M asks
no_question words duals names forms (OverName q name) asks = names q name asks
no_question words duals names forms (OverForm q M) asks = forms q M asks

pub behind_three : (words : List (List ℕ)) (q : ℕ) (kind : List ℕ) (rest : List (List ℕ)) → words ≡ over_words q kind rest → drop 3 words ≡ rest
behind_three words q kind rest e = ap (λ (ws : List (List ℕ)). drop 3 ws) e

-- ---- one word

single : (words : List (List ℕ)) → length words ≡ 1 → words ≡ word_at words 0 ∷ []
single [] e = absurd (omega arith)
single (x ∷ []) e = refl
single (x ∷ y ∷ rest) e = absurd (omega arith)

-- a name that may be sought is one word
pub name_alone : (name : MinorName) → MayBeSought name → minor_words name ≡ word_at (minor_words name) 0 ∷ []
name_alone name h = single (minor_words name) h.word

-- ---- the matroid of a name

-- of a name that may be sought the rank is from 1 to 6
pub sought_rank : (name : MinorName) (N : Matroid) → MayBeSought name → IsGivenBy (given_as name) N → (1 ≤ N.rank) × (N.rank ≤ 6)
sought_rank name N h g = subst (λ (N : Matroid). (1 ≤ N.rank) × (N.rank ≤ 6)) (given_unique (given_as name) h.matroid N h.given g) (h.low, h.high)

module _ (words : List (List ℕ)) (name : MinorName) (h : MayBeSought name) (e : words ≡ minor_words name) where
  one_word : length words ≡ 1
  one_word = ap (λ (ws : List (List ℕ)). length ws) e ∙ h.word

  alone : minor_words name ≡ word_at words 0 ∷ []
  alone = sym e ∙ single words one_word

  module _ (text : List ℕ) (t : text ≡ word_at words 0) where
    alone_text : minor_words name ≡ text ∷ []
    alone_text = alone ∙ ap (λ (word : List ℕ). word ∷ []) (sym t)

    -- its word names a matroid of at most 10 elements
    pub no_fault : {T : Type 0} (r : Result T NameFault) → IsErrOf r TooBig ↔ NamesTooBig text → IsErrOf r Unknown ↔ NamesNone text
        → (fault : NameFault) → r ≡ Err fault → ⊥
    no_fault r big none TooBig e =
        let (rank, size, is, large, spelled) = big.0 e in
        let s : name ≡ Uniform rank size = minor_same name (Uniform rank size) h.is_name is (alone_text ∙ sym spelled) in
        let n : elements_of name ≡ size = ap elements_of s in
        omega (arith, h.few, large)
    no_fault r big none Unknown e = none.0 e name h.is_name alone_text

    -- the matroid of that word has a rank from 1 to 6
    pub word_rank : (other : MinorName) (N : Matroid) → IsMinorName other → minor_words other ≡ text ∷ []
        → IsGivenBy (given_as other) N → (1 ≤ N.rank) × (N.rank ≤ 6)
    word_rank other N is spelled g =
        let s : other ≡ name = minor_same other name is h.is_name (spelled ∙ sym alone_text) in
        sought_rank name N h (subst (λ (m : MinorName). IsGivenBy (given_as m) N) s g)

-- ---- answers

-- the line of the least matrix, or `none`
pub line_over : (q : ℕ) (N : Matroid) (matrix : Option Rep) (line : List ℕ) → IfSome matrix (IsLeastOver q N)
    → (IsNone matrix → (L : Rep) → ¬ (Represents q N L)) → MatchOption matrix (line ≡ none_text) (λ L. line ≡ form_text (columns_of L))
    → IsLineOver q N line
line_over q N None line found none e = inr (none refl, e)
line_over q N (Some L) line found none e = inl (L, found, e)

pub form_answer : (q : ℕ) (M : Rep) (matrix : Option Rep) (line : List ℕ) → (N : Matroid) × IsMatroidOf M N
    → IfSome matrix (λ L. (N : Matroid) × IsMatroidOf M N × IsLeastOver q N L)
    → (IsNone matrix → (N : Matroid) → IsMatroidOf M N → (L : Rep) → ¬ (Represents q N L))
    → MatchOption matrix (line ≡ none_text) (λ L. line ≡ form_text (columns_of L)) → IsAnswer (OverForm q M) line
form_answer q M None line (N, has) found none e = (N, has, inr (none refl N has, e))
form_answer q M (Some L) line some (N, has, least) none e = (N, has, inl (L, least, e))
