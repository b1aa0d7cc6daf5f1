-- A text begins with the head of one request, among those without filter that print forms.
use Rattle.std.proofs.Common.{◌≡◌, ◌∙◌, ◌⊎◌, inl, inr, ℕ, List, [], ◌∷◌, ◌++◌, map, length, refl, sym, ap, subst, arith, append_assoc, length-append}
use Rattle.std.specs.Prelude.{filter_map, option_to_list, slice_index, codes}
use Rattle.std.specs.List.{AllByRecursion}
use Rattle.std.proofs.lemmas.List.{append-nil, append_cancel_left, map-append}
use Rattle.std.proofs.lemmas.Grind.{flat_map-append}
use Rattle.list_lemmas.proofs.Lists.{all_append}
use Rattle.matroid_theory.specs.Field.{IsFactors}
use Rattle.matroid_theory.specs.declared.Mode.TheVariants.{Semilinear}
use Rattle.formats.specs.declared.refusal.PrintMode.TheVariants.{Forms}
use Rattle.formats.specs.Lines.{lines_of, statements_of, line_of_words}
use Rattle.formats.specs.Statement.{MinorName, Statement, VersionIs, RankIs, FieldIs, SizeIs, EquivalenceIs, Forbids, ListsConnected, ListsThreeConnected, ListsCosimple, ListsDistinct, ListsWith, Prints, IsNumber, IsMinorName, IsStatement, spelling}
use Rattle.formats.specs.Request.{Request, StandsFor, field_in}
use Rattle.formats.specs.Listing.{where_set, is_semilinear, head_statements, text_of_statements, head_text}
use Rattle.formats.proofs.Unique.{entries_same, request_same}
use Rattle.formats.proofs.Spelled.{entry_line, first_statement, spelled}
use Rattle.formats.proofs.Heads.{version_is, head_stands, all_where, forbidden_may}
use Rattle.resume_formats.specs.Cut.{ListsAllForms, BeginsWithHead, IsCutListing}
use Rattle.resume_formats.proofs.FrontLemmas.{fronts_ordered}

-- ---- what such a head says

-- all but the last line
abbrev pub begun : Request → List Statement
begun q = VersionIs q.version ∷ FieldIs q.factors ∷ RankIs q.rank ∷ SizeIs q.size ∷ where_set (is_semilinear q.mode)
    (EquivalenceIs Semilinear) ++ map Forbids q.forbid

abbrev pub said : Request → List Statement
said q = begun q ++ Prints Forms ∷ []

-- filters that aren't there leave nothing between
without_filters : (xs ys : List Statement) → xs ++ [] ++ [] ++ [] ++ [] ++ [] ++ ys ≡ xs ++ ys
without_filters xs ys =
    ap (λ (l : List Statement). l ++ ys)
    (append-nil (xs ++ [] ++ [] ++ [] ++ []) ∙ append-nil (xs ++ [] ++ [] ++ []) ∙ append-nil (xs ++ [] ++ []) ∙ append-nil (xs ++ []) ∙ append-nil xs)

pub statements_are : (q : Request) → ListsAllForms q → head_statements q ≡ said q
statements_are q all =
    (λ i. VersionIs q.version ∷ FieldIs q.factors ∷ RankIs q.rank ∷ SizeIs q.size ∷ where_set (is_semilinear q.mode) (EquivalenceIs Semilinear)
    ++ map Forbids q.forbid
    ++ where_set (all.connected i) ListsConnected ++ where_set (all.three_connected i) ListsThreeConnected ++ where_set (all.cosimple i) ListsCosimple
    ++ where_set (all.distinct i) ListsDistinct ++ map ListsWith (option_to_list (all.has i))
    ++ Prints (all.print i) ∷ [])
    ∙ without_filters (begun q) (Prints Forms ∷ [])

-- so it ends with the line of what is printed
pub head_ends : (q : Request) → ListsAllForms q → head_text q ≡ codes "macek listing 1\n" ++ (text_of_statements (begun q) ++ codes "print forms\n")
unfolding head_text
head_ends q all =
    ap (λ (es : List Statement). codes "macek listing 1\n" ++ text_of_statements es) (statements_are q all)
    ∙ ap (λ (t : List ℕ). codes "macek listing 1\n" ++ t)
    (flat_map-append (λ (entry : Statement). line_of_words (spelling entry)) (begun q) (Prints Forms ∷ []))

-- ---- it may be said

all_map : {X Y : Type 0} (P : Y → Type 0) (f : X → Y) (xs : List X) → AllByRecursion (λ x. P (f x)) xs → AllByRecursion P (map f xs)
all_map P f [] all = tt
all_map P f (x ∷ xs) all = (all.0, all_map P f xs all.1)

fields_may : (es : List Statement) → AllByRecursion IsStatement es → AllByRecursion IsFactors (filter_map field_in es)
fields_may [] all = tt
fields_may (FieldIs factors ∷ es) all = (all.0, fields_may es all.1)
fields_may (_ ∷ es) all = fields_may es all.1

version_small : (n : ℕ) → (n ≡ 1) ⊎ (n ≡ 2) → IsNumber n
version_small n (inl one) = omega arith
version_small n (inr two) = omega arith

pub begun_may : (text : List ℕ) (q : Request) → StandsFor text q → AllByRecursion IsStatement (begun q)
begun_may text q s =
    let version = version_small q.version (subst (λ (v : ℕ). (v ≡ 1) ⊎ (v ≡ 2)) s.version (version_is text)) in
    let field = subst (AllByRecursion IsFactors) s.asked.field (fields_may s.entries s.said.may) in
    let forbid = subst (AllByRecursion IsMinorName) s.asked.forbid (forbidden_may s.entries s.said.may) in
    let rank : IsNumber q.rank = omega (arith, s.limits.rank.1) in
    let size : IsNumber q.size = omega (arith, s.limits.size.1) in (
      version,
      (
        field.0,
        (
          rank,
          (
            size,
            all_append IsStatement (where_set (is_semilinear q.mode) (EquivalenceIs Semilinear)) (map Forbids q.forbid)
                (all_where IsStatement (is_semilinear q.mode) (EquivalenceIs Semilinear) tt) (all_map IsStatement Forbids q.forbid forbid),
          ),
        ),
      ),
    )

pub said_may : (text : List ℕ) (q : Request) → StandsFor text q → AllByRecursion IsStatement (said q)
said_may text q s = all_append IsStatement (begun q) (Prints Forms ∷ []) (begun_may text q s) (tt, tt)

-- ---- its lines

-- the text of statements at the front of a text says them first
said_first : (es : List Statement) (more : List ℕ) → AllByRecursion IsStatement es
    → statements_of (lines_of (text_of_statements es ++ more)) ≡ map spelling es ++ statements_of (lines_of more)
said_first [] more all = refl
said_first (e ∷ es) more all =
    ap (λ (t : List ℕ). statements_of (lines_of t)) (append_assoc (line_of_words (spelling e)) (text_of_statements es) more)
    ∙ first_statement (spelling e) (text_of_statements es ++ more) (entry_line e all.0)
    ∙ ap (λ (l : List (List (List ℕ))). spelling e ∷ l) (said_first es more all.1)

-- the first byte of the first word
abbrev first_byte : List (List ℕ) → ℕ
first_byte [] = 0
first_byte (word ∷ words) = slice_index word 0

-- only what is printed is said by a word with a `p`
abbrev IsPrintLine : List (List ℕ) → Type 0
IsPrintLine words = first_byte words ≡ 112

all_forbids : (ms : List MinorName) → AllByRecursion (λ m. ¬ (IsPrintLine (spelling (Forbids m)))) ms
all_forbids [] = tt
all_forbids (m ∷ ms) = (λ e. absurd (omega arith), all_forbids ms)

begun_other : (q : Request) → AllByRecursion (λ e. ¬ (IsPrintLine (spelling e))) (begun q)
begun_other q = (
  λ e. absurd (omega arith),
  (
    λ e. absurd (omega arith),
    (
      λ e. absurd (omega arith),
      (
        λ e. absurd (omega arith),
        all_append (λ e. ¬ (IsPrintLine (spelling e))) (where_set (is_semilinear q.mode) (EquivalenceIs Semilinear)) (map Forbids q.forbid)
            (all_where (λ e. ¬ (IsPrintLine (spelling e))) (is_semilinear q.mode) (EquivalenceIs Semilinear) (λ e. absurd (omega arith)))
            (all_map (λ e. ¬ (IsPrintLine (spelling e))) Forbids q.forbid (all_forbids q.forbid)),
      ),
    ),
  ),
)

-- where one list ends with what the other has for the first time, the other ends there too
ends_there : {X : Type 0} (P : X → Type 0) (xs ys more : List X) (a b : X) → P a → AllByRecursion (λ y. ¬ (P y)) ys
    → xs ++ a ∷ more ≡ ys ++ b ∷ [] → more ≡ []
ends_there P [] [] more a b p all e = cc (e)
ends_there P [] (y ∷ ys) more a b p all e = let same : a ≡ y = cc (e) in absurd (all.0 (subst P same p))
ends_there P (x ∷ xs) [] more a b p all e =
    let none : xs ++ a ∷ more ≡ [] = cc (e) in absurd (omega (arith, ap length none, length-append xs (a ∷ more)))
ends_there P (x ∷ xs) (y ∷ ys) more a b p all e =
    let rest : xs ++ a ∷ more ≡ ys ++ b ∷ [] = cc (e) in ends_there P xs ys more a b p all.1 rest

-- ---- one request

module _ (q r : Request) (a b : List ℕ) (for_q : StandsFor a q) (for_r : StandsFor b r) (all_q : ListsAllForms q) (all_r : ListsAllForms r) where
  -- where one head is a front of the other
  same_from_front : (more : List ℕ) → head_text r ≡ head_text q ++ more → q ≡ r
  unfolding head_text
  same_from_front more e =
      let texts : text_of_statements (head_statements r) ≡ text_of_statements (head_statements q) ++ more =
      append_cancel_left (codes "macek listing 1\n") (text_of_statements (head_statements r)) (text_of_statements (head_statements q) ++ more) e in
      let saids : text_of_statements (said r) ≡ text_of_statements (said q) ++ more =
      ap text_of_statements (sym (statements_are r all_r)) ∙ texts
      ∙ ap (λ (es : List Statement). text_of_statements es ++ more) (statements_are q all_q) in
      let others = statements_of (lines_of more) in
      let lines : map spelling (said r) ≡ map spelling (said q) ++ others =
      sym (spelled (said r) (said_may b r for_r)) ∙ ap (λ (t : List ℕ). statements_of (lines_of t)) saids ∙ said_first (said q) more (said_may a q for_q) in
      let last = spelling (Prints Forms) in
      let parted : map spelling (begun q) ++ last ∷ others ≡ map spelling (begun r) ++ last ∷ [] =
      sym (append_assoc (map spelling (begun q)) (last ∷ []) others)
      ∙ ap (λ (l : List (List (List ℕ))). l ++ others) (sym (map-append spelling (begun q) (Prints Forms ∷ [])))
      ∙ sym lines ∙ map-append spelling (begun r) (Prints Forms ∷ []) in
      let none : others ≡ [] =
      ends_there IsPrintLine (map spelling (begun q)) (map spelling (begun r)) others last last refl
      (all_map (λ words. ¬ (IsPrintLine words)) spelling (begun r) (begun_other r)) parted in
      let spelled_same : map spelling (said q) ≡ map spelling (said r) =
      sym (append-nil (map spelling (said q))) ∙ ap (λ (l : List (List (List ℕ))). map spelling (said q) ++ l) (sym none) ∙ sym lines in
      let same : said q ≡ said r = entries_same (said q) (said r) (said_may a q for_q) (said_may b r for_r) spelled_same in
      let heads : text_of_statements (head_statements q) ≡ text_of_statements (head_statements r) =
      ap text_of_statements (statements_are q all_q ∙ same ∙ sym (statements_are r all_r)) in
      request_same (text_of_statements (head_statements r)) q r (subst (λ (t : List ℕ). StandsFor t q) heads (head_stands a q for_q)) (head_stands b r for_r)

-- a text begins with one head
pub head_same : (text : List ℕ) (q r : Request) → BeginsWithHead q text → BeginsWithHead r text → q ≡ r
head_same text q r p s =
    elim (fronts_ordered text (head_text q) (head_text r) p.head s.head) [
      | inl m ↦ sym (same_from_front r q s.asking p.asking s.stands p.stands s.all_forms p.all_forms m.0 m.1)
      | inr m ↦ same_from_front q r p.asking s.asking p.stands s.stands p.all_forms s.all_forms m.0 m.1
    ]

pub cut_same : (text : List ℕ) (q r : Request) → IsCutListing q text → IsCutListing r text → q ≡ r
cut_same text q r a b = head_same text q r a.head b.head
