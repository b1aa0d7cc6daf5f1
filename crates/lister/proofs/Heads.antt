-- The lines of a head, one after another.
use Rattle.std.proofs.Common.{◌≡◌, ◌∙◌, ℕ, ◌+◌, ◌<◌, Bool, true, false, List, [], ◌∷◌, ◌++◌, map, length, take, slice_index_or, codes, sym, ap, append_assoc}
use Rattle.std.specs.Prelude.{IsTrue}
use Rattle.std.proofs.lemmas.List.{append-nil, map-append, take_more}
use Rattle.std.proofs.lemmas.List.Concat.{flat_map-append}
use Rattle.matroid_theory.specs.declared.Mode.{Mode}
use Rattle.matroid_theory.specs.declared.Mode.TheVariants.{Semilinear}
use Rattle.named_matroids.specs.Names.{NamedMatroid, named_by}
use Rattle.formats.specs.Lines.{line_of_words}
use Rattle.formats.specs.Statement.{MinorName, Statement, VersionIs, FieldIs, RankIs, SizeIs, EquivalenceIs, Forbids, spelling}
use Rattle.formats.specs.Listing.{where_set, is_semilinear, text_of_statements}
use Rattle.request_reader.specs.Requested.{minors_of}

-- the line of an entry
abbrev pub entry_text : Statement → List ℕ
entry_text e = line_of_words (spelling e)

-- the texts of entries one after another
text_append : (es fs : List Statement) → text_of_statements (es ++ fs) ≡ text_of_statements es ++ text_of_statements fs
text_append es fs = flat_map-append entry_text es fs

pub one_text : (e : Statement) → text_of_statements (e ∷ []) ≡ entry_text e
one_text e = append-nil (entry_text e)

-- the lines of one more minor
pub forbid_more : (items : List NamedMatroid) (i : ℕ) (d : NamedMatroid) → i < length items →
    text_of_statements (map Forbids (minors_of (take (i + 1) items))) ≡ text_of_statements
    (map Forbids (minors_of (take i items))) ++ entry_text (Forbids (named_by (slice_index_or items i d).spelling))
forbid_more items i d l =
    let item = slice_index_or items i d in
    ap (λ (xs : List NamedMatroid). text_of_statements (map Forbids (minors_of xs))) (take_more items i d l)
    ∙ ap (λ (ms : List MinorName). text_of_statements (map Forbids ms)) (map-append (λ (x : NamedMatroid). named_by x.spelling) (take i items) (item ∷ []))
    ∙ ap text_of_statements (map-append Forbids (minors_of (take i items)) (named_by item.spelling ∷ []))
    ∙ text_append (map Forbids (minors_of (take i items))) (Forbids (named_by item.spelling) ∷ [])
    ∙ ap (λ (t : List ℕ). text_of_statements (map Forbids (minors_of (take i items))) ++ t) (one_text (Forbids (named_by item.spelling)))

-- the first entries of a head
abbrev pub first_entries : ℕ → List ℕ → ℕ → ℕ → List Statement
first_entries version factors rank size = VersionIs version ∷ FieldIs factors ∷ RankIs rank ∷ SizeIs size ∷ []

-- the entry of the equivalence, where it isn't the linear one
abbrev pub mode_entries : Mode → List Statement
mode_entries mode = where_set (is_semilinear mode) (EquivalenceIs Semilinear)

-- a title and the text of some entries, with those of more
pub more_text : (title before after : List ℕ) (es fs : List Statement) → before ≡ title ++ text_of_statements es →
    after ≡ before ++ text_of_statements fs → after ≡ title ++ text_of_statements (es ++ fs)
more_text title before after es fs b a =
    a
    ∙ ap (λ (t : List ℕ). t ++ text_of_statements fs) b
    ∙ append_assoc title (text_of_statements es) (text_of_statements fs)
    ∙ ap (λ (t : List ℕ). title ++ t) (sym (text_append es fs))

-- the line of a filter that is set, and none of one that isn't
pub flag_text : (before after : List ℕ) (set asked : Bool) (e : Statement) (word : List ℕ) →
    spelling e ≡ codes "filter" ∷ word ∷ [] → set ≡ asked →
    (IsTrue set → after ≡ before ++ line_of_words (codes "filter" ∷ word ∷ [])) → (set ≡ false → after ≡ before) →
    after ≡ before ++ text_of_statements (where_set asked e)
flag_text before after set true e word spelled is there none =
    there is ∙ ap (λ (t : List ℕ). before ++ t) (ap line_of_words (sym spelled) ∙ sym (one_text e))
flag_text before after set false e word spelled is there none = none is ∙ sym (append-nil before)
