-- How a text is cut into lines, and a line into words.
use Rattle.std.specs.Prelude.{ℕ, ◌∷◌, [], ◌++◌, ◌==◌, ◌||◌, Bool, true, false, not, List, map, filter, slice_index}
use Rattle.std.specs.List.{slice_split, join_with_byte}
use Rattle.std.specs.Str.Lines.{strip_carriage_return}

-- The pieces of a text without a byte 13 at their end. A last piece that is empty is no line.
abbrev pub lines_of_pieces : List (List ℕ) → List (List ℕ)
lines_of_pieces [] = []
lines_of_pieces ([] ∷ []) = []
lines_of_pieces ((b ∷ last) ∷ []) = strip_carriage_return (b ∷ last) ∷ []
lines_of_pieces (piece ∷ next ∷ more) = strip_carriage_return piece ∷ lines_of_pieces (next ∷ more)

-- A text is cut at each byte 10.
abbrev pub lines_of : List ℕ → List (List ℕ)
lines_of text = lines_of_pieces (slice_split (λ b. b == 10) text)

abbrev pub is_blank : ℕ → Bool
is_blank b = (b == 32) || (b == 9)

abbrev pub has_bytes : List ℕ → Bool
has_bytes [] = false
has_bytes (b ∷ bytes) = true

-- The words of a line are the longest runs of bytes that aren't blank.
abbrev pub words_of : List ℕ → List (List ℕ)
words_of line = filter has_bytes (slice_split is_blank line)

-- A line without a word, or whose first word begins with `#`, is skipped.
abbrev pub is_skipped : List (List ℕ) → Bool
is_skipped [] = true
is_skipped (word ∷ words) = slice_index word 0 == 35

-- the words of each line that isn't skipped
abbrev pub statements_of : List (List ℕ) → List (List (List ℕ))
statements_of lines = filter (λ words. not (is_skipped words)) (map words_of lines)

-- the line of some words, with one space between two, and its end
abbrev pub line_of_words : List (List ℕ) → List ℕ
line_of_words words = join_with_byte 32 words ++ 10 ∷ []

-- lists one after another, with a word between two
abbrev pub parted : List ℕ → List (List (List ℕ)) → List (List ℕ)
parted word [] = []
parted word (xs ∷ []) = xs
parted word (xs ∷ ys ∷ more) = xs ++ word ∷ parted word (ys ∷ more)

-- texts one after another, with a text between two
abbrev pub joined : List ℕ → List (List ℕ) → List ℕ
joined between [] = []
joined between (x ∷ []) = x
joined between (x ∷ y ∷ more) = x ++ between ++ joined between (y ∷ more)
