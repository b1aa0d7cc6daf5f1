-- The words of a minor, joined, as a word of a line.
use Rattle.std.proofs.Common.{◌≡◌, ◌∙◌, ℕ, ◌+◌, ◌<◌, zero, suc, List, [], ◌∷◌, ◌++◌, map, length, take, slice_index_or, ap, arith, refl, append_assoc}
use Rattle.std.specs.List.{AllByRecursion, join_with_byte}
use Rattle.std.proofs.lemmas.List.{take_more, map-append}
use Rattle.arrayvec.specs.ArrayVec.{ArrayVec}
use Rattle.small_lists.specs.Lists.{lists}
use Rattle.formats.specs.Lines.{line_of_words}
use Rattle.formats.specs.Statement.{MinorName, Uniform, Fano, FanoDual, NonFano, KFour, KFive, ByMatrix, column_word, minor_words, IsMatrix}
use Rattle.formats.proofs.Unique.{order_small}
use Rattle.lister.proofs.Forms.{HaveLetters}

-- a minor is named by a word and maybe more
pub joined_after : (first : List ℕ) (minor : MinorName) →
    line_of_words (first ∷ join_with_byte 32 (minor_words minor) ∷ []) ≡ line_of_words (first ∷ minor_words minor)
joined_after first (Uniform rank size) = refl
joined_after first Fano = refl
joined_after first FanoDual = refl
joined_after first NonFano = refl
joined_after first KFour = refl
joined_after first KFive = refl
joined_after first (ByMatrix order columns) = refl

-- one word more
join_push : (x : List ℕ) (xs : List (List ℕ)) (y : List ℕ) → join_with_byte 32 ((x ∷ xs) ++ y ∷ []) ≡ join_with_byte 32 (x ∷ xs) ++ 32 ∷ y
join_push x [] y = refl
join_push x (x' ∷ xs) y = ap (λ (t : List ℕ). x ++ 32 ∷ t) (join_push x' xs y) ∙ (simp append_assoc)

-- one column more
pub column_more : (first second : List ℕ) (columns : List (ArrayVec ℕ)) (i : ℕ) (d : ArrayVec ℕ) → i < length columns
    → join_with_byte 32 (first ∷ second ∷ map column_word (lists (take (i + 1) columns))) ≡ join_with_byte 32
    (first ∷ second ∷ map column_word (lists (take i columns))) ++ 32 ∷ column_word (slice_index_or columns i d).items
column_more first second columns i d l =
    let column = slice_index_or columns i d in
    ap (λ (cs : List (ArrayVec ℕ)). join_with_byte 32 (first ∷ second ∷ map column_word (lists cs))) (take_more columns i d l)
    ∙ ap (λ (cs : List (List ℕ)). join_with_byte 32 (first ∷ second ∷ map column_word cs))
    (map-append (λ (c : ArrayVec ℕ). c.items) (take i columns) (column ∷ []))
    ∙ ap (λ (ws : List (List ℕ)). join_with_byte 32 (first ∷ second ∷ ws)) (map-append column_word (lists (take i columns)) (column.items ∷ []))
    ∙ join_push first (second ∷ map column_word (lists (take i columns))) (column_word column.items)

-- what holds of each column
column_at : (P : List ℕ → Type 0) (columns : List (ArrayVec ℕ)) → AllByRecursion P (lists columns) → (i : ℕ) (d : ArrayVec ℕ) →
    i < length columns → P (slice_index_or columns i d).items
column_at P [] all i d l = absurd (omega arith)
column_at P (c ∷ columns) all zero d l = all.0
column_at P (c ∷ columns) all (suc i) d l = column_at P columns all.1 i d (omega arith)

letters_below : (order : ℕ) (codes : List ℕ) → order < 14 → AllByRecursion (λ code. code < order) codes → HaveLetters codes
letters_below order [] small all = tt
letters_below order (code ∷ codes) small all = (omega (arith, all.0), letters_below order codes small all.1)

-- the codes of a column of a matrix are spelled by letters
pub matrix_letters : (order : ℕ) (columns : List (ArrayVec ℕ)) → IsMatrix order (lists columns) → (i : ℕ) (d : ArrayVec ℕ) → i < length columns
    → HaveLetters (slice_index_or columns i d).items
matrix_letters order columns matrix i d l =
    letters_below order (slice_index_or columns i d).items (order_small order matrix.is_order)
    (column_at (AllByRecursion (λ code. code < order)) columns matrix.entries i d l)
