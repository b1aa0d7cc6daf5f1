-- The words of the columns of a matrix, read one after another.
use Rattle.std.proofs.Common.{◌≡◌, ◌∙◌, ℕ, zero, suc, ◌<◌, ◌≤◌, Bool, true, false, List, [], ◌∷◌, ◌++◌, length, get_or, refl, sym, ap, subst, arith, length-append, append_assoc}
use Rattle.std.specs.Prelude.{decimal}
use Rattle.std.specs.List.{AllByRecursion}
use Rattle.std.proofs.lemmas.List.{length-map, map-append}
use Rattle.matroid_theory.specs.Field.{IsOrder}
use Rattle.formats.specs.Statement.{column_word, entry_letter, IsMatrix}
use Rattle.std.proofs.lemmas.Fmt.{decimal_injective}
use Rattle.list_lemmas.proofs.Lists.{all_push}
use Rattle.formats.proofs.Unique.{order_small}
use Rattle.request_lines.specs.Matrices.{AreCodes, AreColumns, column_words, matrix_words}

-- the letter at a place of a word of a column is that of an entry
pub letter_at : (order : ℕ) (column word : List ℕ) (i d : ℕ) → AllByRecursion (λ code. code < order) column → word ≡ column_word column → i < length word
    → (code : ℕ) × (code < order) × (get_or word i d ≡ entry_letter code)
letter_at order column word i d below e lt =
    subst (λ (w : List ℕ). (code : ℕ) × (code < order) × (get_or w i d ≡ entry_letter code)) (sym e)
    (by column i below (omega (arith, ap length e, length-map column entry_letter)))
  where
    by : (codes : List ℕ) (k : ℕ) → AllByRecursion (λ code. code < order) codes → k < length codes → (code : ℕ) × (code < order)
        × (get_or (column_word codes) k d ≡ entry_letter code)
    by [] k all l = absurd (omega arith)
    by (code ∷ codes) zero all l = (code, all.0, refl)
    by (code ∷ codes) (suc k) all l = by codes k all.1 (omega arith)

-- Some columns, at least one, each of this many entries, which are below the order.
pub record AreHigh (order rows : ℕ) (columns : List (List ℕ)) : Type 0 where
  pub some : 0 < length columns
  pub low : 1 ≤ rows
  pub high : rows ≤ 6
  pub long : AllByRecursion (λ column. length column ≡ rows) columns
  pub entries : AllByRecursion (λ column. AllByRecursion (λ code. code < order) column) columns

-- the columns that are kept: all, or ten of more
abbrev pub AreKept : Bool → List (List ℕ) → List (List ℕ) → Type 0
AreKept false kept columns = kept ≡ columns
AreKept true kept columns = 10 < length columns

-- The words begin with those of some columns, and what is left follows.
pub record AreRead (order rows : ℕ) (is_many : Bool) (kept : List (List ℕ)) (words left : List (List ℕ)) : Type 0 where
  pub columns : List (List ℕ)
  pub are : AreHigh order rows columns
  pub spelled : words ≡ column_words columns ++ left
  pub kept_are : AreKept is_many kept columns

-- one column more
pub high_more : (order rows : ℕ) (columns : List (List ℕ)) (column : List ℕ) → AreHigh order rows columns → AreCodes order column → length column ≡ rows
    → AreHigh order rows (columns ++ column ∷ [])
high_more order rows columns column are codes long = record {
  some = omega (arith, are.some, length-append columns (column ∷ []));
  low = are.low;
  high = are.high;
  long = all_push (λ c. length c ≡ rows) columns column are.long long;
  entries = all_push (λ c. AllByRecursion (λ code. code < order) c) columns column are.entries codes.below;
}

pub words_more : (columns words left after : List (List ℕ)) (word column : List ℕ) → words ≡ column_words columns ++ left →
    left ≡ word ∷ after → word ≡ column_word column
    → words ≡ column_words (columns ++ column ∷ []) ++ after
words_more columns words left after word column e f g =
    e ∙ ap (λ (l : List (List ℕ)). column_words columns ++ l) (f ∙ ap (λ (w : List ℕ). w ∷ after) g)
    ∙ sym (append_assoc (column_words columns) (column_word column ∷ []) after)
    ∙ ap (λ (l : List (List ℕ)). l ++ after) (sym (map-append column_word columns (column ∷ [])))

-- a column more that is kept, where the earlier ones are
pub kept_more : (is_many : Bool) (kept now columns : List (List ℕ)) (column : List ℕ) → AreKept is_many kept columns →
    now ≡ kept ++ column ∷ [] → AreKept is_many now (columns ++ column ∷ [])
kept_more false kept now columns column are e = e ∙ ap (λ (l : List (List ℕ)). l ++ column ∷ []) are
kept_more true kept now columns column are e = omega (arith, are, length-append columns (column ∷ []))

-- a column more where ten are kept
pub many_more : (is_many : Bool) (kept columns : List (List ℕ)) (column : List ℕ) → AreKept is_many kept columns →
    length kept ≡ 10 → 10 < length (columns ++ column ∷ [])
many_more false kept columns column are full = omega (arith, ap length are, length-append columns (column ∷ []))
many_more true kept columns column are full = omega (arith, are, length-append columns (column ∷ []))

pub read_more : (order rows : ℕ) (is_many : Bool) (kept now : List (List ℕ)) (words left after : List (List ℕ))
    (word column : List ℕ) → AreRead order rows is_many kept words left
    → left ≡ word ∷ after → AreCodes order column → word ≡ column_word column → length column ≡ rows → now ≡ kept ++ column ∷ [] →
    AreRead order rows is_many now words after
read_more order rows is_many kept now words left after word column read e codes is long push = record {
  columns = read.columns ++ column ∷ [];
  are = high_more order rows read.columns column read.are codes long;
  spelled = words_more read.columns words left after word column read.spelled e is;
  kept_are = kept_more is_many kept now read.columns column read.kept_are push;
}

pub read_past : (order rows : ℕ) (is_many : Bool) (kept now : List (List ℕ)) (words left after : List (List ℕ))
    (word column : List ℕ) → AreRead order rows is_many kept words left
    → left ≡ word ∷ after → AreCodes order column → word ≡ column_word column → length column ≡ rows → length kept ≡ 10 →
    AreRead order rows true now words after
read_past order rows is_many kept now words left after word column read e codes is long full = record {
  columns = read.columns ++ column ∷ [];
  are = high_more order rows read.columns column read.are codes long;
  spelled = words_more read.columns words left after word column read.spelled e is;
  kept_are = many_more is_many kept read.columns column read.kept_are full;
}

-- with no word left, these are the columns
pub are_columns : (order rows : ℕ) (columns : List (List ℕ)) → AreHigh order rows columns → AreColumns order columns
are_columns order rows columns are = record { some = are.some; height = (rows, are.low, are.high, are.long); entries = are.entries }

pub words_all : (columns words left : List (List ℕ)) → words ≡ column_words columns ++ left → left ≡ [] → words ≡ column_words columns
words_all columns words left e f = e ∙ ap (λ (l : List (List ℕ)). column_words columns ++ l) f ∙ nil (column_words columns)
  where
    nil : (xs : List (List ℕ)) → xs ++ [] ≡ xs
    nil [] = refl
    nil (x ∷ xs) = ap (λ (l : List (List ℕ)). x ∷ l) (nil xs)

-- the words of some columns that begin with those of others: of one length, and the next word is a column of it too
same_word : (x y : List ℕ) → column_word x ≡ column_word y → length x ≡ length y
same_word x y e = sym (length-map x entry_letter) ∙ ap length e ∙ length-map y entry_letter

pub word_long : (word column : List ℕ) → word ≡ column_word column → length word ≡ length column
word_long word column e = ap length e ∙ length-map column entry_letter

same_rows : (rows others : ℕ) (columns all left : List (List ℕ)) → 0 < length columns → AllByRecursion (λ column. length column ≡ rows) columns
    → AllByRecursion (λ column. length column ≡ others) all → column_words columns ++ left ≡ column_words all → others ≡ rows
same_rows rows others [] all left some long longs e = absurd (omega arith)
same_rows rows others (x ∷ xs) [] left some long longs e = cc (e)
same_rows rows others (x ∷ xs) (y ∷ ys) left some long longs e = let same : column_word x ≡ column_word y = cc (e) in
    sym longs.0 ∙ sym (same_word x y same) ∙ long.0

next_word : (order rows : ℕ) (columns all after : List (List ℕ)) (word : List ℕ) → AllByRecursion (λ column. length column ≡ rows) all
    → AllByRecursion (λ column. AllByRecursion (λ code. code < order) column) all → column_words columns ++ word ∷ after ≡ column_words all
    → (column : List ℕ) × (length column ≡ rows) × AllByRecursion (λ code. code < order) column × (word ≡ column_word column)
next_word order rows [] [] after word long entries e = cc (e)
next_word order rows [] (y ∷ ys) after word long entries e = (y, long.0, entries.0, cc (e))
next_word order rows (x ∷ xs) [] after word long entries e = cc (e)
next_word order rows (x ∷ xs) (y ∷ ys) after word long entries e = next_word order rows xs ys after word long.1 entries.1 (cc (e))

-- the first word of columns is one
pub first_column : (order : ℕ) (all words after : List (List ℕ)) (word : List ℕ) → AreColumns order all → words ≡ column_words all → words ≡ word ∷ after
    → (column : List ℕ) × AreCodes order column × (word ≡ column_word column)
first_column order all words after word are e f =
    let height = are.height in
    let next = next_word order height.0 [] all after word height.3 are.entries (sym f ∙ e) in
    (next.0, record { some = omega (arith, next.1, height.1); few = omega (arith, next.1, height.2); below = next.2 }, next.3)

-- there is a first word
pub some_word : (order : ℕ) (all words : List (List ℕ)) → AreColumns order all → words ≡ column_words all → words ≡ [] → ⊥
some_word order [] words are e f = absurd (omega (arith, are.some))
some_word order (x ∷ xs) words are e f = cc (e, f)

-- a word after some columns is a column as long as they are
pub next_column : (order rows : ℕ) (is_many : Bool) (kept words left all after : List (List ℕ)) (word : List ℕ) → AreRead order rows is_many kept words left
    → left ≡ word ∷ after → AreColumns order all → words ≡ column_words all → (column : List ℕ) × AreCodes order column
    × (length column ≡ rows) × (word ≡ column_word column)
next_column order rows is_many kept words left all after word read e are is =
    let height = are.height in
    let both : column_words read.columns ++ word ∷ after ≡ column_words all =
    ap (λ (l : List (List ℕ)). column_words read.columns ++ l) (sym e) ∙ sym read.spelled ∙ is in
    let same : height.0 ≡ rows = same_rows rows height.0 read.columns all (word ∷ after) read.are.some read.are.long height.3 both in
    let next = next_word order height.0 read.columns all after word height.3 are.entries both in
    let long : length next.0 ≡ rows = next.1 ∙ same in
    (next.0, record { some = omega (arith, long, read.are.low); few = omega (arith, long, read.are.high); below = next.2 }, long, next.3)

-- a matrix is spelled by the word of an order and those of columns
pub columns_of_matrix : (order : ℕ) (columns : List (List ℕ)) → IsMatrix order columns → AreColumns order columns
columns_of_matrix order columns is = record { some = is.some; height = is.height; entries = is.entries }

-- the order that the first word spells is that of the matrix
pub same_order : (order q : ℕ) (columns words after : List (List ℕ)) (word : List ℕ) → IsOrder order → IsOrder q →
    words ≡ matrix_words order columns → words ≡ word ∷ after
    → word ≡ decimal q → order ≡ q
same_order order q columns words after word is of_q e f g =
    let m = order_small order is in
    let n = order_small q of_q in
    let h : decimal order ≡ decimal q = cc (e, f, g) in
    decimal_injective order q (omega (arith, m)) (omega (arith, n)) h
