-- Cutting the text of some entries into lines and words gives back their spellings.
use Rattle.std.proofs.Common.{◌≡◌, ◌∙◌, ℕ, suc, ◌-◌, ◌<◌, ◌≤◌, ◌==◌, ◌&&◌, Bool, true, false, cond, List, [], ◌∷◌, ◌++◌, map, length, take, refl, ap, arith, append_assoc}
use Rattle.std.specs.Prelude.{codes, decimal, nat_lt, filter, slice_index}
use Rattle.std.specs.List.{AllByRecursion, slice_split, join_with_byte}
use Rattle.std.specs.Str.Lines.{strip_carriage_return}
use Rattle.std.specs.Str.Parse.{AllDigits}
use Rattle.std.proofs.lemmas.Bool.Decides.{nat_tests}
use Rattle.std.proofs.lemmas.List.Elements.{All-from_recursion}
use Rattle.std.proofs.lemmas.List.Splits.{slice_split_none, slice_split_at, length-slice_split}
use Rattle.std.proofs.lemmas.Fmt.{decimal_is_IsNumeral}
use Rattle.std.proofs.lemmas.Str.Parse.{digit_from_value}
use Rattle.std.proofs.lemmas.Bool.{and_parts}
use Rattle.matroid_theory.specs.Field.{IsOrder}
use Rattle.matroid_theory.specs.declared.Mode.{Mode}
use Rattle.matroid_theory.specs.declared.Mode.TheVariants.{Linear, Semilinear}
use Rattle.formats.specs.declared.refusal.PrintMode.{PrintMode}
use Rattle.formats.specs.declared.refusal.PrintMode.TheVariants.{Forms, Counts}
use Rattle.formats.specs.Lines.{lines_of, lines_of_pieces, is_blank, has_bytes, words_of, is_skipped, statements_of, line_of_words, parted}
use Rattle.formats.specs.Statement.{MinorName, Uniform, Fano, FanoDual, NonFano, KFour, KFive, ByMatrix, Statement, VersionIs, RankIs, FieldIs, SizeIs, EquivalenceIs, Forbids, ListsConnected, ListsThreeConnected, ListsCosimple, ListsDistinct, ListsWith, Prints, column_word, minor_words, mode_word, print_word, IsNumber, IsMinorName, IsStatement, IsOfVersion, spelling}
use Rattle.formats.specs.Request.{SayInTurn}
use Rattle.formats.specs.Listing.{text_of_statements}
use Rattle.formats.proofs.Unique.{statements_split, order_small, letter_from}

-- bytes from 36 up: no space, no end of a line, and no `#`
abbrev pub AreBytes : List ℕ → Type 0
AreBytes bytes = AllByRecursion (λ b. 36 ≤ b) bytes

abbrev pub IsWord : List ℕ → Type 0
IsWord [] = ⊥
IsWord (b ∷ bytes) = (36 ≤ b) × AreBytes bytes

abbrev pub AreWords : List (List ℕ) → Type 0
AreWords words = AllByRecursion IsWord words

-- at least one word
abbrev pub IsLine : List (List ℕ) → Type 0
IsLine [] = ⊥
IsLine (word ∷ words) = IsWord word × AreWords words

-- a test of words that are written out
abbrev are_bytes : List ℕ → Bool
are_bytes [] = true
are_bytes (b ∷ bytes) = nat_lt 35 b && are_bytes bytes

abbrev is_word : List ℕ → Bool
is_word [] = false
is_word (b ∷ bytes) = nat_lt 35 b && are_bytes bytes

byte_tested : (b : ℕ) → nat_lt 35 b ≡ true → 36 ≤ b
byte_tested b e = grind (arith, nat_tests)

bytes_tested : (bytes : List ℕ) → are_bytes bytes ≡ true → AreBytes bytes
bytes_tested [] e = tt
bytes_tested (b ∷ bytes) e = let h = and_parts (nat_lt 35 b) (are_bytes bytes) e in (byte_tested b h.0, bytes_tested bytes h.1)

word_tested : (word : List ℕ) → is_word word ≡ true → IsWord word
word_tested [] e = cc (e)
word_tested (b ∷ bytes) e = let h = and_parts (nat_lt 35 b) (are_bytes bytes) e in (byte_tested b h.0, bytes_tested bytes h.1)

-- numbers and columns are words
digits_bytes : (bytes : List ℕ) → AllDigits 10 bytes → AreBytes bytes
digits_bytes [] all = tt
digits_bytes (b ∷ bytes) all = (let range = digit_from_value b all.0 in omega (arith, range.0), digits_bytes bytes all.1)

word_from : (word : List ℕ) → 0 < length word → AreBytes word → IsWord word
word_from [] some all = absurd (omega arith)
word_from (b ∷ bytes) some all = all

decimal_bytes : (n : ℕ) → IsNumber n → AreBytes (decimal n)
decimal_bytes n lt = digits_bytes (decimal n) ((decimal_is_IsNumeral n (omega arith)).0.1)

pub decimal_word : (n : ℕ) → IsNumber n → IsWord (decimal n)
decimal_word n lt = word_from (decimal n) ((decimal_is_IsNumeral n (omega arith)).0.0) (decimal_bytes n lt)

column_bytes : (column : List ℕ) → AreBytes (column_word column)
column_bytes [] = tt
column_bytes (code ∷ column) = (omega (arith, letter_from code), column_bytes column)

pub columns_words : (rows : ℕ) (columns : List (List ℕ)) → 1 ≤ rows → AllByRecursion (λ column. length column ≡ rows) columns
    → AreWords (map column_word columns)
columns_words rows [] some height = tt
columns_words rows ([] ∷ columns) some height = absurd (omega (arith, height.0))
columns_words rows ((code ∷ column) ∷ columns) some height = (column_bytes (code ∷ column), columns_words rows columns some height.1)

bytes_append : (xs ys : List ℕ) → AreBytes xs → AreBytes ys → AreBytes (xs ++ ys)
bytes_append [] ys p q = q
bytes_append (x ∷ xs) ys p q = (p.0, bytes_append xs ys p.1 q)

-- the words of a minor
minor_line : (minor : MinorName) → IsMinorName minor → IsLine (minor_words minor)
minor_line (Uniform rank size) may =
    let front = decimal_bytes rank (omega (arith, may.low, may.short)) in
    let back = decimal_bytes size may.short in
    (((byte_tested 85 refl), bytes_append (decimal rank) (44 ∷ decimal size) front (byte_tested 44 refl, back)), tt)
minor_line Fano may = (word_tested (codes "F7") refl, tt)
minor_line FanoDual may = (word_tested (codes "F7*") refl, tt)
minor_line NonFano may = (word_tested (codes "F7-") refl, tt)
minor_line KFour may = (word_tested (codes "K4") refl, tt)
minor_line KFive may = (word_tested (codes "K5") refl, tt)
minor_line (ByMatrix order columns) may =
    let small = order_small order may.is_order in
    let height = may.height in
    (word_tested (codes "matrix") refl, (decimal_word order (omega (arith, small)), columns_words height.0 columns height.1 height.3))

line_words : (words : List (List ℕ)) → IsLine words → AreWords words
line_words [] line = tt
line_words (word ∷ words) line = line

factors_words : (factors : List ℕ) → ((f : ℕ) → f < length factors → IsOrder (slice_index factors f)) →
    AreWords (parted (codes "x") (map (λ order. decimal order ∷ []) factors))
factors_words [] all = tt
factors_words (x ∷ []) all = let small = order_small x (all 0 (omega arith)) in (decimal_word x (omega (arith, small)), tt)
factors_words (x ∷ y ∷ ys) all =
    let small = order_small x (all 0 (omega arith)) in
    (decimal_word x (omega (arith, small)), (word_tested (codes "x") refl, factors_words (y ∷ ys) (λ f l. all (suc f) (omega arith))))

print_is_word : (print : PrintMode) → IsWord (print_word print)
print_is_word Forms = word_tested (codes "forms") refl
print_is_word Counts = word_tested (codes "counts") refl

mode_is_word : (mode : Mode) → IsWord (mode_word mode)
mode_is_word Linear = word_tested (codes "linear") refl
mode_is_word Semilinear = word_tested (codes "semilinear") refl

-- the words of an entry
pub entry_line : (e : Statement) → IsStatement e → IsLine (spelling e)
entry_line (VersionIs n) may = (word_tested (codes "version") refl, (decimal_word n may, tt))
entry_line (RankIs n) may = (word_tested (codes "rank") refl, (decimal_word n may, tt))
entry_line (FieldIs factors) may = (word_tested (codes "field") refl, factors_words factors may.fields)
entry_line (SizeIs n) may = (word_tested (codes "size") refl, (decimal_word n may, tt))
entry_line (Forbids minor) may = (word_tested (codes "forbid") refl, line_words (minor_words minor) (minor_line minor may))
entry_line ListsConnected may = (word_tested (codes "filter") refl, (word_tested (codes "connected") refl, tt))
entry_line ListsThreeConnected may = (word_tested (codes "filter") refl, (word_tested (codes "3conn") refl, tt))
entry_line ListsCosimple may = (word_tested (codes "filter") refl, (word_tested (codes "cosimple") refl, tt))
entry_line ListsDistinct may = (word_tested (codes "filter") refl, (word_tested (codes "distinct") refl, tt))
entry_line (ListsWith minor) may = (word_tested (codes "filter") refl, (word_tested (codes "has") refl, line_words (minor_words minor) (minor_line minor may)))
entry_line (EquivalenceIs mode) may = (word_tested (codes "equivalence") refl, (mode_is_word mode, tt))
entry_line (Prints print) may = (word_tested (codes "print") refl, (print_is_word print, tt))

-- a line of words with one space between two is cut into them
not_blank : (b : ℕ) → 36 ≤ b → is_blank b ≡ false
not_blank b h = grind (arith, nat_tests)

none_blank : (bytes : List ℕ) → AreBytes bytes → AllByRecursion (λ b. is_blank b ≡ false) bytes
none_blank [] all = tt
none_blank (b ∷ bytes) all = (not_blank b all.0, none_blank bytes all.1)

word_bytes : (word : List ℕ) → IsWord word → AreBytes word
word_bytes [] is = tt
word_bytes (b ∷ bytes) is = is

cut_at_blanks : (words : List (List ℕ)) → IsLine words → slice_split is_blank (join_with_byte 32 words) ≡ words
cut_at_blanks [] line = absurd line
cut_at_blanks (word ∷ []) line = slice_split_none is_blank word (All-from_recursion (λ b. is_blank b ≡ false) word (none_blank word (word_bytes word line.0)))
cut_at_blanks (word ∷ next ∷ more) line =
    slice_split_at is_blank word 32 (join_with_byte 32 (next ∷ more))
    (All-from_recursion (λ b. is_blank b ≡ false) word (none_blank word (word_bytes word line.0))) refl
    ∙ ap (λ (l : List (List ℕ)). word ∷ l) (cut_at_blanks (next ∷ more) line.1)

kept_words : (words : List (List ℕ)) → AreWords words → filter has_bytes words ≡ words
kept_words [] all = refl
kept_words ([] ∷ words) all = absurd all.0
kept_words ((b ∷ bytes) ∷ words) all = ap (λ (l : List (List ℕ)). (b ∷ bytes) ∷ l) (kept_words words all.1)

pub words_of_joined : (words : List (List ℕ)) → IsLine words → words_of (join_with_byte 32 words) ≡ words
words_of_joined words line = ap (filter has_bytes) (cut_at_blanks words line) ∙ kept_words words (line_words words line)

pub not_skipped : (words : List (List ℕ)) → IsLine words → is_skipped words ≡ false
not_skipped [] line = absurd line
not_skipped ([] ∷ words) line = absurd line.0
not_skipped ((b ∷ bytes) ∷ words) line = let h : 36 ≤ b = line.0.0 in grind (arith, nat_tests)

-- the bytes of a line are from 32 up
abbrev pub AreText : List ℕ → Type 0
AreText bytes = AllByRecursion (λ b. 32 ≤ b) bytes

text_append : (bytes rest : List ℕ) → AreBytes bytes → AreText rest → AreText (bytes ++ rest)
text_append [] rest p q = q
text_append (b ∷ bytes) rest p q = (omega (arith, p.0), text_append bytes rest p.1 q)

bytes_text : (bytes : List ℕ) → AreBytes bytes → AreText bytes
bytes_text [] p = tt
bytes_text (b ∷ bytes) p = (omega (arith, p.0), bytes_text bytes p.1)

joined_text : (words : List (List ℕ)) → AreWords words → AreText (join_with_byte 32 words)
joined_text [] all = tt
joined_text (word ∷ []) all = bytes_text word (word_bytes word all.0)
joined_text (word ∷ next ∷ more) all = text_append word (32 ∷ join_with_byte 32 (next ∷ more)) (word_bytes word all.0)
    (omega arith, joined_text (next ∷ more) all.1)

no_end : (bytes : List ℕ) → AreText bytes → AllByRecursion (λ b. (b == 10) ≡ false) bytes
no_end [] all = tt
no_end (b ∷ bytes) all = (let h : 32 ≤ b = all.0 in grind (arith, nat_tests), no_end bytes all.1)

text_at : (bytes : List ℕ) (i : ℕ) → AreText bytes → i < length bytes → 32 ≤ slice_index bytes i
text_at bytes i all lt = All-from_recursion (λ b. 32 ≤ b) bytes all i 0 lt

-- a line doesn't end with a byte 13
not_return : (bytes : List ℕ) → AreText bytes → (slice_index bytes (length bytes - 1) == 13) ≡ false
not_return [] all = refl
not_return (b ∷ bytes) all = let h : 32 ≤ slice_index (b ∷ bytes) (length (b ∷ bytes) - 1) =
    text_at (b ∷ bytes) (length (b ∷ bytes) - 1) all (omega arith) in grind (arith, nat_tests)

whole : (bytes : List ℕ) → AreText bytes → strip_carriage_return bytes ≡ bytes
whole bytes all = ap (λ (b : Bool). cond b (take (length bytes - 1) bytes) bytes) (not_return bytes all)

-- the first line of a text
pub pieces_cons : (line : List ℕ) (pieces : List (List ℕ)) → 0 < length pieces →
    lines_of_pieces (line ∷ pieces) ≡ strip_carriage_return line ∷ lines_of_pieces pieces
pieces_cons line [] some = absurd (omega arith)
pieces_cons line (next ∷ more) some = refl

pub first_line : (line text : List ℕ) → AreText line → lines_of (line ++ 10 ∷ text) ≡ line ∷ lines_of text
first_line line text all =
    ap lines_of_pieces (slice_split_at (λ b. b == 10) line 10 text (All-from_recursion (λ b. (b == 10) ≡ false) line (no_end line all)) refl)
    ∙ pieces_cons line (slice_split (λ b. b == 10) text) (omega (arith, length-slice_split (λ (b : ℕ). b == 10) text))
    ∙ ap (λ (l : List ℕ). l ∷ lines_of text) (whole line all)

pub first_statement : (words : List (List ℕ)) (text : List ℕ) → IsLine words →
    statements_of (lines_of (line_of_words words ++ text)) ≡ words ∷ statements_of (lines_of text)
first_statement words text line =
    let joined = join_with_byte 32 words in
    let is = words_of_joined words line in
    ap (λ (t : List ℕ). statements_of (lines_of t)) (append_assoc joined (10 ∷ []) text)
    ∙ ap statements_of (first_line joined text (joined_text words (line_words words line)))
    ∙ statements_split [] joined (lines_of text) (ap is_skipped is ∙ not_skipped words line)
    ∙ ap (λ (ws : List (List ℕ)). ws ∷ statements_of (lines_of text)) is

pub spelled : (entries : List Statement) → AllByRecursion IsStatement entries → statements_of (lines_of (text_of_statements entries)) ≡ map spelling entries
spelled [] all = refl
spelled (e ∷ entries) all =
    first_statement (spelling e) (text_of_statements entries) (entry_line e all.0)
    ∙ ap (λ (l : List (List (List ℕ))). spelling e ∷ l) (spelled entries all.1)

-- The text of entries says them, in a text of a version in which they may stand.
pub text_says : (version : ℕ) (entries : List Statement) → AllByRecursion IsStatement entries → AllByRecursion (IsOfVersion version) entries
    → SayInTurn version (lines_of (text_of_statements entries)) entries
text_says version entries all of_version = record { may = all; of_version = of_version; spelled = spelled entries all }
