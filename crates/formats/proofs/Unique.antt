-- A line says at most one entry, and a text stands for at most one request.
use Rattle.std.proofs.Common.{◌≡◌, ◌∙◌, ℕ, suc, ◌+◌, ◌*◌, ◌<◌, ◌≤◌, List, [], ◌∷◌, ◌++◌, map, length, get_or, Option, None, Some, refl, sym, ap, subst, arith, lit<}
use Rattle.std.specs.Prelude.{codes, decimal, option_to_list, slice_index}
use Rattle.std.specs.List.{AllByRecursion}
use Rattle.std.proofs.lemmas.Bool.Decides.{nat_tests}
use Rattle.std.proofs.lemmas.Fmt.{decimal_injective, decimal_is_IsNumeral}
use Rattle.std.proofs.lemmas.Str.Parse.{digit_from_value}
use Rattle.std.specs.Str.Parse.{AllDigits}
use Rattle.std.proofs.Common.{◌≢◌, Bool, true, false, not, cond, ◌==◌}
use Rattle.std.proofs.lemmas.List.Sums.{sum_by-append, sum_by-cons}
use Rattle.matroid_theory.specs.Field.{IsOrder}
use Rattle.matrix_lemmas.proofs.FieldLaws.{by_order}
use Rattle.formats.specs.declared.refusal.Word.TheVariants.{Rank, Field, Size}
use Rattle.formats.specs.declared.refusal.Word.{Word}
use Rattle.formats.specs.declared.refusal.Refusal.{Refusal}
use Rattle.formats.specs.declared.refusal.Refusal.TheVariants as refusal
use Rattle.formats.specs.Refusal.{FirstFault, NoFault, IsMissing, AreValues, HasValues, HasRefusal}
use Rattle.formats.specs.Lines.{words_of, is_skipped, statements_of}
use Rattle.formats.specs.Statement.{Says, kind_number, forbid_kind, most_of_kind, named_elements}
use Rattle.formats.specs.Request.{AreInOrder, count_of_kind, most_bytes, IsRankInRange, IsSizeInRange, column_count}
use Rattle.formats.specs.Refusal.{Fault, NoForm, Again, NinthForbid, TooBig, HasFault}
use Rattle.matroid_theory.specs.declared.Mode.{Mode}
use Rattle.matroid_theory.specs.declared.Mode.TheVariants.{Linear, Semilinear}
use Rattle.formats.specs.declared.refusal.PrintMode.{PrintMode}
use Rattle.formats.specs.declared.refusal.PrintMode.TheVariants.{Forms, Counts}
use Rattle.formats.specs.Lines.{parted}
use Rattle.formats.specs.Statement.{MinorName, Uniform, Fano, FanoDual, NonFano, KFour, KFive, ByMatrix, Statement, VersionIs, RankIs, FieldIs, SizeIs, EquivalenceIs, Forbids, ListsConnected, ListsThreeConnected, ListsCosimple, ListsDistinct, ListsWith, Prints, entry_letter, column_word, minor_words, mode_word, print_word, IsNumber, IsMinorName, IsStatement, IsOfVersion, spelling}
use Rattle.formats.specs.Request.{Request, version_of, SayInTurn, AskFor, StandsFor}

-- a text that has no comma in front of the first comma of another
abbrev pub NoComma : List ℕ → Type 0
NoComma bytes = AllByRecursion (λ b. 48 ≤ b) bytes

pub no_comma : (bytes : List ℕ) → AllDigits 10 bytes → NoComma bytes
no_comma [] all = tt
no_comma (b ∷ bytes) all = (let range = digit_from_value b all.0 in omega (arith, range.0), no_comma bytes all.1)

pub decimal_no_comma : (n : ℕ) → IsNumber n → NoComma (decimal n)
decimal_no_comma n lt = no_comma (decimal n) ((decimal_is_IsNumeral n (omega arith)).0.1)

same_decimal : (m n : ℕ) → IsNumber m → IsNumber n → decimal m ≡ decimal n → m ≡ n
same_decimal m n p q e = decimal_injective m n (omega arith) (omega arith) e

pub split_comma : (a b c d : List ℕ) → NoComma a → NoComma c → a ++ 44 ∷ b ≡ c ++ 44 ∷ d → (a ≡ c) × (b ≡ d)
split_comma [] b [] d p q e = (refl, cc (e))
split_comma [] b (y ∷ c) d p q e = let h : 44 ≡ y = cc (e) in absurd (omega (arith, h, q.0))
split_comma (x ∷ a) b [] d p q e = let h : x ≡ 44 = cc (e) in absurd (omega (arith, h, p.0))
split_comma (x ∷ a) b (y ∷ c) d p q e =
    let h : x ≡ y = cc (e) in
    let t : a ++ 44 ∷ b ≡ c ++ 44 ∷ d = cc (e) in
    let rest = split_comma a b c d p.1 q.1 t in
    (cc (h, rest.0), rest.1)

-- the columns of a matrix
pub order_small : (order : ℕ) → IsOrder order → order < 14
order_small =
    by_order (λ order. order < 14) (lit< tt) (lit< tt) (lit< tt) (lit< tt) (lit< tt) (lit< tt) (lit< tt) (lit< tt) (lit< tt)

-- the number that a word spells is the order that it spells
pub same_order : (n q : ℕ) (word : List ℕ) → IsNumber n → word ≡ decimal n → IsOrder q → word ≡ decimal q → n ≡ q
same_order n q word is e of_q f = let small = order_small q of_q in same_decimal n q is (omega (arith, small)) (sym e ∙ f)

-- a letter from 48 up, and below 97 exactly where the code is below 10
pub letter_from : (code : ℕ) → 48 ≤ entry_letter code
letter_from code = grind (arith, nat_tests)

pub letter_same : (m n : ℕ) → m < 14 → n < 14 → entry_letter m ≡ entry_letter n → m ≡ n
letter_same m n p q e = grind (arith, nat_tests)

column_same : (m n : ℕ) (xs ys : List ℕ) → m < 14 → n < 14 → AllByRecursion (λ code. code < m) xs →
    AllByRecursion (λ code. code < n) ys → column_word xs ≡ column_word ys → xs ≡ ys
column_same m n [] [] p q a b e = refl
column_same m n [] (y ∷ ys) p q a b e = cc (e)
column_same m n (x ∷ xs) [] p q a b e = cc (e)
column_same m n (x ∷ xs) (y ∷ ys) p q a b e =
    let h : entry_letter x ≡ entry_letter y = cc (e) in
    let t : column_word xs ≡ column_word ys = cc (e) in
    let same : x ≡ y = letter_same x y (omega (arith, a.0)) (omega (arith, b.0)) h in
    cc (same, column_same m n xs ys p q a.1 b.1 t)

columns_same : (m n : ℕ) (xs ys : List (List ℕ)) → m < 14 → n < 14 →
    AllByRecursion (λ column. AllByRecursion (λ code. code < m) column) xs →
    AllByRecursion (λ column. AllByRecursion (λ code. code < n) column) ys → map column_word xs ≡ map column_word ys → xs ≡ ys
columns_same m n [] [] p q a b e = refl
columns_same m n [] (y ∷ ys) p q a b e = cc (e)
columns_same m n (x ∷ xs) [] p q a b e = cc (e)
columns_same m n (x ∷ xs) (y ∷ ys) p q a b e =
    let h : column_word x ≡ column_word y = cc (e) in
    let t : map column_word xs ≡ map column_word ys = cc (e) in
    let same = column_same m n x y p q a.0 b.0 h in
    cc (same, columns_same m n xs ys p q a.1 b.1 t)

-- the first letters of the first word, and of the second
abbrev letters : List ℕ → ℕ
letters word = get_or word 0 0 + 256 * get_or word 1 0 + 65536 * get_or word 2 0

abbrev initial : List (List ℕ) → ℕ
initial [] = 0
initial (word ∷ words) = get_or word 0 0

abbrev first_letters : List (List ℕ) → ℕ
first_letters [] = 0
first_letters (word ∷ words) = letters word

abbrev second_letters : List (List ℕ) → ℕ
second_letters [] = 0
second_letters (word ∷ words) = first_letters words

pub minor_same : (m n : MinorName) → IsMinorName m → IsMinorName n → minor_words m ≡ minor_words n → m ≡ n
minor_same (Uniform r s) (Uniform r' s') p q e =
    let t : decimal r ++ 44 ∷ decimal s ≡ decimal r' ++ 44 ∷ decimal s' = cc (e) in
    let parts = split_comma (decimal r) (decimal s) (decimal r') (decimal s') (decimal_no_comma r (omega (arith, p.low, p.short)))
    (decimal_no_comma r' (omega (arith, q.low, q.short))) t in
    let ranks = same_decimal r r' (omega (arith, p.low, p.short)) (omega (arith, q.low, q.short)) parts.0 in
    let sizes = same_decimal s s' p.short q.short parts.1 in
    cc (ranks, sizes)
minor_same (Uniform r s) _ p q e = absurd (omega (arith, ap initial e))
minor_same Fano Fano p q e = refl
minor_same Fano _ p q e = absurd (omega (arith, ap initial e, ap first_letters e))
minor_same FanoDual FanoDual p q e = refl
minor_same FanoDual _ p q e = absurd (omega (arith, ap initial e, ap first_letters e))
minor_same NonFano NonFano p q e = refl
minor_same NonFano _ p q e = absurd (omega (arith, ap initial e, ap first_letters e))
minor_same KFour KFour p q e = refl
minor_same KFour _ p q e = absurd (omega (arith, ap initial e, ap first_letters e))
minor_same KFive KFive p q e = refl
minor_same KFive _ p q e = absurd (omega (arith, ap initial e, ap first_letters e))
minor_same (ByMatrix order columns) (ByMatrix order' columns') p q e =
    let m = order_small order p.is_order in
    let n = order_small order' q.is_order in
    let h : decimal order ≡ decimal order' = cc (e) in
    let t : map column_word columns ≡ map column_word columns' = cc (e) in
    let same = same_decimal order order' (omega (arith, m)) (omega (arith, n)) h in
    cc (same, columns_same order order' columns columns' m n p.entries q.entries t)
minor_same (ByMatrix order columns) _ p q e = absurd (omega (arith, ap initial e))

-- the orders of a field line
factors_same : (xs ys : List ℕ) → ((f : ℕ) → f < length xs → IsOrder (slice_index xs f)) →
    ((f : ℕ) → f < length ys → IsOrder (slice_index ys f)) →
    parted (codes "x") (map (λ order. decimal order ∷ []) xs) ≡ parted (codes "x") (map (λ order. decimal order ∷ []) ys) → xs ≡ ys
factors_same [] [] a b e = refl
factors_same [] (y ∷ []) a b e = cc (e)
factors_same [] (y ∷ y' ∷ ys) a b e = cc (e)
factors_same (x ∷ []) [] a b e = cc (e)
factors_same (x ∷ x' ∷ xs) [] a b e = cc (e)
factors_same (x ∷ []) (y ∷ []) a b e =
    let m = order_small x (a 0 (omega arith)) in
    let n = order_small y (b 0 (omega arith)) in
    let h : decimal x ≡ decimal y = cc (e) in
    let same = same_decimal x y (omega (arith, m)) (omega (arith, n)) h in
    cc (same)
factors_same (x ∷ []) (y ∷ y' ∷ ys) a b e = cc (e)
factors_same (x ∷ x' ∷ xs) (y ∷ []) a b e = cc (e)
factors_same (x ∷ x' ∷ xs) (y ∷ y' ∷ ys) a b e =
    let m = order_small x (a 0 (omega arith)) in
    let n = order_small y (b 0 (omega arith)) in
    let h : decimal x ≡ decimal y = cc (e) in
    let t : parted (codes "x") (map (λ order. decimal order ∷ []) (x' ∷ xs)) ≡ parted (codes "x") (map (λ order. decimal order ∷ []) (y' ∷ ys)) = cc (e) in
    let same = same_decimal x y (omega (arith, m)) (omega (arith, n)) h in
    cc (same, factors_same (x' ∷ xs) (y' ∷ ys) (λ f l. a (suc f) (omega arith)) (λ f l. b (suc f) (omega arith)) t)

print_same : (m n : PrintMode) → print_word m ≡ print_word n → m ≡ n
print_same Forms Forms e = refl
print_same Forms Counts e = absurd (omega (arith, ap letters e))
print_same Counts Forms e = absurd (omega (arith, ap letters e))
print_same Counts Counts e = refl

mode_same : (m n : Mode) → mode_word m ≡ mode_word n → m ≡ n
mode_same Linear Linear e = refl
mode_same Linear Semilinear e = absurd (omega (arith, ap letters e))
mode_same Semilinear Linear e = absurd (omega (arith, ap letters e))
mode_same Semilinear Semilinear e = refl

-- the words of a line say one entry
pub entry_same : (a b : Statement) → IsStatement a → IsStatement b → spelling a ≡ spelling b → a ≡ b
entry_same (VersionIs m) (VersionIs n) p q e =
    let h : decimal m ≡ decimal n = cc (e) in let same = same_decimal m n p q h in cc (same)
entry_same (VersionIs m) _ p q e = absurd (omega (arith, ap first_letters e))
entry_same (RankIs m) (RankIs n) p q e = let h : decimal m ≡ decimal n = cc (e) in let same = same_decimal m n p q h in cc (same)
entry_same (RankIs m) _ p q e = absurd (omega (arith, ap first_letters e))
entry_same (FieldIs xs) (FieldIs ys) p q e =
    let t : parted (codes "x") (map (λ order. decimal order ∷ []) xs) ≡ parted (codes "x") (map (λ order. decimal order ∷ []) ys) = cc (e) in
    let same = factors_same xs ys p.fields q.fields t in
    cc (same)
entry_same (FieldIs xs) _ p q e = absurd (omega (arith, ap first_letters e))
entry_same (SizeIs m) (SizeIs n) p q e = let h : decimal m ≡ decimal n = cc (e) in let same = same_decimal m n p q h in cc (same)
entry_same (SizeIs m) _ p q e = absurd (omega (arith, ap first_letters e))
entry_same (Forbids m) (Forbids n) p q e = let t : minor_words m ≡ minor_words n = cc (e) in let same = minor_same m n p q t in cc (same)
entry_same (Forbids m) _ p q e = absurd (omega (arith, ap first_letters e))
entry_same ListsConnected ListsConnected p q e = refl
entry_same ListsConnected _ p q e = absurd (omega (arith, ap first_letters e, ap second_letters e))
entry_same ListsThreeConnected ListsThreeConnected p q e = refl
entry_same ListsThreeConnected _ p q e = absurd (omega (arith, ap first_letters e, ap second_letters e))
entry_same ListsCosimple ListsCosimple p q e = refl
entry_same ListsCosimple _ p q e = absurd (omega (arith, ap first_letters e, ap second_letters e))
entry_same ListsDistinct ListsDistinct p q e = refl
entry_same ListsDistinct _ p q e = absurd (omega (arith, ap first_letters e, ap second_letters e))
entry_same (ListsWith m) (ListsWith n) p q e = let t : minor_words m ≡ minor_words n = cc (e) in let same = minor_same m n p q t in cc (same)
entry_same (ListsWith m) _ p q e = absurd (omega (arith, ap first_letters e, ap second_letters e))
entry_same (EquivalenceIs m) (EquivalenceIs n) p q e =
    let t : mode_word m ≡ mode_word n = cc (e) in let same = mode_same m n t in cc (same)
entry_same (EquivalenceIs m) _ p q e = absurd (omega (arith, ap first_letters e))
entry_same (Prints m) (Prints n) p q e =
    let t : print_word m ≡ print_word n = cc (e) in let same = print_same m n t in cc (same)
entry_same (Prints m) _ p q e = absurd (omega (arith, ap first_letters e))

-- entries with the same spellings are the same
pub entries_same : (xs ys : List Statement) → AllByRecursion IsStatement xs → AllByRecursion IsStatement ys → map spelling xs ≡ map spelling ys → xs ≡ ys
entries_same [] [] a b e = refl
entries_same [] (y ∷ ys) a b e = cc (e)
entries_same (x ∷ xs) [] a b e = cc (e)
entries_same (x ∷ xs) (y ∷ ys) a b e =
    let h : spelling x ≡ spelling y = cc (e) in
    let t : map spelling xs ≡ map spelling ys = cc (e) in
    let same = entry_same x y a.0 b.0 h in
    cc (same, entries_same xs ys a.1 b.1 t)

option_same : (m n : Option MinorName) → option_to_list m ≡ option_to_list n → m ≡ n
option_same None None e = refl
option_same None (Some y) e = cc (e)
option_same (Some x) None e = cc (e)
option_same (Some x) (Some y) e = cc (e)

-- entries ask for one request
pub asked_same : (entries : List Statement) (q r : Request) → q.version ≡ r.version → AskFor entries q → AskFor entries r → q ≡ r
asked_same entries q r versions a b =
    let ranks : q.rank ≡ r.rank = cc (a.rank, b.rank) in
    let fields : q.factors ≡ r.factors = cc (a.field, b.field) in
    let sizes : q.size ≡ r.size = cc (a.size, b.size) in
    let forbids : q.forbid ≡ r.forbid = sym a.forbid ∙ b.forbid in
    let connected : q.connected ≡ r.connected = sym a.connected ∙ b.connected in
    let three : q.three_connected ≡ r.three_connected = sym a.three_connected ∙ b.three_connected in
    let cosimple : q.cosimple ≡ r.cosimple = sym a.cosimple ∙ b.cosimple in
    let distinct : q.distinct ≡ r.distinct = sym a.distinct ∙ b.distinct in
    let has : q.has ≡ r.has = option_same q.has r.has (sym a.has ∙ b.has) in
    let print : q.print ≡ r.print = sym a.print ∙ b.print in
    let mode : q.mode ≡ r.mode = sym a.mode ∙ b.mode in
    λ i. record {
      factors = fields i;
      rank = ranks i;
      size = sizes i;
      forbid = forbids i;
      connected = connected i;
      three_connected = three i;
      cosimple = cosimple i;
      distinct = distinct i;
      has = has i;
      print = print i;
      mode = mode i;
      version = versions i;
    }

-- the statements before a line, its own, and those after it
cond_append : (b : Bool) (w : List (List ℕ)) (xs ys : List (List (List ℕ))) → cond b (w ∷ (xs ++ ys)) (xs ++ ys) ≡ cond b (w ∷ xs) xs ++ ys
cond_append true w xs ys = refl
cond_append false w xs ys = refl

pub statements_split : (before : List (List ℕ)) (line : List ℕ) (after : List (List ℕ)) → is_skipped (words_of line) ≡ false →
    statements_of (before ++ line ∷ after) ≡ statements_of before ++ words_of line ∷ statements_of after
statements_split [] line after counts = ap (λ (b : Bool). cond (not b) (words_of line ∷ statements_of after) (statements_of after)) counts
statements_split (x ∷ before) line after counts =
    ap (λ (l : List (List (List ℕ))). cond (not (is_skipped (words_of x))) (words_of x ∷ l) l) (statements_split before line after counts)
    ∙ cond_append (not (is_skipped (words_of x))) (words_of x) (statements_of before) (words_of line ∷ statements_of after)

big_at : (xs : List Statement) (e : Statement) (ys : List Statement) →
    AllByRecursion (λ entry. named_elements entry ≤ 10) (xs ++ e ∷ ys) → named_elements e ≤ 10
big_at [] e ys all = all.0
big_at (x ∷ xs) e ys all = big_at xs e ys all.1

-- one more of its kind
pub count_at : (xs : List Statement) (e : Statement) (ys : List Statement) → count_of_kind (kind_number e) xs + 1 ≤ count_of_kind (kind_number e) (xs ++ e ∷ ys)
count_at xs e ys =
    let counts : Statement → ℕ = λ x. cond (kind_number x == kind_number e) 1 0 in
    let here : counts e ≡ 1 = grind (arith, nat_tests) in
    omega (arith, sum_by-append counts xs (e ∷ ys), sum_by-cons counts e ys, here)

-- where a request is asked for, no line is missing
missing_stands : (q : Request) (entries : List Statement) (word : Word) → AskFor entries q → IsMissing entries word → ⊥
missing_stands q entries Rank a m = cc (a.rank, m)
missing_stands q entries Field a m = cc (a.field, m.1)
missing_stands q entries Size a m = cc (a.size, m.2)

-- where two lists that are one are cut, it is at one place, or the one cut lies in the front of the other
data Places (before : List (List ℕ)) (line : List ℕ) (before' : List (List ℕ)) (line' : List ℕ) : Type 0 where
  SamePlace : before ≡ before' → line ≡ line' → Places before line before' line'
  Sooner : (rest : List (List ℕ)) → before' ≡ before ++ line ∷ rest → Places before line before' line'
  Later : (rest : List (List ℕ)) → before ≡ before' ++ line' ∷ rest → Places before line before' line'

more_places : (x : List ℕ) (before : List (List ℕ)) (line : List ℕ) (before' : List (List ℕ)) (line' : List ℕ) →
    Places before line before' line' → Places (x ∷ before) line (x ∷ before') line'
more_places x before line before' line' (SamePlace e f) = SamePlace (ap (λ (l : List (List ℕ)). x ∷ l) e) f
more_places x before line before' line' (Sooner rest e) = Sooner rest (ap (λ (l : List (List ℕ)). x ∷ l) e)
more_places x before line before' line' (Later rest e) = Later rest (ap (λ (l : List (List ℕ)). x ∷ l) e)

places : (before : List (List ℕ)) (line : List ℕ) (after before' : List (List ℕ)) (line' : List ℕ) (after' : List (List ℕ)) →
    before ++ line ∷ after ≡ before' ++ line' ∷ after' → Places before line before' line'
places [] line after [] line' after' e = SamePlace refl (cc (e))
places [] line after (y ∷ before') line' after' e = let h : line ≡ y = cc (e) in Sooner before' (ap (λ (l : List ℕ). l ∷ before') (sym h))
places (x ∷ before) line after [] line' after' e = let h : x ≡ line' = cc (e) in Later before (ap (λ (l : List ℕ). l ∷ before) h)
places (x ∷ before) line after (y ∷ before') line' after' e =
    let h : x ≡ y = cc (e) in
    let t : before ++ line ∷ after ≡ before' ++ line' ∷ after' = cc (e) in
    subst (λ (z : List ℕ). Places (x ∷ before) line (z ∷ before') line') h
    (more_places x before line before' line' (places before line after before' line' after' t))

refusal_at : Fault → ℕ → Refusal
refusal_at NoForm n = refusal.BadLine n
refusal_at Again n = refusal.Twice n
refusal_at NinthForbid n = refusal.TooManyForbidden n
refusal_at TooBig n = refusal.ForbidTooBig n

-- a value out of its limits, where all lines are there
data Late (rank : ℕ) (factors : List ℕ) (size : ℕ) (why : Refusal) : Type 0 where
  BadRank : (IsRankInRange rank → ⊥) → why ≡ refusal.Rank rank → Late rank factors size why
  BadSize : IsRankInRange rank → (IsSizeInRange rank size → ⊥) → why ≡ refusal.Size size → Late rank factors size why
  Wide : IsRankInRange rank → IsSizeInRange rank size → why ≡ refusal.TooWide (column_count rank factors) → Late rank factors size why

-- the first word that is missing is one
missing_same : (entries : List Statement) (v w : Word) → IsMissing entries v → IsMissing entries w → v ≡ w
missing_same entries Rank Rank a b = refl
missing_same entries Rank Field a b = absurd (b.0 a)
missing_same entries Rank Size a b = absurd (b.0 a)
missing_same entries Field Rank a b = absurd (a.0 b)
missing_same entries Field Field a b = refl
missing_same entries Field Size a b = absurd (b.1 a.1)
missing_same entries Size Rank a b = absurd (a.0 b)
missing_same entries Size Field a b = absurd (a.1 b.1)
missing_same entries Size Size a b = refl

-- where all values are there, none is missing
missing_values : (entries : List Statement) (word : Word) (rank : ℕ) (factors : List ℕ) (size : ℕ) → IsMissing entries word →
    AreValues entries rank factors size → ⊥
missing_values entries Rank rank factors size m v = let f = v.rank_said in cc (f, m)
missing_values entries Field rank factors size m v = let f = v.field_said in let g = m.1 in cc (f, g)
missing_values entries Size rank factors size m v = let f = v.size_said in let g = m.2 in cc (f, g)

-- values are refused in one way
late_same : (rank : ℕ) (factors : List ℕ) (size : ℕ) (v w : Refusal) → Late rank factors size v → Late rank factors size w → v ≡ w
late_same rank factors size v w (BadRank a e) (BadRank b f) = e ∙ sym f
late_same rank factors size v w (BadRank a e) (BadSize b c f) = absurd (a b)
late_same rank factors size v w (BadRank a e) (Wide b c f) = absurd (a b)
late_same rank factors size v w (BadSize a b e) (BadRank c f) = absurd (c a)
late_same rank factors size v w (BadSize a b e) (BadSize c d f) = e ∙ sym f
late_same rank factors size v w (BadSize a b e) (Wide c d f) = absurd (b d)
late_same rank factors size v w (Wide a b e) (BadRank c f) = absurd (c a)
late_same rank factors size v w (Wide a b e) (BadSize c d f) = absurd (d b)
late_same rank factors size v w (Wide a b e) (Wide c d f) = e ∙ sym f

-- in a text of the version
module _ (version : ℕ) where
  -- the lines of a text say one list of entries
  said_same : (lines : List (List ℕ)) (xs ys : List Statement) → SayInTurn version lines xs → SayInTurn version lines ys → xs ≡ ys
  said_same lines xs ys a b = entries_same xs ys a.may b.may (sym a.spelled ∙ b.spelled)

  -- the entry that a line says, among those of all lines
  record Found (entries : List Statement) (front : List (List (List ℕ))) (words : List (List ℕ)) : Type 0 where
    earlier : List Statement
    entry : Statement
    later : List Statement
    split : entries ≡ earlier ++ entry ∷ later
    spelled : map spelling earlier ≡ front
    may_earlier : AllByRecursion IsStatement earlier
    of_earlier : AllByRecursion (IsOfVersion version) earlier
    says : Says version words entry

  -- after one more entry
  more_found : (x : Statement) (xs : List Statement) (front : List (List (List ℕ))) (words : List (List ℕ)) → IsStatement x →
      IsOfVersion version x → Found xs front words → Found (x ∷ xs) (spelling x ∷ front) words
  more_found x xs front words may of_version rest = record {
    earlier = x ∷ rest.earlier;
    entry = rest.entry;
    later = rest.later;
    split = ap (λ (l : List Statement). x ∷ l) rest.split;
    spelled = ap (λ (l : List (List (List ℕ))). spelling x ∷ l) rest.spelled;
    may_earlier = (may, rest.may_earlier);
    of_earlier = (of_version, rest.of_earlier);
    says = rest.says;
  }

  found : (entries : List Statement) (front back : List (List (List ℕ))) (words : List (List ℕ)) →
      AllByRecursion IsStatement entries → AllByRecursion (IsOfVersion version) entries →
      map spelling entries ≡ front ++ words ∷ back → Found entries front words
  found [] [] back words may of_version e = cc (e)
  found [] (f ∷ front) back words may of_version e = cc (e)
  found (x ∷ xs) [] back words may of_version e = let h : spelling x ≡ words = cc (e) in
      record {
        earlier = [];
        entry = x;
        later = xs;
        split = refl;
        spelled = refl;
        may_earlier = tt;
        of_earlier = tt;
        says =
            record { may = may.0; of_version = of_version.0; spelled = sym h };
      }
  found (x ∷ xs) (f ∷ front) back words may of_version e =
      let h : spelling x ≡ f = cc (e) in
      let t : map spelling xs ≡ front ++ words ∷ back = cc (e) in
      subst (λ (w : List (List ℕ)). Found (x ∷ xs) (w ∷ front) words) h
      (more_found x xs front words may.0 of_version.0 (found xs front back words may.1 of_version.1 t))

  says_same : (words : List (List ℕ)) (a b : Statement) → Says version words a → Says version words b → a ≡ b
  says_same words a b p q = entry_same a b p.may q.may (sym p.spelled ∙ q.spelled)

  -- in lines that are in order no line has a fault
  pub no_fault : (lines before : List (List ℕ)) (line : List ℕ) (after : List (List ℕ)) (entries said : List Statement)
      (fault : Fault) → lines ≡ before ++ line ∷ after → SayInTurn version lines entries → AreInOrder entries →
      SayInTurn version before said → is_skipped (words_of line) ≡ false → HasFault version said (words_of line) fault → ⊥
  no_fault lines before line after entries said fault split all in_order some counts wrong =
      let spelled : map spelling entries ≡ statements_of before ++ words_of line ∷ statements_of after = sym all.spelled
      ∙ ap statements_of split ∙ statements_split before line after counts in
      let at = found entries (statements_of before) (statements_of after) (words_of line) all.may all.of_version spelled in
      let same : at.earlier ≡ said = entries_same at.earlier said at.may_earlier some.may (at.spelled ∙ some.spelled) in
      let order : AreInOrder (said ++ at.entry ∷ at.later) =
      subst AreInOrder (at.split ∙ ap (λ (l : List Statement). l ++ at.entry ∷ at.later) same) in_order in
      contradiction fault said (words_of line) at.entry at.later at.says order wrong
    where
      contradiction : (fault : Fault) (said : List Statement) (words : List (List ℕ)) (e : Statement) (later : List Statement) →
          Says version words e → AreInOrder (said ++ e ∷ later) → HasFault version said words fault → ⊥
      contradiction NoForm said words e later says order wrong = wrong e says
      contradiction Again said words e later says order wrong =
          let one = says_same words wrong.0 e wrong.1 says in
          let often : most_of_kind (kind_number e) ≤ count_of_kind (kind_number e) said =
          subst (λ (x : Statement). most_of_kind (kind_number x) ≤ count_of_kind (kind_number x) said) one wrong.3 in
          omega (arith, often, count_at said e later, order.not_often (kind_number e))
      contradiction NinthForbid said words e later says order wrong =
          let one = says_same words wrong.0 e wrong.1 says in
          let forbids : kind_number e ≡ forbid_kind = subst (λ (x : Statement). kind_number x ≡ forbid_kind) one wrong.2 in
          let often : most_of_kind (kind_number e) ≤ count_of_kind (kind_number e) said =
          subst (λ (k : ℕ). most_of_kind k ≤ count_of_kind k said) (sym forbids) wrong.3 in
          omega (arith, often, count_at said e later, order.not_often (kind_number e))
      contradiction TooBig said words e later says order wrong =
          let one = says_same words wrong.0 e wrong.1 says in
          let big : 10 < named_elements e = subst (λ (x : Statement). 10 < named_elements x) one wrong.3 in
          omega (arith, big, big_at said e later order.not_big)

  -- a line has one fault after given entries
  fault_same : (said : List Statement) (words : List (List ℕ)) (f g : Fault) → HasFault version said words f → HasFault version said words g → f ≡ g
  fault_same said words NoForm NoForm a b = refl
  fault_same said words NoForm Again a b = absurd (a b.0 b.1)
  fault_same said words NoForm NinthForbid a b = absurd (a b.0 b.1)
  fault_same said words NoForm TooBig a b = absurd (a b.0 b.1)
  fault_same said words Again NoForm a b = absurd (b a.0 a.1)
  fault_same said words NinthForbid NoForm a b = absurd (b a.0 a.1)
  fault_same said words TooBig NoForm a b = absurd (b a.0 a.1)
  fault_same said words Again Again a b = refl
  fault_same said words NinthForbid NinthForbid a b = refl
  fault_same said words TooBig TooBig a b = refl
  fault_same said words Again NinthForbid a b = absurd (subst (λ (x : Statement). kind_number x ≢ forbid_kind) (says_same words a.0 b.0 a.1 b.1) a.2 b.2)
  fault_same said words NinthForbid Again a b = absurd (subst (λ (x : Statement). kind_number x ≢ forbid_kind) (says_same words b.0 a.0 b.1 a.1) b.2 a.2)
  fault_same said words Again TooBig a b =
      let often = subst (λ (x : Statement). most_of_kind (kind_number x) ≤ count_of_kind (kind_number x) said) (says_same words a.0 b.0 a.1 b.1) a.3 in
      absurd (omega (arith, often, b.2))
  fault_same said words TooBig Again a b =
      let often = subst (λ (x : Statement). most_of_kind (kind_number x) ≤ count_of_kind (kind_number x) said) (says_same words b.0 a.0 b.1 a.1) b.3 in
      absurd (omega (arith, often, a.2))
  fault_same said words NinthForbid TooBig a b =
      let few = subst (λ (k : ℕ). count_of_kind k said < most_of_kind k) (ap kind_number (says_same words b.0 a.0 b.1 a.1) ∙ a.2) b.2 in
      absurd (omega (arith, few, a.3))
  fault_same said words TooBig NinthForbid a b =
      let few = subst (λ (k : ℕ). count_of_kind k said < most_of_kind k) (ap kind_number (says_same words a.0 b.0 a.1 b.1) ∙ b.2) a.2 in
      absurd (omega (arith, few, b.3))

-- a text stands for one request
pub request_same : (text : List ℕ) (q r : Request) → StandsFor text q → StandsFor text r → q ≡ r
request_same text q r a b =
    asked_same b.entries q r (sym a.version ∙ b.version)
    (subst (λ (es : List Statement). AskFor es q) (said_same (version_of text) _ a.entries b.entries a.said b.said) a.asked) b.asked

first_fault_stands : (text : List ℕ) (q : Request) (n : ℕ) (fault : Fault) → StandsFor text q → FirstFault text n fault → ⊥
first_fault_stands text q n fault a b = no_fault (version_of text) _ b.before b.line b.after a.entries b.said fault b.split a.said
    a.in_order b.says b.counts b.wrong

-- a text that stands for a request isn't refused
pub not_both : (text : List ℕ) (q : Request) (why : Refusal) → StandsFor text q → HasRefusal text why → ⊥
not_both text q refusal.TooLong a b = omega (arith, a.short, b)
not_both text q (refusal.BadLine n) a b = first_fault_stands text q n NoForm a b
not_both text q (refusal.Twice n) a b = first_fault_stands text q n Again a b
not_both text q (refusal.TooManyForbidden n) a b = first_fault_stands text q n NinthForbid a b
not_both text q (refusal.ForbidTooBig n) a b = first_fault_stands text q n TooBig a b
not_both text q (refusal.Missing word) a b =
    missing_stands q b.0 word
    (subst (λ (es : List Statement). AskFor es q) (said_same (version_of text) _ a.entries b.0 a.said b.1.said) a.asked) b.2
not_both text q (refusal.Rank v) a b =
    let values = b.2 in
    let asked = subst (λ (es : List Statement). AskFor es q) (said_same (version_of text) _ a.entries values.entries a.said values.none.said) a.asked in
    let same : q.rank ≡ v = cc (asked.rank, values.values.rank_said) in
    b.3 (subst IsRankInRange same a.limits.rank)
not_both text q (refusal.Size v) a b =
    let values = b.2 in
    let asked = subst (λ (es : List Statement). AskFor es q) (said_same (version_of text) _ a.entries values.entries a.said values.none.said) a.asked in
    let ranks : q.rank ≡ b.0 = cc (asked.rank, values.values.rank_said) in
    let sizes : q.size ≡ v = cc (asked.size, values.values.size_said) in
    b.4 (subst (λ (s : ℕ). IsSizeInRange b.0 s) sizes (subst (λ (r : ℕ). IsSizeInRange r q.size) ranks a.limits.size))
not_both text q (refusal.TooWide c) a b =
    let values = b.3 in
    let asked = subst (λ (es : List Statement). AskFor es q) (said_same (version_of text) _ a.entries values.entries a.said values.none.said) a.asked in
    let ranks : q.rank ≡ b.0 = cc (asked.rank, values.values.rank_said) in
    let fields : q.factors ≡ b.1 = cc (asked.field, values.values.field_said) in
    let same : column_count q.rank q.factors ≡ column_count b.0 b.1 = ap (λ (r : ℕ). column_count r q.factors) ranks ∙ ap (column_count b.0) fields in
    let few = a.limits.columns in
    omega (arith, same, few, b.6, b.7)

-- the first fault of a text is one
first_fault_same : (text : List ℕ) (m n : ℕ) (f g : Fault) → FirstFault text m f → FirstFault text n g → (m ≡ n) × (f ≡ g)
first_fault_same text m n f g a b = at (places a.before a.line a.after b.before b.line b.after (sym a.split ∙ b.split))
  where
    at : Places a.before a.line b.before b.line → (m ≡ n) × (f ≡ g)
    at (SamePlace e l) =
        let said : a.said ≡ b.said = said_same (version_of text) _ a.said b.said
        (subst (λ (ls : List (List ℕ)). SayInTurn (version_of text) ls a.said) e a.says) b.says in
        let wrong = subst (λ (es : List Statement). HasFault (version_of text) es (words_of b.line) f) said
        (subst (λ (line : List ℕ). HasFault (version_of text) a.said (words_of line) f) l a.wrong) in
        (omega (arith, a.place, b.place, ap length e), fault_same (version_of text) b.said (words_of b.line) f g wrong b.wrong)
    at (Sooner rest e) = absurd (no_fault (version_of text) b.before a.before a.line rest b.said a.said f e b.says b.in_order a.says a.counts a.wrong)
    at (Later rest e) = absurd (no_fault (version_of text) a.before b.before b.line rest a.said b.said g e a.says a.in_order b.says b.counts b.wrong)

-- at which place of the order a text is refused
data Stage (text : List ℕ) (why : Refusal) : Type 0 where
  Long : most_bytes < length text → why ≡ refusal.TooLong → Stage text why
  AtLine : (n : ℕ) (fault : Fault) → FirstFault text n fault → why ≡ refusal_at fault n → Stage text why
  Lacks : (word : Word) (entries : List Statement) → NoFault text entries → IsMissing entries word → why ≡ refusal.Missing word → Stage text why
  OutOf : (rank : ℕ) (factors : List ℕ) (size : ℕ) → HasValues text rank factors size → Late rank factors size why → Stage text why

stage : (text : List ℕ) (why : Refusal) → HasRefusal text why → Stage text why
unfolding refusal_at
stage text refusal.TooLong h = Long h refl
stage text (refusal.BadLine n) h = AtLine n NoForm h refl
stage text (refusal.Twice n) h = AtLine n Again h refl
stage text (refusal.TooManyForbidden n) h = AtLine n NinthForbid h refl
stage text (refusal.ForbidTooBig n) h = AtLine n TooBig h refl
stage text (refusal.Missing word) h = Lacks word h.0 h.1 h.2 refl
stage text (refusal.Rank v) h = OutOf v h.0 h.1 h.2 (BadRank h.3 refl)
stage text (refusal.Size v) h = OutOf h.0 h.1 v h.2 (BadSize h.3 h.4 refl)
stage text (refusal.TooWide c) h = OutOf h.0 h.1 h.2 h.3 (Wide h.4 h.5 (ap refusal.TooWide h.6))

line_none : (text : List ℕ) (n : ℕ) (fault : Fault) (entries : List Statement) → FirstFault text n fault → NoFault text entries → ⊥
line_none text n fault entries b a = no_fault (version_of text) _ b.before b.line b.after entries b.said fault b.split a.said a.in_order b.says b.counts b.wrong

stage_same : (text : List ℕ) (v w : Refusal) → Stage text v → Stage text w → v ≡ w
stage_same text v w (Long a e) (Long b f) = e ∙ sym f
stage_same text v w (Long a e) (AtLine n g b f) = absurd (omega (arith, a, b.short))
stage_same text v w (Long a e) (Lacks word es b c f) = absurd (omega (arith, a, b.short))
stage_same text v w (Long a e) (OutOf r fs s b c) = absurd (omega (arith, a, b.none.short))
stage_same text v w (AtLine n g b f) (Long a e) = absurd (omega (arith, a, b.short))
stage_same text v w (AtLine m f a e) (AtLine n g b h) = let same = first_fault_same text m n f g a b in
    e ∙ ap (λ (k : ℕ). refusal_at f k) same.0 ∙ ap (λ (k : Fault). refusal_at k n) same.1 ∙ sym h
stage_same text v w (AtLine m f a e) (Lacks word es b c h) = absurd (line_none text m f es a b)
stage_same text v w (AtLine m f a e) (OutOf r fs s b c) = absurd (line_none text m f b.entries a b.none)
stage_same text v w (Lacks word es b c f) (Long a e) = absurd (omega (arith, a, b.short))
stage_same text v w (Lacks word es b c h) (AtLine m f a e) = absurd (line_none text m f es a b)
stage_same text v w (Lacks word es a c e) (Lacks word' es' b d f) = e
    ∙ ap refusal.Missing (missing_same es' word word'
    (subst (λ (l : List Statement). IsMissing l word) (said_same (version_of text) _ es es' a.said b.said) c) d) ∙ sym f
stage_same text v w (Lacks word es a c e) (OutOf r fs s b d) =
    absurd (missing_values b.entries word r fs s
    (subst (λ (l : List Statement). IsMissing l word) (said_same (version_of text) _ es b.entries a.said b.none.said) c) b.values)
stage_same text v w (OutOf r fs s b c) (Long a e) = absurd (omega (arith, a, b.none.short))
stage_same text v w (OutOf r fs s b c) (AtLine m f a e) = absurd (line_none text m f b.entries a b.none)
stage_same text v w (OutOf r fs s b d) (Lacks word es a c e) =
    absurd (missing_values b.entries word r fs s
    (subst (λ (l : List Statement). IsMissing l word) (said_same (version_of text) _ es b.entries a.said b.none.said) c) b.values)
stage_same text v w (OutOf r fs s a c) (OutOf r' fs' s' b d) =
    let one = said_same (version_of text) _ a.entries b.entries a.none.said b.none.said in
    let values = subst (λ (l : List Statement). AreValues l r fs s) one a.values in
    let ranks : r ≡ r' = cc (values.rank_said, b.values.rank_said) in
    let fields : fs ≡ fs' = cc (values.field_said, b.values.field_said) in
    let sizes : s ≡ s' = cc (values.size_said, b.values.size_said) in
    let moved = subst (λ (k : ℕ). Late r' fs' k v) sizes (subst (λ (k : List ℕ). Late r' k s v) fields (subst (λ (k : ℕ). Late k fs s v) ranks c)) in
    late_same r' fs' s' v w moved d

-- a text has one refusal
pub refusal_same : (text : List ℕ) (v w : Refusal) → HasRefusal text v → HasRefusal text w → v ≡ w
refusal_same text v w a b = stage_same text v w (stage text v a) (stage text w b)
