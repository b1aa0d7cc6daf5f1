-- Which texts of entries stand for a request.
use Rattle.std.proofs.Common.{◌≡◌, ◌∙◌, ◌⊎◌, inl, inr, ℕ, zero, suc, ◌+◌, ◌<◌, ◌≤◌, ◌==◌, ◌||◌, Bool, true, cond, List, [], ◌∷◌, ◌++◌, map, length, Option, None, Some, false, refl, sym, ap, subst, arith, append_assoc, lit≤, length-append, lit<}
use Rattle.std.specs.Fmt.{digits}
use Rattle.std.specs.List.{AllByRecursion, list_any, cons_option}
use Rattle.std.specs.Prelude.{filter_map, option_to_list, if◌then◌else◌, slice_index}
use Rattle.std.proofs.lemmas.Bool.Decides.{nat_tests}
use Rattle.std.proofs.lemmas.List.Sums.{count_by-le-length, sum_by-append}
use Rattle.std.proofs.lemmas.List.{length-map}
use Rattle.list_lemmas.proofs.Lists.{all_append}
use Rattle.matroid_theory.specs.Field.{IsFactors, IsOrder}
use Rattle.matroid_theory.specs.declared.Mode.{Mode}
use Rattle.matroid_theory.specs.declared.Mode.TheVariants.{Linear, Semilinear}
use Rattle.formats.specs.declared.refusal.PrintMode.{PrintMode}
use Rattle.formats.specs.declared.refusal.PrintMode.TheVariants.{Forms, Counts}
use Rattle.formats.specs.Lines.{lines_of, statements_of}
use Rattle.formats.specs.Statement.{MinorName, Statement, VersionIs, RankIs, FieldIs, SizeIs, EquivalenceIs, Forbids, ListsConnected, ListsThreeConnected, ListsCosimple, ListsDistinct, ListsWith, Prints, IsStatement, IsOfVersion, IsMinorName, order_of_minor, elements_of, spelling, kind_number, forbid_kind, most_of_kind, named_elements}
use Rattle.formats.specs.Request.{Request, says_two, version_in, version_of, SayInTurn, AreInOrder, count_of_kind, rank_in, field_in, size_in, forbidden_in, wanted_in, has_kind, prints_counts, asks_semilinear, AskFor, most_bytes, IsWithinLimits, StandsFor}
use Rattle.formats.specs.Listing.{where_set, is_semilinear, head_statements, text_of_statements}
use Rattle.formats.proofs.Spelled.{spelled, text_says}
use Rattle.formats.proofs.KindCounts.{of_kind, count_cons, some_of_kind}
use Rattle.formats.proofs.Lengths.{IsSmall, text_length}

-- words are `version 2`, or not
says_two_at : (n : ℕ) → (n ≡ 1) ⊎ (n ≡ 2) → version_in (spelling (VersionIs n) ∷ []) ≡ n
unfolding digits
says_two_at n (inl one) = subst (λ (k : ℕ). version_in (spelling (VersionIs k) ∷ []) ≡ k) (sym one) refl
says_two_at n (inr two) = subst (λ (k : ℕ). version_in (spelling (VersionIs k) ∷ []) ≡ k) (sym two) refl

abbrev version_by : Bool → ℕ
version_by b = if b then 2 else 1

if_version : (b : Bool) → (version_by b ≡ 1) ⊎ (version_by b ≡ 2)
if_version true = inr refl
if_version false = inl refl

-- a text is of version 1 or 2
pub version_is : (text : List ℕ) → (version_of text ≡ 1) ⊎ (version_of text ≡ 2)
version_is text = at (statements_of (lines_of text))
  where
    at : (lines : List (List (List ℕ))) → (version_in lines ≡ 1) ⊎ (version_in lines ≡ 2)
    at [] = inl refl
    at (words ∷ more) = if_version (says_two words)

-- The text of entries that are of its version, are in order and ask for a request within its limits stands for it.
pub text_stands : (entries : List Statement) (q : Request) → version_in (map spelling entries) ≡ q.version → AllByRecursion IsStatement entries
    → AllByRecursion (IsOfVersion q.version) entries → AreInOrder entries → AskFor entries q → IsWithinLimits q
    → length (text_of_statements entries) ≤ most_bytes → StandsFor (text_of_statements entries) q
text_stands entries q is may of_version in_order asked limits short =
    let version : version_of (text_of_statements entries) ≡ q.version = ap version_in (spelled entries may) ∙ is in
    record {
      short = short;
      version = version;
      entries = entries;
      said = subst (λ (v : ℕ). SayInTurn v (lines_of (text_of_statements entries)) entries) (sym version) (text_says q.version entries may of_version);
      in_order = in_order;
      asked = asked;
      limits = limits;
    }

-- the two parts of what is small
all_may : (entries : List Statement) → AllByRecursion IsSmall entries → AllByRecursion IsStatement entries
all_may [] all = tt
all_may (e ∷ entries) all = (all.0.may, all_may entries all.1)

none_big : (entries : List Statement) → AllByRecursion IsSmall entries → AllByRecursion (λ entry. named_elements entry ≤ 10) entries
none_big [] all = tt
none_big (e ∷ entries) all = (all.0.not_big, none_big entries all.1)

-- the same, where there are at most 64 entries
pub small_stands : (entries : List Statement) (q : Request) → version_in (map spelling entries) ≡ q.version → AllByRecursion IsSmall entries
    → AllByRecursion (IsOfVersion q.version) entries → length entries ≤ 64 → ((kind : ℕ) → count_of_kind kind entries ≤ most_of_kind kind)
    → AskFor entries q → IsWithinLimits q → StandsFor (text_of_statements entries) q
small_stands entries q is all of_version few not_often asked limits =
    text_stands entries q is (all_may entries all) of_version (record { not_often = not_often; not_big = none_big entries all }) asked limits
    (omega (arith, text_length entries all))

-- what holds of the entries of a list holds of those of one kind, made anew of their values
values_kept : {Y : Type 0} (P : Statement → Type 0) (value : Statement → Option Y) (made : Y → Statement) →
    ((e : Statement) (y : Y) → value e ≡ Some y → e ≡ made y) → (entries : List Statement) → AllByRecursion P entries →
    AllByRecursion P (map made (filter_map value entries))
values_kept P value made inverse [] all = tt
values_kept {Y = Y} P value made inverse (e ∷ entries) all = at (value e) refl (filter_map value entries) (values_kept P value made inverse entries all.1)
  where
    at : (o : Option Y) → value e ≡ o → (ys : List Y) → AllByRecursion P (map made ys) → AllByRecursion P (map made (cons_option o ys))
    at None is ys rest = rest
    at (Some y) is ys rest = (subst P (inverse e y is) all.0, rest)

-- the entry that has a value is made of it
rank_made : (e : Statement) (n : ℕ) → rank_in e ≡ Some n → e ≡ RankIs n
rank_made (RankIs m) n is = cc (is)
rank_made _ n is = cc (is)

field_made : (e : Statement) (fs : List ℕ) → field_in e ≡ Some fs → e ≡ FieldIs fs
field_made (FieldIs gs) fs is = cc (is)
field_made _ fs is = cc (is)

size_made : (e : Statement) (n : ℕ) → size_in e ≡ Some n → e ≡ SizeIs n
size_made (SizeIs m) n is = cc (is)
size_made _ n is = cc (is)

forbidden_made : (e : Statement) (m : MinorName) → forbidden_in e ≡ Some m → e ≡ Forbids m
forbidden_made (Forbids n) m is = cc (is)
forbidden_made _ m is = cc (is)

wanted_made : (e : Statement) (m : MinorName) → wanted_in e ≡ Some m → e ≡ ListsWith m
wanted_made (ListsWith n) m is = cc (is)
wanted_made _ m is = cc (is)

count_append : (kind : ℕ) (xs ys : List Statement) → count_of_kind kind (xs ++ ys) ≡ count_of_kind kind xs + count_of_kind kind ys
count_append kind xs ys = sum_by-append (of_kind kind) xs ys

-- as many are forbidden as there are entries that forbid
forbidden_count : (entries : List Statement) → length (filter_map forbidden_in entries) ≤ count_of_kind forbid_kind entries
forbidden_count [] = omega arith
forbidden_count (Forbids m ∷ entries) = omega (arith, count_cons forbid_kind (Forbids m) entries, forbidden_count entries)
forbidden_count (e ∷ entries) = omega (arith, count_cons forbid_kind e entries, forbidden_count entries)

-- the head after its first four entries, from its end on
abbrev print_part : Request → List Statement
print_part q = Prints q.print ∷ []

abbrev has_part : Request → List Statement
has_part q = map ListsWith (option_to_list q.has) ++ print_part q

abbrev distinct_part : Request → List Statement
distinct_part q = where_set q.distinct ListsDistinct ++ has_part q

abbrev cosimple_part : Request → List Statement
cosimple_part q = where_set q.cosimple ListsCosimple ++ distinct_part q

abbrev three_part : Request → List Statement
three_part q = where_set q.three_connected ListsThreeConnected ++ cosimple_part q

abbrev connected_part : Request → List Statement
connected_part q = where_set q.connected ListsConnected ++ three_part q

abbrev forbid_part : Request → List Statement
forbid_part q = map Forbids q.forbid ++ connected_part q

abbrev mode_part : Request → List Statement
mode_part q = where_set (is_semilinear q.mode) (EquivalenceIs Semilinear) ++ forbid_part q

abbrev head_parts : Request → List Statement
head_parts q = VersionIs q.version ∷ FieldIs q.factors ∷ RankIs q.rank ∷ SizeIs q.size ∷ mode_part q

-- the same list, with its parts taken together from the end on
parts_are : (q : Request) → head_parts q ≡ head_statements q
parts_are q = simp append_assoc

all_map : {X Y : Type 0} (P : Y → Type 0) (f : X → Y) → ((x : X) → P (f x)) → (xs : List X) → AllByRecursion P (map f xs)
all_map P f each [] = tt
all_map P f each (x ∷ xs) = (each x, all_map P f each xs)

pub all_where : (P : Statement → Type 0) (b : Bool) (e : Statement) → P e → AllByRecursion P (where_set b e)
all_where P true e p = (p, tt)
all_where P false e p = tt

all_has : (P : Statement → Type 0) (q : Request) → AllByRecursion P (map ListsWith (option_to_list q.has)) → P (Prints q.print) → AllByRecursion P (has_part q)
all_has P q has print = all_append P (map ListsWith (option_to_list q.has)) (print_part q) has (print, tt)

all_distinct : (P : Statement → Type 0) (q : Request) → P ListsDistinct → AllByRecursion P (has_part q) → AllByRecursion P (distinct_part q)
all_distinct P q d rest = all_append P (where_set q.distinct ListsDistinct) (has_part q) (all_where P q.distinct ListsDistinct d) rest

all_cosimple : (P : Statement → Type 0) (q : Request) → P ListsCosimple → AllByRecursion P (distinct_part q) → AllByRecursion P (cosimple_part q)
all_cosimple P q c rest = all_append P (where_set q.cosimple ListsCosimple) (distinct_part q) (all_where P q.cosimple ListsCosimple c) rest

all_three : (P : Statement → Type 0) (q : Request) → P ListsThreeConnected → AllByRecursion P (cosimple_part q) → AllByRecursion P (three_part q)
all_three P q t rest = all_append P (where_set q.three_connected ListsThreeConnected) (cosimple_part q)
    (all_where P q.three_connected ListsThreeConnected t) rest

all_connected : (P : Statement → Type 0) (q : Request) → P ListsConnected → AllByRecursion P (three_part q) → AllByRecursion P (connected_part q)
all_connected P q k rest = all_append P (where_set q.connected ListsConnected) (three_part q) (all_where P q.connected ListsConnected k) rest

all_filters : (P : Statement → Type 0) (q : Request) → P ListsConnected → P ListsThreeConnected → P ListsCosimple →
    P ListsDistinct → AllByRecursion P (has_part q) → AllByRecursion P (connected_part q)
all_filters P q k t c d rest = all_connected P q k (all_three P q t (all_cosimple P q c (all_distinct P q d rest)))

-- the same of what holds of an entry of each kind
record OfEach (P : Statement → Type 0) : Type 0 where
  mode : P (EquivalenceIs Semilinear)
  forbids : (m : MinorName) → P (Forbids m)
  connected : P ListsConnected
  three : P ListsThreeConnected
  cosimple : P ListsCosimple
  distinct : P ListsDistinct
  has : (m : MinorName) → P (ListsWith m)
  prints : (mode : PrintMode) → P (Prints mode)

all_mode : (P : Statement → Type 0) (q : Request) → P (EquivalenceIs Semilinear) → AllByRecursion P (forbid_part q)
    → AllByRecursion P (mode_part q)
all_mode P q m rest =
    all_append P (where_set (is_semilinear q.mode) (EquivalenceIs Semilinear)) (forbid_part q)
    (all_where P (is_semilinear q.mode) (EquivalenceIs Semilinear) m) rest

each_part : (P : Statement → Type 0) (q : Request) → OfEach P → AllByRecursion P (mode_part q)
each_part P q e = all_mode P q e.mode
    (all_append P (map Forbids q.forbid) (connected_part q) (all_map P Forbids e.forbids q.forbid)
    (all_filters P q e.connected e.three e.cosimple e.distinct
    (all_has P q (all_map P ListsWith e.has (option_to_list q.has)) (e.prints q.print))))

-- entries that tell nothing of what is asked for
no_values : {Y : Type 0} (value : Statement → Option Y) (xs : List Statement) → AllByRecursion (λ e. value e ≡ None) xs → filter_map value xs ≡ []
no_values value [] all = refl
no_values {Y = Y} value (x ∷ xs) all = ap (λ (o : Option Y). cons_option o (filter_map value xs)) all.0 ∙ no_values value xs all.1

skip_values : {Y : Type 0} (value : Statement → Option Y) (xs ys : List Statement) → AllByRecursion (λ e. value e ≡ None) xs →
    filter_map value (xs ++ ys) ≡ filter_map value ys
skip_values value [] ys all = refl
skip_values {Y = Y} value (x ∷ xs) ys all = ap (λ (o : Option Y). cons_option o (filter_map value (xs ++ ys))) all.0 ∙ skip_values value xs ys all.1

made_values : {Y : Type 0} (value : Statement → Option Y) (made : Y → Statement) → ((y : Y) → value (made y) ≡ Some y) →
    (ys : List Y) (rest : List Statement) → filter_map value rest ≡ [] → filter_map value (map made ys ++ rest) ≡ ys
made_values value made is [] rest none = none
made_values {Y = Y} value made is (y ∷ ys) rest none = ap (λ (o : Option Y). cons_option o (filter_map value (map made ys ++ rest)))
    (is y) ∙ ap (λ (l : List Y). y ∷ l) (made_values value made is ys rest none)

none_pass : (test : Statement → Bool) (xs : List Statement) → AllByRecursion (λ e. test e ≡ false) xs → list_any test xs ≡ false
none_pass test [] all = refl
none_pass test (x ∷ xs) all = ap (λ (b : Bool). b || list_any test xs) all.0 ∙ none_pass test xs all.1

skip_test : (test : Statement → Bool) (xs ys : List Statement) → AllByRecursion (λ e. test e ≡ false) xs → list_any test (xs ++ ys) ≡ list_any test ys
skip_test test [] ys all = refl
skip_test test (x ∷ xs) ys all = ap (λ (b : Bool). b || list_any test (xs ++ ys)) all.0 ∙ skip_test test xs ys all.1

flag_test : (test : Statement → Bool) (b : Bool) (e : Statement) (ys : List Statement) → test e ≡ true → list_any test ys ≡ false →
    list_any test (where_set b e ++ ys) ≡ b
flag_test test true e ys is none = ap (λ (b : Bool). b || list_any test ys) is
flag_test test false e ys is none = none

-- the head asks for what it is made of
head_rank : (q : Request) → filter_map rank_in (head_parts q) ≡ q.rank ∷ []
head_rank q = ap (λ (l : List ℕ). q.rank ∷ l)
    (no_values rank_in (mode_part q)
    (each_part (λ e. rank_in e ≡ None) q
    (record {
      mode = refl;
      forbids = λ m. refl;
      connected = refl;
      three = refl;
      cosimple = refl;
      distinct = refl;
      has =
          λ m. refl;
      prints = λ mode. refl;
    })))

head_field : (q : Request) → filter_map field_in (head_parts q) ≡ q.factors ∷ []
head_field q = ap (λ (l : List (List ℕ)). q.factors ∷ l)
    (no_values field_in (mode_part q)
    (each_part (λ e. field_in e ≡ None) q
    (record {
      mode = refl;
      forbids = λ m. refl;
      connected = refl;
      three = refl;
      cosimple = refl;
      distinct = refl;
      has =
          λ m. refl;
      prints = λ mode. refl;
    })))

head_size : (q : Request) → filter_map size_in (head_parts q) ≡ q.size ∷ []
head_size q = ap (λ (l : List ℕ). q.size ∷ l)
    (no_values size_in (mode_part q)
    (each_part (λ e. size_in e ≡ None) q
    (record {
      mode = refl;
      forbids = λ m. refl;
      connected = refl;
      three = refl;
      cosimple = refl;
      distinct = refl;
      has =
          λ m. refl;
      prints = λ mode. refl;
    })))

head_forbid : (q : Request) → filter_map forbidden_in (head_parts q) ≡ q.forbid
head_forbid q =
    let silent : Statement → Type 0 = λ e. forbidden_in e ≡ None in
    skip_values forbidden_in (where_set (is_semilinear q.mode) (EquivalenceIs Semilinear)) (forbid_part q)
    (all_where silent (is_semilinear q.mode) (EquivalenceIs Semilinear) refl)
    ∙ made_values forbidden_in Forbids (λ m. refl) q.forbid (connected_part q)
    (no_values forbidden_in (connected_part q)
    (all_filters silent q refl refl refl refl (all_has silent q (all_map silent ListsWith (λ m. refl) (option_to_list q.has)) refl)))

head_has : (q : Request) → filter_map wanted_in (head_parts q) ≡ option_to_list q.has
head_has q =
    let silent : Statement → Type 0 = λ e. wanted_in e ≡ None in
    skip_values wanted_in (where_set (is_semilinear q.mode) (EquivalenceIs Semilinear)) (forbid_part q)
    (all_where silent (is_semilinear q.mode) (EquivalenceIs Semilinear) refl)
    ∙ skip_values wanted_in (map Forbids q.forbid) (connected_part q) (all_map silent Forbids (λ m. refl) q.forbid)
    ∙ skip_values wanted_in (where_set q.connected ListsConnected) (three_part q) (all_where silent q.connected ListsConnected refl)
    ∙ skip_values wanted_in (where_set q.three_connected ListsThreeConnected) (cosimple_part q) (all_where silent q.three_connected ListsThreeConnected refl)
    ∙ skip_values wanted_in (where_set q.cosimple ListsCosimple) (distinct_part q) (all_where silent q.cosimple ListsCosimple refl)
    ∙ skip_values wanted_in (where_set q.distinct ListsDistinct) (has_part q) (all_where silent q.distinct ListsDistinct refl)
    ∙ made_values wanted_in ListsWith (λ m. refl) (option_to_list q.has) (print_part q) refl

-- an entry of one kind is looked for, of which there is none after the filters
abbrev is_kind : ℕ → Statement → Bool
is_kind kind e = kind_number e == kind

skip_forbids : (test : Statement → Bool) (q : Request) → test (EquivalenceIs Semilinear) ≡ false → ((m : MinorName) → test (Forbids m) ≡ false)
    → list_any test (mode_part q) ≡ list_any test (connected_part q)
skip_forbids test q mode fails =
    skip_test test (where_set (is_semilinear q.mode) (EquivalenceIs Semilinear)) (forbid_part q)
    (all_where (λ e. test e ≡ false) (is_semilinear q.mode) (EquivalenceIs Semilinear) mode)
    ∙ skip_test test (map Forbids q.forbid) (connected_part q) (all_map (λ e. test e ≡ false) Forbids fails q.forbid)

skip_flag : (test : Statement → Bool) (b : Bool) (e : Statement) (ys : List Statement) → test e ≡ false → list_any test (where_set b e ++ ys) ≡ list_any test ys
skip_flag test b e ys fails = skip_test test (where_set b e) ys (all_where (λ e. test e ≡ false) b e fails)

has_fails : (test : Statement → Bool) (q : Request) → ((m : MinorName) → test (ListsWith m) ≡ false) →
    test (Prints q.print) ≡ false → AllByRecursion (λ e. test e ≡ false) (has_part q)
has_fails test q fails print = all_has (λ e. test e ≡ false) q (all_map (λ e. test e ≡ false) ListsWith fails (option_to_list q.has)) print

head_connected : (q : Request) → has_kind ListsConnected (head_parts q) ≡ q.connected
head_connected q =
    let fails : Statement → Type 0 = λ e. is_kind 5 e ≡ false in
    skip_forbids (is_kind 5) q refl (λ m. refl)
    ∙ flag_test (is_kind 5) q.connected ListsConnected (three_part q) refl
    (none_pass (is_kind 5) (three_part q)
    (all_three fails q refl (all_cosimple fails q refl (all_distinct fails q refl (has_fails (is_kind 5) q (λ m. refl) refl)))))

head_three : (q : Request) → has_kind ListsThreeConnected (head_parts q) ≡ q.three_connected
head_three q =
    let fails : Statement → Type 0 = λ e. is_kind 6 e ≡ false in
    skip_forbids (is_kind 6) q refl (λ m. refl)
    ∙ skip_flag (is_kind 6) q.connected ListsConnected (three_part q) refl
    ∙ flag_test (is_kind 6) q.three_connected ListsThreeConnected (cosimple_part q) refl
    (none_pass (is_kind 6) (cosimple_part q)
    (all_cosimple fails q refl (all_distinct fails q refl (has_fails (is_kind 6) q (λ m. refl) refl))))

head_cosimple : (q : Request) → has_kind ListsCosimple (head_parts q) ≡ q.cosimple
head_cosimple q =
    let fails : Statement → Type 0 = λ e. is_kind 7 e ≡ false in
    skip_forbids (is_kind 7) q refl (λ m. refl)
    ∙ skip_flag (is_kind 7) q.connected ListsConnected (three_part q) refl
    ∙ skip_flag (is_kind 7) q.three_connected ListsThreeConnected (cosimple_part q) refl
    ∙ flag_test (is_kind 7) q.cosimple ListsCosimple (distinct_part q) refl
    (none_pass (is_kind 7) (distinct_part q) (all_distinct fails q refl (has_fails (is_kind 7) q (λ m. refl) refl)))

head_distinct : (q : Request) → has_kind ListsDistinct (head_parts q) ≡ q.distinct
head_distinct q =
    skip_forbids (is_kind 8) q refl (λ m. refl)
    ∙ skip_flag (is_kind 8) q.connected ListsConnected (three_part q) refl
    ∙ skip_flag (is_kind 8) q.three_connected ListsThreeConnected (cosimple_part q) refl
    ∙ skip_flag (is_kind 8) q.cosimple ListsCosimple (distinct_part q) refl
    ∙ flag_test (is_kind 8) q.distinct ListsDistinct (has_part q) refl (none_pass (is_kind 8) (has_part q) (has_fails (is_kind 8) q (λ m. refl) refl))

print_kept : (print : PrintMode) → (if list_any prints_counts (Prints print ∷ []) then Counts else Forms) ≡ print
print_kept Forms = refl
print_kept Counts = refl

mode_kept : (mode : Mode) → (if is_semilinear mode then Semilinear else Linear) ≡ mode
mode_kept Linear = refl
mode_kept Semilinear = refl

-- no entry after the mode's asks for a mode
forbids_silent : (q : Request) → AllByRecursion (λ e. asks_semilinear e ≡ false) (forbid_part q)
forbids_silent q =
    let fails : Statement → Type 0 = λ e. asks_semilinear e ≡ false in
    all_append fails (map Forbids q.forbid) (connected_part q) (all_map fails Forbids (λ m. refl) q.forbid)
    (all_filters fails q refl refl refl refl (has_fails asks_semilinear q (λ m. refl) refl))

head_mode : (q : Request) → (if list_any asks_semilinear (head_parts q) then Semilinear else Linear) ≡ q.mode
head_mode q =
    ap (λ (b : Bool). cond b Semilinear Linear)
    (flag_test asks_semilinear (is_semilinear q.mode) (EquivalenceIs Semilinear) (forbid_part q) refl
    (none_pass asks_semilinear (forbid_part q) (forbids_silent q)))
    ∙ mode_kept q.mode

head_print : (q : Request) → (if list_any prints_counts (head_parts q) then Counts else Forms) ≡ q.print
head_print q =
    ap (λ (b : Bool). cond b Counts Forms)
    (skip_forbids prints_counts q refl (λ m. refl)
    ∙ skip_flag prints_counts q.connected ListsConnected (three_part q) refl
    ∙ skip_flag prints_counts q.three_connected ListsThreeConnected (cosimple_part q) refl
    ∙ skip_flag prints_counts q.cosimple ListsCosimple (distinct_part q) refl
    ∙ skip_flag prints_counts q.distinct ListsDistinct (has_part q) refl
    ∙ skip_test prints_counts (map ListsWith (option_to_list q.has)) (print_part q)
    (all_map (λ e. prints_counts e ≡ false) ListsWith (λ m. refl) (option_to_list q.has)))
    ∙ print_kept q.print

head_asks : (q : Request) → AskFor (head_parts q) q
head_asks q = record {
  rank = head_rank q;
  field = head_field q;
  size = head_size q;
  forbid = head_forbid q;
  connected =
      head_connected q;
  three_connected = head_three q;
  cosimple = head_cosimple q;
  distinct = head_distinct q;
  has =
      head_has q;
  print = head_print q;
  mode = head_mode q;
}

-- each kind stands in the head as often as it may
abbrev kinds_bound : ℕ → ℕ
kinds_bound kind = cond (0 == kind) 1
    0 + (cond (2 == kind) 1 0 + (cond
    (1 == kind) 1 0 + (cond (3 == kind) 1
    0 + (cond (4 == kind) 8 0 + (cond
    (5 == kind) 1 0 + (cond (6 == kind) 1
    0 + (cond (7 == kind) 1 0 + (cond (8 == kind) 1 0 + (cond (9 == kind) 1 0 + (cond (10 == kind) 1 0 + cond (11 == kind) 1 0))))))))))

kind_differs : (m n kind : ℕ) → m < kind → cond (m == kind) n 0 ≡ 0
kind_differs m n kind lt = grind (arith, nat_tests)

-- there is none beyond the last kind
no_kind : (kind : ℕ) → 11 < kind → kinds_bound kind ≤ most_of_kind kind
no_kind kind lt =
    omega (
      arith,
      some_of_kind kind,
      kind_differs 0 1 kind (omega arith),
      kind_differs 1 1 kind (omega arith),
      kind_differs 2 1 kind (omega arith),
      kind_differs 3 1 kind (omega arith),
      kind_differs 4 8 kind (omega arith),
      kind_differs 5 1 kind (omega arith),
      kind_differs 6 1 kind (omega arith),
      kind_differs 7 1 kind (omega arith),
      kind_differs 8 1 kind (omega arith),
      kind_differs 9 1 kind (omega arith),
      kind_differs 10 1 kind (omega arith),
      kind_differs 11 1 kind (omega arith),
    )

kinds_bound_small : (kind : ℕ) → kinds_bound kind ≤ most_of_kind kind
kinds_bound_small zero = lit≤ tt
kinds_bound_small (suc zero) = lit≤ tt
kinds_bound_small (suc (suc zero)) = lit≤ tt
kinds_bound_small (suc (suc (suc zero))) = lit≤ tt
kinds_bound_small (suc (suc (suc (suc zero)))) = lit≤ tt
kinds_bound_small (suc (suc (suc (suc (suc zero))))) = lit≤ tt
kinds_bound_small (suc (suc (suc (suc (suc (suc zero)))))) = lit≤ tt
kinds_bound_small (suc (suc (suc (suc (suc (suc (suc zero))))))) = lit≤ tt
kinds_bound_small (suc (suc (suc (suc (suc (suc (suc (suc zero)))))))) = lit≤ tt
kinds_bound_small (suc (suc (suc (suc (suc (suc (suc (suc (suc zero))))))))) = lit≤ tt
kinds_bound_small (suc (suc (suc (suc (suc (suc (suc (suc (suc (suc zero)))))))))) = lit≤ tt
kinds_bound_small (suc (suc (suc (suc (suc (suc (suc (suc (suc (suc (suc zero))))))))))) = lit≤ tt
kinds_bound_small (suc (suc (suc (suc (suc (suc (suc (suc (suc (suc (suc (suc kind)))))))))))) =
    no_kind (suc (suc (suc (suc (suc (suc (suc (suc (suc (suc (suc (suc kind)))))))))))) (omega arith)

-- how many of a kind stand in a part
where_count : (kind : ℕ) (b : Bool) (e : Statement) → count_of_kind kind (where_set b e) ≤ cond (kind_number e == kind) 1 0
where_count kind true e = omega arith
where_count kind false e = omega arith

forbids_count : (kind : ℕ) (b : Bool) → (4 == kind) ≡ b → (ms : List MinorName) → length ms ≤ 8 → count_of_kind kind (map Forbids ms) ≤ cond b 8 0
forbids_count kind true is ms few = omega (arith, count_by-le-length (is_kind kind) (map Forbids ms), length-map ms Forbids)
forbids_count kind false is [] few = omega arith
forbids_count kind false is (m ∷ ms) few =
    let one : of_kind kind (Forbids m) ≡ 0 = ap (λ (b : Bool). cond b 1 0) is in
    omega (arith, one, count_cons kind (Forbids m) (map Forbids ms), forbids_count kind false is ms (omega arith))

has_count : (kind : ℕ) (o : Option MinorName) → count_of_kind kind (map ListsWith (option_to_list o)) ≤ cond (9 == kind) 1 0
has_count kind None = omega arith
has_count kind (Some m) = omega arith

head_count : (q : Request) (kind : ℕ) → length q.forbid ≤ 8 → count_of_kind kind (head_parts q) ≤ kinds_bound kind
head_count q kind few =
    omega (
      arith,
      count_cons kind (VersionIs q.version) (FieldIs q.factors ∷ RankIs q.rank ∷ SizeIs q.size ∷ mode_part q),
      count_cons kind (FieldIs q.factors) (RankIs q.rank ∷ SizeIs q.size ∷ mode_part q),
      count_cons kind (RankIs q.rank) (SizeIs q.size ∷ mode_part q),
      count_cons kind (SizeIs q.size) (mode_part q),
      count_append kind (where_set (is_semilinear q.mode) (EquivalenceIs Semilinear)) (forbid_part q),
      where_count kind (is_semilinear q.mode) (EquivalenceIs Semilinear),
      count_append kind (map Forbids q.forbid) (connected_part q),
      count_append kind (where_set q.connected ListsConnected) (three_part q),
      count_append kind (where_set q.three_connected ListsThreeConnected) (cosimple_part q),
      count_append kind (where_set q.cosimple ListsCosimple) (distinct_part q),
      count_append kind (where_set q.distinct ListsDistinct) (has_part q),
      count_append kind (map ListsWith (option_to_list q.has)) (print_part q),
      count_cons kind (Prints q.print) [],
      forbids_count kind (4 == kind) refl q.forbid few,
      where_count kind q.connected ListsConnected,
      where_count kind q.three_connected ListsThreeConnected,
      where_count kind q.cosimple ListsCosimple,
      where_count kind q.distinct ListsDistinct,
      has_count kind q.has,
    )

-- how many entries the head has
where_length : (b : Bool) (e : Statement) → length (where_set b e) ≤ 1
where_length true e = omega arith
where_length false e = omega arith

option_length : (o : Option MinorName) → length (option_to_list o) ≤ 1
option_length None = omega arith
option_length (Some m) = omega arith

head_length : (q : Request) → length q.forbid ≤ 8 → length (head_parts q) ≤ 64
head_length q few =
    omega (
      arith,
      length-append (where_set (is_semilinear q.mode) (EquivalenceIs Semilinear)) (forbid_part q),
      where_length (is_semilinear q.mode) (EquivalenceIs Semilinear),
      length-map q.forbid Forbids,
      length-map (option_to_list q.has) ListsWith,
      option_length q.has,
      where_length q.connected ListsConnected,
      where_length q.three_connected ListsThreeConnected,
      where_length q.cosimple ListsCosimple,
      where_length q.distinct ListsDistinct,
      length-append (map Forbids q.forbid) (connected_part q),
      length-append (where_set q.connected ListsConnected) (three_part q),
      length-append (where_set q.three_connected ListsThreeConnected) (cosimple_part q),
      length-append (where_set q.cosimple ListsCosimple) (distinct_part q),
      length-append (where_set q.distinct ListsDistinct) (has_part q),
      length-append (map ListsWith (option_to_list q.has)) (print_part q),
    )

-- what holds of the entries of the text holds of those of the head
head_kept : (P : Statement → Type 0) (entries : List Statement) (q : Request) → P (VersionIs q.version) → P (EquivalenceIs Semilinear)
    → P ListsConnected → P ListsThreeConnected → P ListsCosimple → P ListsDistinct → P (Prints q.print)
    → AllByRecursion P entries → AskFor entries q → AllByRecursion P (head_parts q)
head_kept P entries q version mode connected three cosimple distinct print all asked =
    let ranks = subst (λ (l : List ℕ). AllByRecursion P (map RankIs l)) asked.rank (values_kept P rank_in RankIs rank_made entries all) in
    let fields = subst (λ (l : List (List ℕ)). AllByRecursion P (map FieldIs l)) asked.field (values_kept P field_in FieldIs field_made entries all) in
    let sizes = subst (λ (l : List ℕ). AllByRecursion P (map SizeIs l)) asked.size (values_kept P size_in SizeIs size_made entries all) in
    let forbids = subst (λ (l : List MinorName). AllByRecursion P (map Forbids l)) asked.forbid
    (values_kept P forbidden_in Forbids forbidden_made entries all) in
    let has = subst (λ (l : List MinorName). AllByRecursion P (map ListsWith l)) asked.has (values_kept P wanted_in ListsWith wanted_made entries all) in
    let minors = all_append P (map Forbids q.forbid) (connected_part q) forbids (all_filters P q connected three cosimple distinct (all_has P q has print)) in
    (version, (fields.0, (ranks.0, (sizes.0, all_mode P q mode minors))))

-- what statements may name, their values may name
pub forbidden_may : (es : List Statement) → AllByRecursion IsStatement es → AllByRecursion IsMinorName (filter_map forbidden_in es)
forbidden_may [] all = tt
forbidden_may (Forbids m ∷ es) all = (all.0, forbidden_may es all.1)
forbidden_may (_ ∷ es) all = forbidden_may es all.1

-- at most eight minors are forbidden
few_forbidden : (entries : List Statement) (q : Request) → AreInOrder entries → AskFor entries q → length q.forbid ≤ 8
few_forbidden entries q in_order asked = omega (arith, forbidden_count entries, in_order.not_often forbid_kind, ap length asked.forbid)

all_small : (entries : List Statement) → AllByRecursion IsStatement entries →
    AllByRecursion (λ entry. named_elements entry ≤ 10) entries → AllByRecursion IsSmall entries
all_small [] may not_big = tt
all_small (e ∷ entries) may not_big = (record { may = may.0; not_big = not_big.0 }, all_small entries may.1 not_big.1)

version_number : (n : ℕ) → (n ≡ 1) ⊎ (n ≡ 2) → n < 10
version_number n (inl one) = omega arith
version_number n (inr two) = omega arith

-- a line of its kind without a matroid is small
plain_small : (e : Statement) → IsStatement e → named_elements e ≡ 0 → IsSmall e
plain_small e may none = record { may = may; not_big = omega arith }

-- The parts of the head of a request stand for it, where what they say is small and of its version.
parts_stand : (q : Request) → (q.version ≡ 1) ⊎ (q.version ≡ 2) → length q.forbid ≤ 8 → AllByRecursion IsSmall (head_parts q)
    → AllByRecursion (IsOfVersion q.version) (head_parts q) → IsWithinLimits q → StandsFor (text_of_statements (head_parts q)) q
parts_stand q is few small of_version limits =
    small_stands (head_parts q) q (says_two_at q.version is) small of_version (head_length q few)
    (λ kind. omega (arith, head_count q kind few, kinds_bound_small kind)) (head_asks q) limits

-- The head of a request's listing, without its first line, stands for the request.
pub head_stands : (text : List ℕ) (q : Request) → StandsFor text q → StandsFor (text_of_statements (head_statements q)) q
head_stands text q s =
    let is : (q.version ≡ 1) ⊎ (q.version ≡ 2) = subst (λ (v : ℕ). (v ≡ 1) ⊎ (v ≡ 2)) s.version (version_is text) in
    let one : IsSmall (VersionIs q.version) = record { may = omega (arith, version_number q.version is); not_big = omega arith } in
    let small =
    head_kept IsSmall s.entries q one (plain_small (EquivalenceIs Semilinear) tt refl) (plain_small ListsConnected tt refl)
    (plain_small ListsThreeConnected tt refl) (plain_small ListsCosimple tt refl) (plain_small ListsDistinct tt refl)
    (plain_small (Prints q.print) tt refl) (all_small s.entries s.said.may s.in_order.not_big) s.asked in
    let entries_of = subst (λ (v : ℕ). AllByRecursion (IsOfVersion v) s.entries) s.version s.said.of_version in
    let of_version = head_kept (IsOfVersion q.version) s.entries q refl tt tt tt tt tt tt entries_of s.asked in
    subst (λ (es : List Statement). StandsFor (text_of_statements es) q) (parts_are q)
    (parts_stand q is (few_forbidden s.entries q s.in_order s.asked) small of_version s.limits)

-- 2 alone is a list of orders
pub binary_field : (f : ℕ) → f < 1 → IsOrder (slice_index (2 ∷ []) f)
binary_field zero l = record { listed = (0, lit< tt, refl) }
binary_field (suc f) l = absurd (omega arith)

-- what a request for counts of version 1 says, with minors forbidden and nothing else
abbrev pub counts_statements : List ℕ → ℕ → ℕ → List MinorName → List Statement
counts_statements factors rank size forbid = VersionIs 1 ∷ FieldIs factors ∷ RankIs rank ∷ SizeIs size ∷ map Forbids forbid ++ Prints Counts ∷ []

abbrev pub counts_request : List ℕ → ℕ → ℕ → List MinorName → Request
counts_request factors rank size forbid = record {
  factors = factors;
  rank = rank;
  size = size;
  forbid = forbid;
  connected = false;
  three_connected = false;
  cosimple = false;
  distinct = false;
  has = None;
  print = Counts;
  mode = Linear;
  version = 1;
}

-- its text stands for it
pub counts_stand : (factors : List ℕ) (rank size : ℕ) (forbid : List MinorName) → IsFactors factors → AllByRecursion (λ order. order ≤ 9) factors
    → length forbid ≤ 8 → AllByRecursion (λ minor. IsMinorName minor × (elements_of minor ≤ 10) × (order_of_minor minor ≤ 9)) forbid
    → IsWithinLimits (counts_request factors rank size forbid)
    → StandsFor (text_of_statements (counts_statements factors rank size forbid)) (counts_request factors rank size forbid)
counts_stand factors rank size forbid are small few names limits =
    parts_stand (counts_request factors rank size forbid) (inl refl) few smalls versions limits
  where
    forbids_small : (ms : List MinorName) → AllByRecursion (λ minor. IsMinorName minor × (elements_of minor ≤ 10) × (order_of_minor minor ≤ 9)) ms
        → AllByRecursion IsSmall (map Forbids ms ++ Prints Counts ∷ [])
    forbids_small [] all = (plain_small (Prints Counts) tt refl, tt)
    forbids_small (m ∷ ms) all = (record { may = all.0.0; not_big = all.0.1 }, forbids_small ms all.1)

    forbids_version : (ms : List MinorName) → AllByRecursion (λ minor. IsMinorName minor × (elements_of minor ≤ 10) × (order_of_minor minor ≤ 9)) ms
        → AllByRecursion (IsOfVersion 1) (map Forbids ms ++ Prints Counts ∷ [])
    forbids_version [] all = (tt, tt)
    forbids_version (m ∷ ms) all = (all.0.2, forbids_version ms all.1)

    smalls : AllByRecursion IsSmall (counts_statements factors rank size forbid)
    smalls =
        let low = limits.rank in
        let high = limits.size in (
          record { may = omega arith; not_big = omega arith },
          (
            record { may = are; not_big = omega arith },
            (
              record { may = omega (arith, low.1); not_big = omega arith },
              (record { may = omega (arith, high.1); not_big = omega arith }, forbids_small forbid names),
            ),
          ),
        )

    versions : AllByRecursion (IsOfVersion 1) (counts_statements factors rank size forbid)
    versions = (refl, (small, (tt, (tt, forbids_version forbid names))))
