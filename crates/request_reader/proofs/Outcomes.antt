-- What entries ask for, and how a text is accepted or refused by its values.
use Rattle.std.proofs.Common.{◌≡◌, ◌∙◌, ℕ, ◌≤◌, List, [], ◌∷◌, Option, None, Some, refl, sym, ap, subst}
use Rattle.std.specs.Prelude.{filter_map, option_to_list, unwrap_or, Result, Ok, Err, IfOk, IfErr}
use Rattle.std.specs.List.{AllByRecursion, cons_option}
use Rattle.matroid_theory.specs.declared.Mode.TheVariants.{Linear}
use Rattle.formats.specs.declared.refusal.PrintMode.TheVariants.{Forms}
use Rattle.formats.specs.declared.refusal.Refusal.{Refusal}
use Rattle.formats.specs.declared.refusal.Refusal.TheVariants as refusal
use Rattle.formats.specs.Statement.{MinorName, Statement, FieldIs, Forbids, ListsWith, IsStatement, IsOfVersion, most_order, order_of_minor, named_elements}
use Rattle.formats.specs.Request.{Request, version_of, field_in, forbidden_in, wanted_in, AskFor, StandsFor, IsWithinLimits, IsRankInRange, IsSizeInRange}
use Rattle.formats.specs.Refusal.{AreValues, HasValues, HasRefusal}
use Rattle.formats.proofs.KindCounts.{flag_there}
use Rattle.named_matroids.specs.Names.{IsSmallName}
use Rattle.request_reader.specs.declared.values.Values.{Values}
use Rattle.request_reader.specs.Filters.{wanted_of}
use Rattle.request_reader.specs.Limits.{IsLate}
use Rattle.request_reader.specs.Requested.{minors_of, IsRequestOfVersion, AreNames}
use Rattle.request_reader.specs.Values.{Holds, AreSaid}
use Rattle.request_reader.proofs.EntryCounts.{print_asked, mode_asked}

-- what the request for the values of a text is made of
abbrev pub request_from : ℕ → List ℕ → ℕ → ℕ → Values → Request
request_from version factors rank size values = record {
  factors = factors;
  rank = rank;
  size = size;
  forbid = minors_of values.forbid.items;
  connected = values.filters.connected;
  three_connected = values.filters.three;
  cosimple = values.filters.cosimple;
  distinct = values.filters.distinct;
  has = wanted_of values.filters;
  print = unwrap_or values.print Forms;
  mode = unwrap_or values.mode Linear;
  version = version;
}

-- what holds of statements holds of their values
kept : {Y : Type 0} (P : Statement → Type 0) (Q : Y → Type 0) (value : Statement → Option Y) → ((e : Statement) (y : Y) → value e ≡ Some y → P e → Q y)
    → (es : List Statement) → AllByRecursion P es → AllByRecursion Q (filter_map value es)
kept P Q value each [] all = tt
kept {Y = Y} P Q value each (e ∷ es) all = at (value e) refl (kept P Q value each es all.1)
  where
    at : (o : Option Y) → value e ≡ o → AllByRecursion Q (filter_map value es) → AllByRecursion Q (cons_option o (filter_map value es))
    at None is rest = rest
    at (Some y) is rest = (each e y is all.0, rest)

-- statements of a version, with small names, ask for a request of that version with such names
factors_of_version : (version : ℕ) (e : Statement) (fs : List ℕ) → field_in e ≡ Some fs → IsOfVersion version e →
    AllByRecursion (λ order. order ≤ most_order version) fs
factors_of_version version (FieldIs gs) fs is of_version = let same : gs ≡ fs = cc (is) in
    subst (AllByRecursion (λ order. order ≤ most_order version)) same of_version
factors_of_version version _ fs is of_version = cc (is)

forbidden_of_version : (version : ℕ) (e : Statement) (m : MinorName) → forbidden_in e ≡ Some m → IsOfVersion version e → order_of_minor m ≤ most_order version
forbidden_of_version version (Forbids n) m is of_version = let same : n ≡ m = cc (is) in
    subst (λ (n : MinorName). order_of_minor n ≤ most_order version) same of_version
forbidden_of_version version _ m is of_version = cc (is)

wanted_of_version : (version : ℕ) (e : Statement) (m : MinorName) → wanted_in e ≡ Some m → IsOfVersion version e → order_of_minor m ≤ most_order version
wanted_of_version version (ListsWith n) m is of_version = let same : n ≡ m = cc (is) in
    subst (λ (n : MinorName). order_of_minor n ≤ most_order version) same of_version
wanted_of_version version _ m is of_version = cc (is)

forbidden_small : (e : Statement) (m : MinorName) → forbidden_in e ≡ Some m → IsStatement e × (named_elements e ≤ 10) → IsSmallName m
forbidden_small (Forbids n) m is small = let same : n ≡ m = cc (is) in subst IsSmallName same (record { is_minor = small.0; few = small.1 })
forbidden_small _ m is small = cc (is)

wanted_small : (e : Statement) (m : MinorName) → wanted_in e ≡ Some m → IsStatement e × (named_elements e ≤ 10) → IsSmallName m
wanted_small (ListsWith n) m is small = let same : n ≡ m = cc (is) in subst IsSmallName same (record { is_minor = small.0; few = small.1 })
wanted_small _ m is small = cc (is)

all_both : {X : Type 0} (P Q : X → Type 0) (xs : List X) → AllByRecursion P xs → AllByRecursion Q xs → AllByRecursion (λ x. P x × Q x) xs
all_both P Q [] p q = tt
all_both P Q (x ∷ xs) p q = ((p.0, q.0), all_both P Q xs p.1 q.1)

pub request_of_version : (text : List ℕ) (values : Values) (version rank : ℕ) (factors : List ℕ) (size : ℕ) → version ≡ version_of text → AreSaid text values
    → values.factors ≡ Some factors → IsRequestOfVersion (request_from version factors rank size values)
request_of_version text values version rank factors size is said f =
    let of_version = subst (λ (v : ℕ). AllByRecursion (IsOfVersion v) said.entries) (sym is) said.none.said.of_version in
    record {
      factors = (subst (λ (l : List (List ℕ)). AllByRecursion (AllByRecursion (λ order. order ≤ most_order version)) l) (said.holds.field ∙ ap option_to_list f)
          (kept (IsOfVersion version) (AllByRecursion (λ order. order ≤ most_order version)) field_in (factors_of_version version) said.entries of_version)).0;
      forbid = subst (AllByRecursion (λ minor. order_of_minor minor ≤ most_order version)) said.holds.forbid
          (kept (IsOfVersion version) (λ minor. order_of_minor minor ≤ most_order version) forbidden_in (forbidden_of_version version) said.entries of_version);
      has = subst (AllByRecursion (λ minor. order_of_minor minor ≤ most_order version)) said.holds.filters.has
          (kept (IsOfVersion version) (λ minor. order_of_minor minor ≤ most_order version) wanted_in (wanted_of_version version) said.entries of_version);
    }

pub request_names : (text : List ℕ) (values : Values) (version rank : ℕ) (factors : List ℕ) (size : ℕ) → AreSaid text values
    → AreNames (request_from version factors rank size values)
request_names text values version rank factors size said =
    let small = all_both IsStatement (λ e. named_elements e ≤ 10) said.entries said.none.said.may said.none.in_order.not_big in
    record {
      forbid = subst (AllByRecursion IsSmallName) said.holds.forbid
          (kept (λ e. IsStatement e × (named_elements e ≤ 10)) IsSmallName forbidden_in forbidden_small said.entries small);
      has = subst (AllByRecursion IsSmallName) said.holds.filters.has
          (kept (λ e. IsStatement e × (named_elements e ≤ 10)) IsSmallName wanted_in wanted_small said.entries small);
    }

-- the values that are there
are_values : (entries : List Statement) (values : Values) (rank : ℕ) (factors : List ℕ) (size : ℕ) → Holds entries values →
    values.rank ≡ Some rank → values.factors ≡ Some factors → values.size ≡ Some size → AreValues entries rank factors size
are_values entries values rank factors size h r f s = record {
  rank_said = h.rank ∙ ap option_to_list r;
  field_said = h.field ∙ ap option_to_list f;
  size_said = h.size ∙ ap option_to_list s;
}

has_values : (text : List ℕ) (values : Values) (rank : ℕ) (factors : List ℕ) (size : ℕ) → AreSaid text values →
    values.rank ≡ Some rank → values.factors ≡ Some factors → values.size ≡ Some size → HasValues text rank factors size
has_values text values rank factors size said r f s =
    record { entries = said.entries; none = said.none; values = are_values said.entries values rank factors size said.holds r f s }

-- Entries with these values ask for this request.
asks : (version : ℕ) (entries : List Statement) (values : Values) (rank : ℕ) (factors : List ℕ) (size : ℕ) → Holds entries values →
    AreValues entries rank factors size → AskFor entries (request_from version factors rank size values)
asks version entries values rank factors size h are = record {
  rank = are.rank_said;
  field = are.field_said;
  size = are.size_said;
  forbid = h.forbid;
  connected = flag_there 5 entries values.filters.connected h.filters.connected;
  three_connected = flag_there 6 entries values.filters.three h.filters.three;
  cosimple = flag_there 7 entries values.filters.cosimple h.filters.cosimple;
  distinct = flag_there 8 entries values.filters.distinct h.filters.distinct;
  has = h.filters.has;
  print = print_asked entries values.print h.print;
  mode = mode_asked entries values.mode h.mode;
}

-- a text with values within the limits stands for a request
stands : (version : ℕ) (text : List ℕ) (values : Values) (rank : ℕ) (factors : List ℕ) (size : ℕ) → version ≡ version_of text →
    (said : AreSaid text values) → AreValues said.entries rank factors size →
    IsWithinLimits (request_from version factors rank size values) → StandsFor text (request_from version factors rank size values)
stands version text values rank factors size is said are limits = record {
  short = said.none.short;
  version = sym is;
  entries = said.entries;
  said = said.none.said;
  in_order = said.none.in_order;
  asked = asks version said.entries values rank factors size said.holds are;
  limits = limits;
}

-- what the limits say of the values is said of the text
late : (text : List ℕ) (rank : ℕ) (factors : List ℕ) (size : ℕ) (why : Refusal) → HasValues text rank factors size →
    IsLate rank factors size why → HasRefusal text why
late text rank factors size (refusal.Rank v) h l =
    (factors, size, subst (λ (n : ℕ). HasValues text n factors size) (sym l.0) h, subst (λ (n : ℕ). IsRankInRange n → ⊥) (sym l.0) l.1)
late text rank factors size (refusal.Size v) h l =
    (rank, factors, subst (λ (n : ℕ). HasValues text rank factors n) (sym l.0) h, l.1, subst (λ (n : ℕ). IsSizeInRange rank n → ⊥) (sym l.0) l.2)
late text rank factors size (refusal.TooWide c) h l = (rank, factors, size, h, l.1, l.2, l.0, l.3)
late text rank factors size _ h l = absurd l

-- the answer where all values are there
pub accepted : (version : ℕ) (text : List ℕ) (values : Values) (rank : ℕ) (factors : List ℕ) (size : ℕ)
    (result : Result Request Refusal) → version ≡ version_of text → AreSaid text values → values.rank ≡ Some rank →
    values.factors ≡ Some factors → values.size ≡ Some size →
    IfOk result (λ request. request ≡ request_from version factors rank size values) →
    IfOk result (λ request. IsWithinLimits request) → IfOk result (λ request. StandsFor text request)
accepted version text values rank factors size (Ok request) v said r f s is limits = subst (λ (q : Request). StandsFor text q)
    (sym is) (stands version text values rank factors size v said (are_values said.entries values rank factors size said.holds r f s)
    (subst IsWithinLimits is limits))
accepted version text values rank factors size (Err why) v said r f s is limits = tt

pub refused : (text : List ℕ) (values : Values) (rank : ℕ) (factors : List ℕ) (size : ℕ) (result : Result Request Refusal) →
    AreSaid text values → values.rank ≡ Some rank → values.factors ≡ Some factors → values.size ≡ Some size →
    IfErr result (λ why. IsLate rank factors size why) → IfErr result (λ why. HasRefusal text why)
refused text values rank factors size (Ok request) said r f s l = tt
refused text values rank factors size (Err why) said r f s l = late text rank factors size why (has_values text values rank factors size said r f s) l
