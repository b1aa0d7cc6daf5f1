-- The requests of the samples, and their texts.
use Rattle.std.proofs.Common.{◌≡◌, ◌∙◌, ℕ, ◌+◌, ◌≤◌, ◌/◌, ◌%◌, ◌==◌, Bool, true, false, List, [], ◌∷◌, ◌++◌, map, length, refl, ap, subst, arith, lit≤, lit<}
use Rattle.std.specs.List.{AllByRecursion}
use Rattle.formats.specs.declared.refusal.PrintMode.TheVariants.{Counts}
use Rattle.formats.specs.Statement.{Statement, MinorName, Fano, FanoDual, KFour, KFive, VersionIs, RankIs, FieldIs, SizeIs, Forbids, Prints, IsMinorName, elements_of, order_of_minor}
use Rattle.formats.specs.Request.{Request, IsWithinLimits, StandsFor}
use Rattle.formats.specs.Listing.{where_set, text_of_statements}
use Rattle.formats.specs.Words.{sample_text}
use Rattle.formats.proofs.Heads.{counts_stand, binary_field}
use Rattle.named_matroids.specs.Names.{IsSmallName}
use Rattle.request_reader.specs.Requested.{IsRequestOfVersion, AreNames, counting_request}
use Rattle.request_reader.specs.Samples.{where_named}

-- the minors of four bits
abbrev pub sample_minors : Bool → Bool → Bool → Bool → List MinorName
sample_minors a b c d = ((where_named a Fano ++ where_named b FanoDual) ++ where_named c KFour) ++ where_named d KFive

-- ---- what holds of all

all_named : (P : MinorName → Type 0) (ms : List MinorName) (b : Bool) (m : MinorName) → AllByRecursion P ms → P m → AllByRecursion P (ms ++ where_named b m)
all_named P [] true m all p = (p, tt)
all_named P [] false m all p = tt
all_named P (x ∷ ms) b m all p = (all.0, all_named P ms b m all.1 p)

all_minors : (P : MinorName → Type 0) (a b c d : Bool) → P Fano → P FanoDual → P KFour → P KFive → AllByRecursion P (sample_minors a b c d)
all_minors P a b c d fano dual four five =
    all_named P _ d KFive (all_named P _ c KFour (all_named P _ b FanoDual (all_named P [] a Fano tt fano) dual) four) five

count_named : (ms : List MinorName) (b : Bool) (m : MinorName) → length (ms ++ where_named b m) ≤ length ms + 1
count_named [] true m = lit≤ tt
count_named [] false m = lit≤ tt
count_named (x ∷ ms) b m = omega (arith, count_named ms b m)

few_minors : (a b c d : Bool) → length (sample_minors a b c d) ≤ 8
few_minors a b c d =
    omega (
      arith,
      count_named [] a Fano,
      count_named (where_named a Fano) b FanoDual,
      count_named (where_named a Fano ++ where_named b FanoDual) c KFour,
      count_named ((where_named a Fano ++ where_named b FanoDual) ++ where_named c KFour) d KFive,
    )

-- ---- the request

abbrev pub sample_of : List MinorName → Request
sample_of minors = counting_request (2 ∷ []) 4 15 minors

pub sample_limits : (ms : List MinorName) → IsWithinLimits (sample_of ms)
sample_limits ms = record { rank = (lit≤ tt, lit≤ tt); size = (lit≤ tt, lit≤ tt); columns = lit≤ tt }

pub sample_version : (a b c d : Bool) → IsRequestOfVersion (sample_of (sample_minors a b c d))
sample_version a b c d = record {
  factors = (lit≤ tt, tt);
  forbid = all_minors (λ m. order_of_minor m ≤ 9) a b c d (lit≤ tt) (lit≤ tt) (lit≤ tt) (lit≤ tt);
  has = tt;
}

small_name : (m : MinorName) → IsMinorName m → elements_of m ≤ 10 → IsSmallName m
small_name m is few = record { is_minor = is; few = few }

pub sample_names : (a b c d : Bool) → AreNames (sample_of (sample_minors a b c d))
sample_names a b c d = record {
  forbid = all_minors IsSmallName a b c d (small_name Fano tt (lit≤ tt)) (small_name FanoDual tt (lit≤ tt)) (small_name KFour tt (lit≤ tt))
      (small_name KFive tt (lit≤ tt));
  has = tt;
}

-- ---- its text

first_said : (b : Bool) (m : MinorName) → map Forbids (where_named b m) ≡ where_set b (Forbids m)
first_said true m = refl
first_said false m = refl

said_more : (ms : List MinorName) (b : Bool) (m : MinorName) → map Forbids (ms ++ where_named b m) ≡ map Forbids ms ++ where_set b (Forbids m)
said_more [] b m = first_said b m
said_more (x ∷ ms) b m = ap (λ (l : List Statement). Forbids x ∷ l) (said_more ms b m)

all_said : (a b c d : Bool) → map Forbids (sample_minors a b c d) ++ Prints Counts ∷ []
    ≡ where_set a (Forbids Fano) ++ where_set b (Forbids FanoDual) ++ where_set c (Forbids KFour) ++ where_set d (Forbids KFive) ++ Prints Counts ∷ []
all_said a b c d =
    let two = said_more (where_named a Fano) b FanoDual ∙ ap (λ (l : List Statement). l ++ where_set b (Forbids FanoDual)) (first_said a Fano) in
    let three = said_more (where_named a Fano ++ where_named b FanoDual) c KFour ∙ ap (λ (l : List Statement). l ++ where_set c (Forbids KFour)) two in
    let four = said_more ((where_named a Fano ++ where_named b FanoDual) ++ where_named c KFour) d KFive
    ∙ ap (λ (l : List Statement). l ++ where_set d (Forbids KFive)) three in
    ap (λ (l : List Statement). l ++ Prints Counts ∷ []) four

-- the sample's text stands for its request
pub sample_stands : (k : ℕ) → StandsFor (sample_text k) (sample_of (sample_minors (k % 2 == 1) (k / 2 % 2 == 1) (k / 4 % 2 == 1) (k / 8 % 2 == 1)))
sample_stands k =
    let a = k % 2 == 1 in
    let b = k / 2 % 2 == 1 in
    let c = k / 4 % 2 == 1 in
    let d = k / 8 % 2 == 1 in
    let q = sample_of (sample_minors a b c d) in
    subst (λ (es : List Statement). StandsFor (text_of_statements (VersionIs 1 ∷ FieldIs (2 ∷ []) ∷ RankIs 4 ∷ SizeIs 15 ∷ es)) q) (all_said a b c d)
    (counts_stand (2 ∷ []) 4 15 (sample_minors a b c d) (record { some = lit< tt; few = lit≤ tt; fields = binary_field }) (lit≤ tt, tt) (few_minors a b c d)
    (all_minors (λ m. IsMinorName m × (elements_of m ≤ 10) × (order_of_minor m ≤ 9)) a b c d (tt, lit≤ tt, lit≤ tt) (tt, lit≤ tt, lit≤ tt)
    (tt, lit≤ tt, lit≤ tt) (tt, lit≤ tt, lit≤ tt)) (sample_limits (sample_minors a b c d)))
