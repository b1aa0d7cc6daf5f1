-- Each request that a text stands for has a listing.
use Rattle.std.proofs.Common.{◌≡◌, ℕ, zero, suc, ◌+◌, refl, sym, ◌∙◌, ap, subst, arith, List, [], ◌∷◌, map, length, inl, inr, Option, None, Some}
use Rattle.std.specs.Prelude.{filter_map, option_to_list}
use Rattle.std.specs.List.{AllByRecursion, range_with_len}
use Rattle.std.proofs.lemmas.Bool.{cases_lt}
use Rattle.matroid_theory.specs.Minor.{Matroid}
use Rattle.matroid_theory.specs.Level.{Family, Filters}
use Rattle.formats.specs.Statement.{MinorName, Statement, ListsWith, IsMinorName, IsStatement}
use Rattle.formats.specs.Request.{Request, StandsFor, wanted_in}
use Rattle.formats.specs.Minors.{given_as}
use Rattle.formats.specs.Listing.{LevelEntry, level_count, listing_blocks, text_of_blocks}
use Rattle.formats.specs.Levels.{AreGivenBy, Grows, Keeps, HasTries, IsLevelEntry, AreLevels, IsListing, IsListingUpTo, IsListingCutOff, columns_of}
use Rattle.formats.proofs.Fronts.{cut_is_front, up_to_is_front}
use Rattle.existence.proofs.Levels.{level_exists}
use Rattle.existence.proofs.Filters.{listed_exists}
use Rattle.existence.proofs.Tries.{tries_exist}
use Rattle.request_laws.specs.Answered.{NamesMinors, IsFrontOfListing}
use Rattle.request_laws.proofs.Minors.{minor_exists}
use Rattle.formats.proofs.Heads.{forbidden_may}

-- ---- the minors of a request

wanted_may : (es : List Statement) → AllByRecursion IsStatement es → AllByRecursion IsMinorName (filter_map wanted_in es)
wanted_may [] all = tt
wanted_may (ListsWith m ∷ es) all = (all.0, wanted_may es all.1)
wanted_may (_ ∷ es) all = wanted_may es all.1

-- so the minors of a request that a text stands for are names of matroids
pub stands_names : (text : List ℕ) (q : Request) → StandsFor text q → NamesMinors q
stands_names text q s = record {
  forbid = subst (AllByRecursion IsMinorName) s.asked.forbid (forbidden_may s.entries s.said.may);
  has = subst (AllByRecursion IsMinorName) s.asked.has (wanted_may s.entries s.said.may);
}

-- the matroids of a list of names
matroids_exist : (ms : List MinorName) → AllByRecursion IsMinorName ms → (Ns : List Matroid) × AreGivenBy (map given_as ms) Ns
matroids_exist [] all = ([], tt)
matroids_exist (m ∷ ms) all = let N = minor_exists m all.0 in let rest = matroids_exist ms all.1 in (N.0 ∷ rest.0, (N.1, rest.1))

wanted_exists : (o : Option MinorName) → AllByRecursion IsMinorName (option_to_list o)
    → (N : Option Matroid) × AreGivenBy (map given_as (option_to_list o)) (option_to_list N)
wanted_exists None all = (None, tt)
wanted_exists (Some m) all = let N = minor_exists m all.0 in (Some N.0, (N.1, tt))

-- so there is a family, and there are filters
pub family_exists : (q : Request) → NamesMinors q → (family : Family) × Grows q family
family_exists q names =
    let Ns = matroids_exist q.forbid names.forbid in (
      record { factors = q.factors; rank = q.rank; mode = q.mode; forbidden = Ns.0 },
      record { factors_are = refl; rank_is = refl; mode_is = refl; forbids = Ns.1 },
    )

pub filters_exist : (q : Request) → NamesMinors q → (filters : Filters) × Keeps q filters
filters_exist q names =
    let N = wanted_exists q.has names.has in (
      record { connected = q.connected; three = q.three_connected; cosimple = q.cosimple; distinct = q.distinct; has = N.0 },
      record { connected = refl; three = refl; cosimple = refl; distinct = refl; has = N.1 },
    )

-- ---- its levels

-- a size has a number of tries
pub has_tries : (family : Family) (n : ℕ) → (tried : ℕ) × HasTries family n tried
has_tries family n = elim (cases_lt family.rank n) [
  | inl l ↦ (let w = tries_exist family n in (w.0, record { first = λ e. absurd (omega arith); later = λ _. w.1 }))
  | inr g ↦ (0, record { first = λ _. refl; later = λ l. absurd (omega arith) })
]

module _ (q : Request) (names : NamesMinors q) where
  pub entry_exists : (n : ℕ) → (entry : LevelEntry) × (entry.size ≡ n) × IsLevelEntry q entry
  entry_exists n =
      let family = family_exists q names in
      let filters = filters_exist q names in
      let level = level_exists family.0 n in
      let listed = listed_exists family.0 n filters.0 in
      let tried = has_tries family.0 n in (
        record { size = n; classes = length level.0; listed = map columns_of listed.0; tried = tried.0 },
        refl,
        record {
          family = family.0;
          grows = family.1;
          filters = filters.0;
          keeps = filters.1;
          forms = level.0;
          are_level = level.1;
          classes_are = refl;
          shown = listed.0;
          are_listed = listed.1;
          listed_are = refl;
          tries = tried.1;
        },
      )

  -- the entries of n sizes from a on
  record Entries (a n : ℕ) (levels : List LevelEntry) : Type 0 where
    sizes : map (λ l. l.size) levels ≡ range_with_len a n
    number : length levels ≡ n
    each : AllByRecursion (IsLevelEntry q) levels

  -- there are such entries
  entries_exist : (n a : ℕ) → (levels : List LevelEntry) × Entries a n levels
  entries_exist zero a = ([], record { sizes = refl; number = refl; each = tt })
  entries_exist (suc n) a =
      let first = entry_exists a in
      let rest = entries_exist n (a + 1) in
      (first.0 ∷ rest.0, record { sizes = λ i. first.1 i ∷ rest.1.sizes i; number = ap (λ k. suc k) rest.1.number; each = (first.2, rest.1.each) })

  -- those of all sizes of the request
  pub levels_exist : (levels : List LevelEntry) × AreLevels q levels
  levels_exist =
      let w = entries_exist (level_count q) q.rank in (
        w.0,
        record {
          are_first = record {
            sizes = w.1.sizes ∙ ap (range_with_len q.rank) (sym w.1.number);
            at_most = (let e : length w.0 ≡ level_count q = w.1.number in omega arith);
            each = w.1.each;
          };
          are_all = w.1.number;
        },
      )

-- so there is a listing
pub listing_exists : (text : List ℕ) (q : Request) → StandsFor text q → (listing : List ℕ) × IsListing q listing
listing_exists text q s =
    let w = levels_exist q (stands_names text q s) in
    (text_of_blocks (listing_blocks q w.0), record { levels = w.0; are = w.1; is = refl })

-- and what is less than it is a front of it
pub cut_is_front_of_listing : (text : List ℕ) (q : Request) (whole : ℕ) (written : List ℕ) → StandsFor text q
    → IsListingCutOff q whole written → IsFrontOfListing q written
cut_is_front_of_listing text q whole written s c = let w = listing_exists text q s in (w.0, w.1, cut_is_front q w.0 written whole w.1 c)

pub up_to_is_front_of_listing : (text : List ℕ) (q : Request) (whole : ℕ) (written : List ℕ) → StandsFor text q
    → IsListingUpTo q whole written → IsFrontOfListing q written
up_to_is_front_of_listing text q whole written s c = let w = listing_exists text q s in (w.0, w.1, up_to_is_front q w.0 written whole w.1 c)
