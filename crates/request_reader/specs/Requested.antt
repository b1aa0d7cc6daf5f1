-- What the fields of a request stand for, and what they keep.
use Rattle.std.specs.Prelude.{ℕ, ◌≤◌, List, map, option_to_list, None, false}
use Rattle.std.specs.List.{AllByRecursion}
use Rattle.matroid_theory.specs.declared.Mode.TheVariants.{Linear}
use Rattle.matroid_theory.specs.Field.{IsFactors}
use Rattle.formats.specs.declared.refusal.PrintMode.TheVariants.{Counts}
use Rattle.named_matroids.specs.Names.{NamedMatroid, named_by, IsSmallName}
use Rattle.formats.specs.Statement.{MinorName, most_order, order_of_minor}
use Rattle.formats.specs.Minors.{given_as}
use Rattle.formats.specs.Levels.{AreGivenBy}
use Rattle.formats.specs.Request.{Request, IsWithinLimits}
use Rattle.request_reader.specs.Filters.{wanted_of, IsWantedGiven}
use Rattle.request_lines.specs.Versions.{version_number}
use Rattle.request_reader.specs.declared.request.Asked.{Asked}
use Rattle.request_reader.specs.declared.request.Request.TheInside.{Inside}

-- the minors, as lines name them
abbrev pub minors_of : List NamedMatroid → List MinorName
minors_of items = map (λ item. named_by item.spelling) items

-- each matroid is that of its name
abbrev pub AreGiven : List NamedMatroid → Type 0
AreGiven items = AreGivenBy (map given_as (minors_of items)) (map (λ item. item.matroid) items)

-- the request for the values
abbrev pub asked_request : Asked → Request
asked_request a = record {
  factors = a.factors;
  rank = a.rank;
  size = a.size;
  forbid = minors_of a.forbid.items;
  connected = a.filters.connected;
  three_connected = a.filters.three;
  cosimple = a.filters.cosimple;
  distinct = a.filters.distinct;
  has = wanted_of a.filters;
  print = a.print;
  mode = a.mode;
  version = version_number a.version;
}

-- the request for counts in version 1, without filters
abbrev pub counting_request : List ℕ → ℕ → ℕ → List MinorName → Request
counting_request factors rank size forbid = record {
  factors = factors;
  rank = rank;
  size = size;
  forbid = forbid;
  connected = false;
  three_connected = false;
  cosimple = false;
  distinct = false;
  has = None;
  print = Counts;
  mode = Linear;
  version = 1;
}

-- the request that the fields stand for
abbrev pub request_of : Inside → Request
request_of a = record {
  factors = a.factors;
  rank = a.rank;
  size = a.size;
  forbid = minors_of a.forbid.items;
  connected = a.filters.connected;
  three_connected = a.filters.three;
  cosimple = a.filters.cosimple;
  distinct = a.filters.distinct;
  has = wanted_of a.filters;
  print = a.print;
  mode = a.mode;
  version = version_number a.version;
}

-- No order is above the greatest of the request's version, in its factors and its matrices.
pub record IsRequestOfVersion (q : Request) : Type 0 where
  pub factors : AllByRecursion (λ order. order ≤ most_order q.version) q.factors
  pub forbid : AllByRecursion (λ minor. order_of_minor minor ≤ most_order q.version) q.forbid
  pub has : AllByRecursion (λ minor. order_of_minor minor ≤ most_order q.version) (option_to_list q.has)

-- Its minors are names and matrices of matroids of at most ten elements.
pub record AreNames (q : Request) : Type 0 where
  pub forbid : AllByRecursion IsSmallName q.forbid
  pub has : AllByRecursion IsSmallName (option_to_list q.has)

pub record KeepsLimits (a : Inside) : Type 0 where
  pub are_factors : IsFactors a.factors
  pub limits : IsWithinLimits (request_of a)
  pub of_version : IsRequestOfVersion (request_of a)
  pub names : AreNames (request_of a)
  pub given : AreGiven a.forbid.items
  pub wanted : IsWantedGiven a.filters
