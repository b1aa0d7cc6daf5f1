-- What is known of the filters that were said so far.
use Rattle.std.specs.Prelude.{◌≡◌, ◌≤◌, List, [], ◌∷◌, ◌++◌, map, cond, filter_map, Option, option_map, option_to_list}
use Rattle.matroid_theory.specs.Minor.{Matroid}
use Rattle.named_matroids.specs.Names.{named_by}
use Rattle.formats.specs.Statement.{MinorName, Statement, kind_number, named_elements}
use Rattle.formats.specs.Minors.{given_as}
use Rattle.formats.specs.Levels.{AreGivenBy}
use Rattle.formats.specs.Request.{count_of_kind, wanted_in}
use Rattle.request_reader.specs.declared.filters.Filters.{Filters}

-- the minor that is wanted, as a line names it
abbrev pub wanted_of : Filters → Option MinorName
wanted_of filters = option_map (λ item. named_by item.spelling) filters.has

-- the matroid that is wanted
abbrev pub wanted_matroid : Filters → Option Matroid
wanted_matroid filters = option_map (λ item. item.matroid) filters.has

-- it is that of its name
abbrev pub IsWantedGiven : Filters → Type 0
IsWantedGiven filters = AreGivenBy (map given_as (option_to_list (wanted_of filters))) (option_to_list (wanted_matroid filters))

-- The filters are those of the entries.
pub record HoldsFilters (entries : List Statement) (filters : Filters) : Type 0 where
  pub connected : count_of_kind 5 entries ≡ cond filters.connected 1 0
  pub three : count_of_kind 6 entries ≡ cond filters.three 1 0
  pub cosimple : count_of_kind 7 entries ≡ cond filters.cosimple 1 0
  pub distinct : count_of_kind 8 entries ≡ cond filters.distinct 1 0
  pub has : filter_map wanted_in entries ≡ option_to_list (wanted_of filters)
  pub given : IsWantedGiven filters

-- The entry is a filter that wasn't there, and the filters are those with it.
pub record IsNewFilter (entries : List Statement) (entry : Statement) (filters : Filters) : Type 0 where
  pub not_big : named_elements entry ≤ 10
  pub new : count_of_kind (kind_number entry) entries ≡ 0
  pub holds : HoldsFilters (entries ++ entry ∷ []) filters
