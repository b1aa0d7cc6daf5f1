-- What is known of the entries that were said so far.
use Rattle.std.specs.Prelude.{◌≡◌, ℕ, List, cond, filter_map, option_to_list, Option, Some, None}
use Rattle.matroid_theory.specs.declared.Mode.{Mode}
use Rattle.formats.specs.declared.refusal.PrintMode.{PrintMode}
use Rattle.formats.specs.Statement.{Statement, EquivalenceIs, Prints}
use Rattle.formats.specs.Request.{AreInOrder, count_of_kind, rank_in, field_in, size_in, forbidden_in}
use Rattle.formats.specs.Refusal.{NoFault}
use Rattle.request_reader.specs.declared.values.Values.{Values}
use Rattle.request_reader.specs.Filters.{HoldsFilters}
use Rattle.request_reader.specs.Requested.{minors_of, AreGiven}

abbrev pub print_in : Statement → Option PrintMode
print_in (Prints print) = Some print
print_in _ = None

abbrev pub mode_in : Statement → Option Mode
mode_in (EquivalenceIs mode) = Some mode
mode_in _ = None

-- The values are those of the entries, which are in order.
pub record Holds (entries : List Statement) (values : Values) : Type 0 where
  pub in_order : AreInOrder entries
  pub version : count_of_kind 0 entries ≡ cond values.version 1 0
  pub rank : filter_map rank_in entries ≡ option_to_list values.rank
  pub field : filter_map field_in entries ≡ option_to_list values.factors
  pub size : filter_map size_in entries ≡ option_to_list values.size
  pub forbid : filter_map forbidden_in entries ≡ minors_of values.forbid.items
  pub given : AreGiven values.forbid.items
  pub filters : HoldsFilters entries values.filters
  pub print : filter_map print_in entries ≡ option_to_list values.print
  pub mode : filter_map mode_in entries ≡ option_to_list values.mode

-- The lines of the text say entries that are in order, and the values are theirs.
pub record AreSaid (text : List ℕ) (values : Values) : Type 0 where
  pub entries : List Statement
  pub none : NoFault text entries
  pub holds : Holds entries values
