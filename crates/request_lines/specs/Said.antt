-- What a line says, as an entry.
use Rattle.std.specs.Prelude.{ℕ, ◌≡◌, ◌<◌}
use Rattle.named_matroids.specs.Names.{named_by, IsSmallName}
use Rattle.formats.specs.Statement.{MinorName, Statement, VersionIs, RankIs, FieldIs, SizeIs, EquivalenceIs, Forbids, ListsConnected, ListsThreeConnected, ListsCosimple, ListsDistinct, ListsWith, Prints, elements_of}
use Rattle.request_lines.specs.declared.flags.Flag.{Flag}
use Rattle.request_lines.specs.declared.flags.Flag.TheVariants.{Connected, Three, Cosimple, Distinct}
use Rattle.request_lines.specs.declared.flags.Filter.{Filter}
use Rattle.request_lines.specs.declared.flags.Filter.TheVariants as filter
use Rattle.request_lines.specs.declared.line.NamedMinor.{NamedMinor}
use Rattle.request_lines.specs.declared.line.NamedMinor.TheVariants as minor
use Rattle.request_lines.specs.declared.line.Said.{Said}
use Rattle.request_lines.specs.declared.line.Said.TheVariants as said

-- the minor is the one that is named
abbrev pub IsNamed : NamedMinor → MinorName → Type 0
IsNamed (minor.Small item) named = (named ≡ named_by item.spelling) × IsSmallName named
IsNamed minor.TooBig named = 10 < elements_of named

-- what a filter without a minor says
abbrev pub flag_entry : Flag → Statement
flag_entry Connected = ListsConnected
flag_entry Three = ListsThreeConnected
flag_entry Cosimple = ListsCosimple
flag_entry Distinct = ListsDistinct

-- the entry is the filter
abbrev pub IsFilter : Filter → Statement → Type 0
IsFilter (filter.Flag flag) entry = entry ≡ flag_entry flag
IsFilter (filter.Has item) entry = (named : MinorName) × (entry ≡ ListsWith named) × IsNamed item named

-- the entry is what is said
abbrev pub IsSaid : Said → Statement → Type 0
IsSaid said.Version entry = (n : ℕ) × (entry ≡ VersionIs n)
IsSaid (said.Rank n) entry = entry ≡ RankIs n
IsSaid (said.Field factors) entry = entry ≡ FieldIs factors
IsSaid (said.Size n) entry = entry ≡ SizeIs n
IsSaid (said.Forbid item) entry = (named : MinorName) × (entry ≡ Forbids named) × IsNamed item named
IsSaid (said.Filter filter) entry = IsFilter filter entry
IsSaid (said.Equivalence mode) entry = entry ≡ EquivalenceIs mode
IsSaid (said.Print print) entry = entry ≡ Prints print
