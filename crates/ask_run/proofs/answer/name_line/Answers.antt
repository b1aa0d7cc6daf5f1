use Rattle.std.proofs.Common.{◌≤◌, ◌-◌, ◌^◌, sym, subst}
use Rattle.std.specs.List.{Contains}
use Rattle.matroid_theory.specs.Minor.{Matroid}
use Rattle.matroid_theory.specs.Given.{IsGivenBy}
use Rattle.formats.specs.Statement.{minor_words}
use Rattle.formats.specs.Minors.{given_as}
use Rattle.named_matroids.specs.Names.{named_by}
use Rattle.ask_formats.specs.Places.{word_at}
use Rattle.ask_run.proofs.Overs.{name_alone, sought_rank, line_over}
use Rattle.ask_run.proofs.answer.name_line.Goals as goal

pub represent_minor-requires-clause-low : goal.represent_minor-requires-clause-low
represent_minor-requires-clause-low c =
    let both = sought_rank (named_by c.args.item.now.spelling) c.args.item.now.matroid c.requires c.laws.ensures.given in
    subst (λ (N : Matroid). 1 ≤ N.rank) (sym c.minor.ensures) both.0

pub represent_minor-requires-clause-high : goal.represent_minor-requires-clause-high
represent_minor-requires-clause-high c =
    let both = sought_rank (named_by c.args.item.now.spelling) c.args.item.now.matroid c.requires c.laws.ensures.given in
    subst (λ (N : Matroid). N.rank ≤ 6) (sym c.minor.ensures) both.1

pub represent_minor-requires-clause-first : goal.represent_minor-requires-clause-first
represent_minor-requires-clause-first c =
    let name = named_by c.args.item.now.spelling in
    subst (λ (N : Matroid). Contains N.bases (2 ^ N.rank - 1)) (sym c.minor.ensures)
    (c.named_matroids_begin_with_base.ensures name c.args.item.now.matroid (word_at (minor_words name) 0) c.requires.is_name
    (name_alone name c.requires) c.laws.ensures.given)

pub returns : goal.returns
returns c = (
  c.minor.result.now,
  subst (IsGivenBy (given_as (named_by c.args.item.now.spelling))) (sym c.minor.ensures) c.laws.ensures.given,
  line_over c.args.field c.minor.result.now c.represent_minor.result c.matrix_line.result.items
      c.represent_minor.ensures.found c.represent_minor.ensures.none c.matrix_line.ensures,
)
