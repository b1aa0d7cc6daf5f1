use Rattle.std.proofs.Common.{◌≤◌, length, sym, subst, arith}
use Rattle.matroid_theory.specs.Given.{ColumnsOver, IsGivenBy}
use Rattle.small_lists.specs.Lists.{lists}
use Rattle.named_matroids.proofs.GivenBases.{given_small, columns_given, rank_most}
use Rattle.named_matroids.proofs.columns.matroid_of.Goals as goal

pub overflow_cast-rank : goal.overflow_cast-rank
overflow_cast-rank c = let m : c.rank-rank.result ≤ length c.args.columns.now =
    rank_most c.args.field c.args.columns.now c.rank-rank.result c.rank-rank.ensures in omega arith

pub of-requires : goal.of-requires
of-requires c =
    given_small (ColumnsOver c.args.field (lists c.args.columns.now))
    (record { rank = c.rank-rank.result; size = length c.args.columns.now; bases = c.few_bases_of_columns-bases.result.items })
    (columns_given c.args.field c.args.columns.now c.rank-rank.result c.rank-rank.ensures c.few_bases_of_columns-bases.result.items
    c.few_bases_of_columns-bases.ensures) c.requires.some c.requires.few

pub returns : goal.returns
returns c =
    subst (IsGivenBy (ColumnsOver c.args.field (lists c.args.columns.now))) (sym c.of.ensures)
    (columns_given c.args.field c.args.columns.now c.rank-rank.result c.rank-rank.ensures c.few_bases_of_columns-bases.result.items
    c.few_bases_of_columns-bases.ensures)
