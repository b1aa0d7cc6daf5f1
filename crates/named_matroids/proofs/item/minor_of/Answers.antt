use Rattle.std.proofs.Common.{◌≡◌, sym, subst, arith, refl, lit<, lit≤}
use Rattle.matroid_theory.specs.Minor.{Matroid}
use Rattle.matroid_theory.specs.Given.{ColumnsOver, DualOfColumns, IsGivenBy}
use Rattle.formats.specs.Statement.{IsMatrix}
use Rattle.formats.specs.Minors.{given_as, fano_columns}
use Rattle.named_matroids.specs.declared.spelling.Spelling.{Spelling}
use Rattle.named_matroids.specs.declared.spelling.Spelling.TheVariants.{Matrix}
use Rattle.named_matroids.specs.CodeMatrix.{CodeMatrix}
use Rattle.named_matroids.specs.Names.{named_by, IsSmallName}
use Rattle.named_matroids.specs.SmallMatroids.{IsDual}
use Rattle.named_matroids.proofs.ColumnLists.{named_matrix}
use Rattle.named_matroids.proofs.GivenBases.{given_small, dual_given}
use Rattle.named_matroids.proofs.item.minor_of.Goals as goal

pub matroid_of_table-requires-in-NonFano : goal.matroid_of_table-requires-in-NonFano
matroid_of_table-requires-in-NonFano c = (lit< tt, (record { listed = (1, lit< tt, refl) }, (lit≤ tt, (lit< tt, (lit≤ tt, refl)))))

-- what a small name says of a matrix
small_matrix : (spelling : Spelling) (text : CodeMatrix) → spelling ≡ Matrix text → IsSmallName (named_by spelling) → IsMatrix text.order text.columns
small_matrix spelling text is small = (subst (λ (s : Spelling). IsSmallName (named_by s)) is small).is_minor

pub matroid_over-requires-clause-columns : goal.matroid_over-requires-clause-columns
matroid_over-requires-clause-columns c =
    named_matrix c.order.result c.in-Matrix.text.order c.columns.result.now c.in-Matrix.text.columns c.order.ensures c.columns.ensures.columns
    (small_matrix c.args.spelling.now c.in-Matrix.text c.in-Matrix.is c.requires)

-- the dual of the Fano matroid
fano_dual : (N D : Matroid) → IsGivenBy (ColumnsOver 2 fano_columns) N → IsDual N D → IsGivenBy (DualOfColumns 2 fano_columns) D
fano_dual N D h d = let e : N.size ≡ 7 = h.sizes in dual_given N (given_small (ColumnsOver 2 fano_columns) N h (omega arith) (omega arith)) D d 2 fano_columns h

pub returns-in-FanoDual : goal.returns-in-FanoDual
returns-in-FanoDual c =
    subst (λ (s : Spelling). IsGivenBy (given_as (named_by s)) c.dual.result) (sym c.in-FanoDual.is)
    (fano_dual c.matroid_of_table-in-FanoDual.result c.dual.result c.matroid_of_table-in-FanoDual.ensures c.dual.ensures)
