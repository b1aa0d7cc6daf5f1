use Rattle.std.proofs.Common.{◌≡◌, ℕ, List, true, sym, ◌∙◌, ap, subst}
use Rattle.small_lists.specs.Lists.{lists}
use Rattle.named_matroids.specs.Listed.{are_codes}
use Rattle.named_matroids.proofs.ColumnLists.{tested_columns}
use Rattle.named_matroids.proofs.tables.matroid_of_table.Goals as goal

pub matroid_over-requires-clause-columns : goal.matroid_over-requires-clause-columns
matroid_over-requires-clause-columns g c =
    tested_columns c.args.order g.row.N c.as_slice.result.now
    (subst (λ (x : List (List ℕ)). are_codes c.args.order g.row.N x ≡ true)
    (sym (ap lists c.as_slice.ensures.value ∙ c.columns_of-columns.ensures)) c.requires.codes)
