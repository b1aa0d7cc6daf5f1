use Rattle.std.proofs.Common.{◌∙◌}
use Rattle.small_lists.proofs.Orders.{lists_cmp}
use Rattle.canonical_form.specs.Search.{columns_cmp}
use Rattle.canonical_form.proofs.columns.ColumnList.compare.Goals as goal

pub returns : goal.returns
returns c =
    c.cmp.ensures
    ∙ lists_cmp c.self.inside.columns.items c.other.inside.columns.items
    ∙ (λ u. columns_cmp (c.self.view_is u) (c.other.view_is u))
