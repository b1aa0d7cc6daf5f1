use Rattle.std.proofs.Common.{sym, ◌∙◌, ap}
use Rattle.std.specs.Cmp.Lexicographic.{slice_cmp}
use Rattle.std.specs.Ordering.{nat_cmp}
use Rattle.matroid_theory.specs.Rep.{shape}
use Rattle.matroid_theory.specs.Order.{rep_cmp}
use Rattle.product_rep.proofs.OrderLemmas.{compare-matrices}
use Rattle.product_rep.proofs.rep.compare.Goals as goal

pub returns : goal.returns
returns c =
    c.cmp.ensures
    ∙ (λ i. slice_cmp nat_cmp (c.as_slice.ensures.value i) (c.as_slice-2.ensures.value i))
    ∙ compare-matrices c.a.inside c.b.inside c.a.invariant c.b.invariant (ap shape c.a.view_is ∙ c.requires ∙ sym (ap shape c.b.view_is))
    ∙ (λ i. rep_cmp (c.a.view_is i) (c.b.view_is i))
