use Rattle.std.proofs.Common.{◌≡◌, ◌+◌, ◌*◌, zero, sym, ◌∙◌, ap, subst, arith, slice_index}
use Rattle.matroid_theory.specs.Field.{times, IsOrder}
use Rattle.matroid_theory.specs.Rep.{order}
use Rattle.matrix_lemmas.proofs.FieldLaws.{field_laws}
use Rattle.matrix_lemmas.proofs.Sums.{times_zero}
use Rattle.canonical_form.proofs.Leads.{leads_by_first}
use Rattle.canonical_form.proofs.Places.{order_at, order_of, count_at}
use Rattle.canonical_form.proofs.scalars.scale.Goals as goal

pub returns-then-code-ne0-clause-nonzero : goal.returns-then-code-ne0-clause-nonzero
returns-then-code-ne0-clause-nonzero c z =
    let q : c.field-field.result ≡ order c.args.rep.now c.args.factor =
    order_of c.args.rep.now c.factors-factors.result c.field-field.result c.args.factor c.factors-factors.ensures c.field-field.ensures in
    let o : IsOrder c.field-field.result =
    subst IsOrder (sym q) (order_at c.args.rep.now c.factors-factors.result c.args.factor c.factors-factors.ensures
    c.count.ensures.are_factors c.requires.factor) in
    let e : 1 ≡ zero = sym c.inv.ensures.one
    ∙ ap (times c.field-field.result (slice_index c.deref.result.now (c.loop-i.i * c.count.result + c.args.factor))) z
    ∙ times_zero c.field-field.result (field_laws c.field-field.result o) _ in
    absurd (omega arith)

pub returns-then-code-ne0-clause-leads : goal.returns-then-code-ne0-clause-leads
returns-then-code-ne0-clause-leads c =
    leads_by_first c.args.rep.now c.args.column.now.items c.args.factor c.loop-i.i c.field-field.result c.inv.result
    (slice_index c.deref.result.now (c.loop-i.i * c.count.result + c.args.factor))
    (order_at c.args.rep.now c.factors-factors.result c.args.factor c.factors-factors.ensures c.count.ensures.are_factors c.requires.factor)
    (order_of c.args.rep.now c.factors-factors.result c.field-field.result c.args.factor c.factors-factors.ensures c.field-field.ensures)
    (λ u. slice_index (c.deref.ensures.0 u)
    (c.loop-i.i * count_at c.args.rep.now c.factors-factors.result c.count.result c.factors-factors.ensures c.count.ensures.count
    u + c.args.factor))
    c.if-code-ne0.true c.loop-i.invariant c.inv.ensures.one
