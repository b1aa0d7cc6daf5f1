use Rattle.std.proofs.Common.{◌≡◌, ◌∙◌, ap, sym, length, slice_index}
use Rattle.matroid_theory.specs.Field.{plus, times, negative, inverse}
use Rattle.matroid_theory.specs.Matrix.{sum_below}
use Rattle.elimination.specs.Equations.{sum_of_products}
use Rattle.elimination.proofs.Coefficients.{next_value}
use Rattle.elimination.proofs.solutions.value.Goals as goal

-- the sum of the known products, the rest of the side, and the inverse of the last coefficient
known : (c : goal.After-mul) →
    c.sum_of_products-known.result ≡ sum_of_products c.args.field (length c.args.values.now.items) c.args.equation.now.items
    (slice_index c.args.values.now.items)
known c =
    c.sum_of_products-known.ensures.sum
    ∙ (λ u. sum_below c.args.field (length (c.as_slice-2.ensures.value u))
    (λ j. times c.args.field (slice_index (c.as_slice.ensures.value u) j) (slice_index (c.as_slice-2.ensures.value u) j)))

rest : (c : goal.After-mul) → c.add-rest.result ≡ plus c.args.field c.args.side (negative c.args.field c.sum_of_products-known.result)
rest c = c.add-rest.ensures.sum ∙ ap (plus c.args.field c.args.side) c.neg.ensures.negative

last : (c : goal.After-mul) → c.inv.result ≡ inverse c.args.field (slice_index c.args.equation.now.items (length c.args.values.now.items))
last c = c.inv.ensures.inverse ∙ (λ u. inverse c.args.field (slice_index (c.deref.ensures.0 u) (c.len.ensures.value u)))

result : (c : goal.After-mul) → c.mul.result ≡
    times c.args.field (plus c.args.field c.args.side
    (negative c.args.field (sum_of_products c.args.field (length c.args.values.now.items) c.args.equation.now.items
    (slice_index c.args.values.now.items))))
    (inverse c.args.field (slice_index c.args.equation.now.items (length c.args.values.now.items)))
result c = c.mul.ensures.product
    ∙ (λ u. times c.args.field ((rest c ∙ ap (λ s. plus c.args.field c.args.side (negative c.args.field s)) (known c)) u) (last c u))

pub returns-clause-only : goal.returns-clause-only
returns-clause-only c = λ a known l e. next_value c.args.field c.laws.ensures c.args.values.now.items c.args.equation.now.items
    c.args.side c.requires.equation a known l e ∙ sym (result c)
