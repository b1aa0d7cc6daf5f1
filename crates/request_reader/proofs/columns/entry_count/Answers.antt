use Rattle.std.proofs.Common.{◌≡◌, ◌∙◌, ◌≤◌, ◌-◌, ◌*◌, ℕ, sym, ap, arith}
use Rattle.std.specs.Prelude.{slice_index}
use Rattle.request_reader.proofs.ColumnCounts.{product_more, order_range, entries_few, twelve_more}
use Rattle.request_reader.proofs.columns.entry_count.Goals as goal

pub loop-i-preserved : goal.loop-i-preserved
loop-i-preserved c =
    let factor : c.from-entries.result ≡ slice_index c.args.factors.now c.loop-i.i - 1 = c.from-entries.ensures
    ∙ ap (λ (q : ℕ). q - 1) (c.order.ensures.order ∙ c.field.ensures) in
    let few : c.from-entries.result ≤ 12 = omega (arith, (order_range c.order.result c.order.ensures.is_order).1, c.from-entries.ensures) in
    record {
      value = (λ t. c.loop-i.invariant.value t * factor t)
          ∙ sym (product_more c.args.factors.now c.loop-i.i (omega (arith, c.count-i-end.ensures.count, c.loop-i-test.true)));
      few = twelve_more c.loop-i.entries c.from-entries.result c.loop-i.i c.loop-i.invariant.few few;
    }

pub returns-clause-few : goal.returns-clause-few
returns-clause-few c = entries_few c.loop-i.entries c.loop-i.i c.loop-i.invariant.few (let few = c.count-i-end.ensures.are_factors.few in omega arith)
