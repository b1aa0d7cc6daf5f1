use Rattle.std.proofs.Common.{◌≡◌, ℕ, ◌<◌, sym, ◌∙◌, ap, subst, arith, List, ◌∷◌, [], length, length-append, slice_index}
use Rattle.matroid_theory.specs.Field.{IsFactors}
use Rattle.ask_formats.specs.Places.{AreReadAsFactors}
use Rattle.ask_formats.proofs.Readings.{same_count}
use Rattle.ask_run.specs.Texts.{texts_of}
use Rattle.ask_run.proofs.Orders.{one_more, are_factors, read_factors, found_factors}
use Rattle.ask_run.proofs.field.factors_in.Goals as goal

pub returns-in_err-order_of : goal.returns-in_err-order_of
returns-in_err-order_of c = rw c.from_residual.ensures (λ orders is read.
    let n : length orders ≡ c.order_count-count.result = same_count (texts_of c.args.words.now)
    (length orders) c.order_count-count.result read.count c.order_count-count.ensures in
    let l : c.loop-factor.factor < length orders = omega (arith, n, c.loop-factor-test.true) in
    c.in_err-order_of.ensures (slice_index orders c.loop-factor.factor) (is.fields c.loop-factor.factor l)
    (c.text_at.ensures ∙ read.spelled c.loop-factor.factor l))

pub loop-factor-preserved : goal.loop-factor-preserved
loop-factor-preserved c =
    let xs = c.loop-factor.orders.items in
    let h = c.loop-factor.invariant in
    record {
      long = omega (arith, ap (λ (ys : List ℕ). length ys) c.push.ensures.items, length-append xs (c.in_ok-order_of.field-0 ∷ []), h.long);
      few = h.few;
      spelled = one_more (texts_of c.args.words.now) xs c.push.new.self.items c.in_ok-order_of.field-0 c.loop-factor.factor h.spelled h.long
          c.in_ok-order_of.ensures.0 (sym c.text_at.ensures ∙ c.in_ok-order_of.ensures.1) c.push.ensures.items;
    }

pub returns : goal.returns
returns c =
    let words = texts_of c.args.words.now in
    let xs = c.loop-factor.orders.items in
    let h = c.loop-factor.invariant in
    let n : length xs ≡ c.order_count-count.result = omega (arith, h.long, c.loop-factor-test.false, c.loop-factor.auto.factor-end) in
    found_factors words _ c.of.result c.as_slice.result.now _ c.of.ensures.found.1 c.of.ensures.orders
    (subst IsFactors (sym c.as_slice.ensures.value) (are_factors words xs c.order_count-count.result h.spelled n c.order_count-count.ensures))
    (subst (AreReadAsFactors words) (sym c.as_slice.ensures.value) (read_factors words xs c.order_count-count.result h.spelled n c.order_count-count.ensures))
