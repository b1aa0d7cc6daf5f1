use Rattle.std.proofs.Common.{◌≡◌, ◌<◌, ◌%◌, ◌+◌, ◌*◌, ◌≤◌, ℕ, List, length, slice_index, sym, ◌∙◌, ap, subst, arith}
use Rattle.matroid_theory.specs.Field.{times}
use Rattle.matroid_theory.specs.Rep.{count, order}
use Rattle.canonical_form.proofs.Leads.{AreScales, more_scales, scaled_is}
use Rattle.canonical_form.proofs.Places.{by_place, field_at, code_at, some_factor, one_more_item, order_at, count_at}
use Rattle.canonical_form.proofs.scalars.scaled.Goals as goal

pub loop-factor-preserved : goal.loop-factor-preserved
loop-factor-preserved c =
    more_scales c.args.rep.now c.loop-factor.factor c.scale.result c.products-products.result.items c.loop-factor.scales.items
    c.push.new.self.items c.loop-factor.invariant c.push.ensures.items c.scale.ensures.code c.scale.ensures.nonzero c.scale.ensures.leads

pub mul-requires-clause-b_code : goal.mul-requires-clause-b_code
mul-requires-clause-b_code c =
    let q : c.field.result ≡ order c.args.rep.now (c.loop-place.place % count c.args.rep.now) =
    field_at c.args.rep.now c.factors-factors.result c.field.result c.count-count.result c.loop-place.place
    c.factors-factors.ensures c.count-count.ensures.count c.field.ensures in
    let t : c.loop-place.place < c.len-place-end.result = c.loop-place-test.true in
    let e : c.len-place-end.result ≡ length c.products-products.result.items = c.len-place-end.ensures.value in
    subst (λ (w : List ℕ). slice_index w c.loop-place.place < c.field.result) (sym c.deref-in-loop-place.ensures.0)
    (subst (λ (x : ℕ). slice_index c.products-products.result.items c.loop-place.place < x) (sym q)
    (code_at c.args.rep.now c.products-products.result.items
    (some_factor c.args.rep.now c.factors-factors.result c.factors-factors.ensures c.count-count.ensures.are_factors.some)
    c.products-products.ensures.column c.loop-place.place (omega arith)))

pub loop-place-preserved : goal.loop-place-preserved
loop-place-preserved c = record {
  rows = c.push-in-loop-place.ensures.len ∙ ap (λ (n : ℕ). n + 1) c.loop-place.invariant.rows;
  products = one_more_item
      (λ k x. x ≡ times (order c.args.rep.now (k % count c.args.rep.now))
      (slice_index c.loop-factor.scales.items (k % count c.args.rep.now)) (slice_index c.products-products.result.items k))
      c.loop-place.codes.items _ _ 0 c.loop-place.place c.loop-place.invariant.rows c.push-in-loop-place.ensures.items
      c.loop-place.invariant.products
      (c.mul.ensures.product
      ∙ (λ u. times (field_at c.args.rep.now c.factors-factors.result c.field.result c.count-count.result c.loop-place.place
      c.factors-factors.ensures c.count-count.ensures.count c.field.ensures u)
      (slice_index (c.deref.ensures.0 u)
      (c.loop-place.place % count_at c.args.rep.now c.factors-factors.result c.count-count.result c.factors-factors.ensures
      c.count-count.ensures.count u))
      (slice_index (c.deref-in-loop-place.ensures.0 u) c.loop-place.place)));
}

pub returns : goal.returns
returns c =
    let e : c.len-place-end.result ≡ length c.products-products.result.items = c.len-place-end.ensures.value in
    let b : length c.products-products.result.items ≡ c.args.rep.now.rank * length c.args.rep.now.factors = c.products-products.ensures.column.rows in
    let g : c.len-place-end.result ≤ c.loop-place.place = c.loop-place-test.false in
    let m : c.loop-place.place ≤ c.len-place-end.result = c.loop-place.auto.place-end in
    let r : length c.loop-place.codes.items ≡ c.loop-place.place = c.loop-place.invariant.rows in
    let n : c.count-count.result ≡ count c.args.rep.now =
    count_at c.args.rep.now c.factors-factors.result c.count-count.result c.factors-factors.ensures c.count-count.ensures.count in
    let g' : c.count-count.result ≤ c.loop-factor.factor = c.loop-factor-test.false in
    let m' : c.loop-factor.factor ≤ c.count-count.result = c.loop-factor.auto.factor-end in
    let f : c.loop-factor.factor ≡ count c.args.rep.now = omega arith in
    scaled_is c.args.rep.now c.args.scalars.now.items c.args.column.now.items c.products-products.result.items
    c.loop-factor.scales.items c.loop-place.codes.items
    (λ f l. order_at c.args.rep.now c.factors-factors.result f c.factors-factors.ensures c.count-count.ensures.are_factors l)
    (record { column = c.products-products.ensures.column; entries = c.products-products.ensures.products })
    (subst (λ (x : ℕ). AreScales c.args.rep.now x c.products-products.result.items c.loop-factor.scales.items) f c.loop-factor.invariant)
    (omega arith)
    (by_place (λ f i k. slice_index c.loop-place.codes.items k ≡ times (order c.args.rep.now f)
    (slice_index c.loop-factor.scales.items f) (slice_index c.products-products.result.items k)) c.args.rep.now.rank
    (count c.args.rep.now) c.loop-place.place (omega arith) c.loop-place.invariant.products)
