use Rattle.std.proofs.Common.{◌≡◌, ◌<◌, ◌%◌, ◌+◌, ◌*◌, ◌≤◌, ℕ, List, length, slice_index, sym, ◌∙◌, ap, subst, arith}
use Rattle.matroid_theory.specs.Field.{times, IsOrder}
use Rattle.matroid_theory.specs.Rep.{count, order}
use Rattle.matrix_lemmas.proofs.FieldLaws.{field_laws}
use Rattle.canonical_form.proofs.Places.{by_place, field_at, code_at, some_factor, one_more_item}
use Rattle.canonical_form.proofs.scalars.products.Goals as goal

pub mul-requires-clause-a_code : goal.mul-requires-clause-a_code
mul-requires-clause-a_code c =
    let q : c.field.result ≡ order c.args.rep.now (c.loop-place.place % count c.args.rep.now) =
    field_at c.args.rep.now c.factors-factors.result c.field.result c.count-count.result c.loop-place.place
    c.factors-factors.ensures c.count-count.ensures.count c.field.ensures in
    let a : length c.args.scalars.now.items ≡ c.args.rep.now.rank * length c.args.rep.now.factors = c.requires.scalars.rows in
    let b : length c.args.column.now.items ≡ c.args.rep.now.rank * length c.args.rep.now.factors = c.requires.column.rows in
    let t : c.loop-place.place < c.len-place-end.result = c.loop-place-test.true in
    let e : c.len-place-end.result ≡ length c.args.column.now.items = c.len-place-end.ensures.value in
    subst (λ (w : List ℕ). slice_index w c.loop-place.place < c.field.result) (sym c.deref.ensures.0)
    (subst (λ (x : ℕ). slice_index c.args.scalars.now.items c.loop-place.place < x) (sym q)
    (code_at c.args.rep.now c.args.scalars.now.items
    (some_factor c.args.rep.now c.factors-factors.result c.factors-factors.ensures c.count-count.ensures.are_factors.some)
    c.requires.scalars c.loop-place.place (omega arith)))

pub mul-requires-clause-b_code : goal.mul-requires-clause-b_code
mul-requires-clause-b_code c =
    let q : c.field.result ≡ order c.args.rep.now (c.loop-place.place % count c.args.rep.now) =
    field_at c.args.rep.now c.factors-factors.result c.field.result c.count-count.result c.loop-place.place
    c.factors-factors.ensures c.count-count.ensures.count c.field.ensures in
    let t : c.loop-place.place < c.len-place-end.result = c.loop-place-test.true in
    let e : c.len-place-end.result ≡ length c.args.column.now.items = c.len-place-end.ensures.value in
    subst (λ (w : List ℕ). slice_index w c.loop-place.place < c.field.result) (sym c.deref-in-loop-place.ensures.0)
    (subst (λ (x : ℕ). slice_index c.args.column.now.items c.loop-place.place < x) (sym q)
    (code_at c.args.rep.now c.args.column.now.items
    (some_factor c.args.rep.now c.factors-factors.result c.factors-factors.ensures c.count-count.ensures.are_factors.some)
    c.requires.column c.loop-place.place (omega arith)))

pub loop-place-preserved : goal.loop-place-preserved
loop-place-preserved c = record {
  rows = c.push.ensures.len ∙ ap (λ (n : ℕ). n + 1) c.loop-place.invariant.rows;
  products = one_more_item
      (λ k x. x ≡ times (order c.args.rep.now (k % count c.args.rep.now)) (slice_index c.args.scalars.now.items k)
      (slice_index c.args.column.now.items k)) c.loop-place.codes.items _ _ 0 c.loop-place.place c.loop-place.invariant.rows
      c.push.ensures.items c.loop-place.invariant.products
      (c.mul.ensures.product
      ∙ (λ u. times (field_at c.args.rep.now c.factors-factors.result c.field.result c.count-count.result c.loop-place.place
      c.factors-factors.ensures c.count-count.ensures.count c.field.ensures u)
      (slice_index (c.deref.ensures.0 u) c.loop-place.place) (slice_index (c.deref-in-loop-place.ensures.0 u) c.loop-place.place)));
}

pub returns-clause-products : goal.returns-clause-products
returns-clause-products c =
    let e : c.len-place-end.result ≡ length c.args.column.now.items = c.len-place-end.ensures.value in
    let b : length c.args.column.now.items ≡ c.args.rep.now.rank * length c.args.rep.now.factors = c.requires.column.rows in
    let g : c.len-place-end.result ≤ c.loop-place.place = c.loop-place-test.false in
    by_place (λ f i k. slice_index c.loop-place.codes.items k ≡ times (order c.args.rep.now f)
    (slice_index c.args.scalars.now.items k) (slice_index c.args.column.now.items k)) c.args.rep.now.rank
    (count c.args.rep.now) c.loop-place.place (omega arith) c.loop-place.invariant.products

pub returns-clause-column : goal.returns-clause-column
returns-clause-column c = record {
  rows = (let e : c.len-place-end.result ≡ length c.args.column.now.items = c.len-place-end.ensures.value in
      let b : length c.args.column.now.items ≡ c.args.rep.now.rank * length c.args.rep.now.factors = c.requires.column.rows in
      let g : c.len-place-end.result ≤ c.loop-place.place = c.loop-place-test.false in
      let m : c.loop-place.place ≤ c.len-place-end.result = c.loop-place.auto.place-end in
      let r : length c.loop-place.codes.items ≡ c.loop-place.place = c.loop-place.invariant.rows in omega arith);
  codes = λ i f l m. subst (λ (x : ℕ). x < order c.args.rep.now f) (sym (returns-clause-products c i f l m))
      ((field_laws (order c.args.rep.now f)
      (subst (λ (fs : List ℕ). IsOrder (slice_index fs f)) c.factors-factors.ensures
      (c.count-count.ensures.are_factors.fields f
      (subst (λ (fs : List ℕ). f < length fs) (sym c.factors-factors.ensures) m)))).times_below _ _);
}
