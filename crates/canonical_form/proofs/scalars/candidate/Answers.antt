use Rattle.std.proofs.Common.{◌≡◌, ◌<◌, ◌+◌, ℕ, List, [], length, length-append, slice_index_or, sym, ◌∙◌, ap, subst, arith}
use Rattle.matroid_theory.specs.Rep.{IsProductColumn}
use Rattle.canonical_form.specs.Search.{IsScaled}
use Rattle.canonical_form.proofs.Picks.{list_item, lists_length}
use Rattle.canonical_form.proofs.Places.{one_more_item}
use Rattle.canonical_form.proofs.scalars.candidate.Goals as goal

pub scaled-requires-clause-column : goal.scaled-requires-clause-column
scaled-requires-clause-column c =
    let n : length c.as_slice-column-items.result.now ≡ length c.args.frame.now.coordinates =
    lists_length c.as_slice-column-items.result.now c.args.frame.now.coordinates c.as_slice-column-items.ensures.columns in
    let k : length c.args.frame.now.coordinates ≡ length c.requires.coordinates.others = c.requires.coordinates.count_is in
    let t : c.loop-column.column-index < length c.as_slice-column-items.result.now = c.loop-column-test.true in
    let e = c.requires.coordinates.each c.loop-column.column-index (omega arith) in
    subst (IsProductColumn c.args.rep.now.factors c.args.rep.now.rank)
    (list_item c.as_slice-column-items.result.now c.args.frame.now.coordinates c.loop-column.column-index c.column-item.result
    c.as_slice-column-items.ensures.columns t c.column-item.is) e.column

pub loop-column-preserved : goal.loop-column-preserved
loop-column-preserved c = record {
  count = ap (λ (w : List (List ℕ)). length w) c.push.ensures ∙ length-append c.loop-column.columns _ ∙ ap (λ (n : ℕ). n + 1) c.loop-column.invariant.count;
  each = one_more_item (λ t x. IsScaled c.args.rep.now c.args.scalars.now.items
      (slice_index_or c.args.frame.now.coordinates t []) x) c.loop-column.columns _ _ [] c.loop-column.column-index
      c.loop-column.invariant.count c.push.ensures c.loop-column.invariant.each
      (subst (λ (w : List ℕ). IsScaled c.args.rep.now c.args.scalars.now.items w c.scaled.result.items)
      (sym (list_item c.as_slice-column-items.result.now c.args.frame.now.coordinates c.loop-column.column-index
      c.column-item.result c.as_slice-column-items.ensures.columns c.loop-column-test.true c.column-item.is)) c.scaled.ensures);
}
