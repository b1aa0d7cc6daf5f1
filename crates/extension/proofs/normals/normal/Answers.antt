use Rattle.std.proofs.Common.{◌≡◌, ◌<◌, ◌≤◌, ℕ, List, slice_index, subst, sym, ◌∙◌, ap, arith}
use Rattle.matroid_theory.specs.Rep.{size}
use Rattle.elimination.specs.Columns.{IsColumn}
use Rattle.extension.proofs.Parallel.{column_is}
use Rattle.extension.proofs.PlaneLemmas.{columns_pushed}
use Rattle.extension.proofs.normals.normal.Goals as goal

pub loop-j-preserved : goal.loop-j-preserved
loop-j-preserved c = record {
  count = omega arith;
  rows = columns_pushed c.field-field.result c.args.rep.now.rank c.loop-j.rows.items _ c.factor_column.result c.push.ensures.items c.loop-j.invariant.rows
      (column_is c.args.rep.now c.laws.ensures c.args.factor c.loop-j.j c.requires.factor
      (let r : c.args.rep.now.rank ≤ size c.args.rep.now = c.requires.standard.room in
      let e : c.rank-j-end.result ≡ c.args.rep.now.rank = c.rank-j-end.ensures in
      let t : c.loop-j.j < c.rank-j-end.result = c.loop-j-test.true in omega arith) c.field-field.result
      (c.field-field.ensures ∙ ap (λ (fs : List ℕ). slice_index fs c.args.factor) c.factors.ensures) c.factor_column.result.items c.factor_column.ensures);
}

pub made_zero-rows-requires-clause-column : goal.made_zero-rows-requires-clause-column
made_zero-rows-requires-clause-column c =
    subst (λ (r : ℕ). IsColumn c.field-field.result r c.factor_column-then-in_set.result.items) (sym c.rank.ensures)
    (column_is c.args.rep.now c.laws.ensures c.args.factor c.loop-j-2.j c.requires.factor
    (let e : c.size-j-end.result ≡ size c.args.rep.now = c.size-j-end.ensures.value in omega arith) c.field-field.result
    (c.field-field.ensures ∙ ap (λ (fs : List ℕ). slice_index fs c.args.factor) c.factors.ensures)
    c.factor_column-then-in_set.result.items c.factor_column-then-in_set.ensures)
