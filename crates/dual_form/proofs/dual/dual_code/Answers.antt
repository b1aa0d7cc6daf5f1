use Rattle.std.proofs.Common.{ℕ, ◌+◌, ◌<◌, sym, ◌∙◌, ap, arith, cond, List, slice_index}
use Rattle.std.proofs.lemmas.Bool.{lt-ltb}
use Rattle.matroid_theory.specs.Field.{negative}
use Rattle.matroid_theory.specs.Matrix.{unit}
use Rattle.matroid_theory.specs.Rep.{order, matrix}
use Rattle.product_rep.proofs.MoveLemmas.{column-entry, column-length, column_codes}
use Rattle.dual_form.proofs.dual.dual_code.Goals as goal

pub bounds-deref-j : goal.bounds-deref-j
bounds-deref-j c =
    let M = c.args.rep.now in
    let e = c.deref.ensures.0 ∙ c.factor_column.ensures in
    let n = column-length M c.args.factor (c.rank-rank.result + c.args.i) c.deref.result.now e in
    omega (arith, n, c.if-j-rank.false, c.rank-rank.ensures)

pub neg-requires : goal.neg-requires
neg-requires c =
    let M = c.args.rep.now in
    let e = c.deref.ensures.0 ∙ c.factor_column.ensures in
    column_codes M c.args.factor (c.rank-rank.result + c.args.i) c.args.j c.field.result c.deref.result.now c.requires.limits e
    (c.field.ensures ∙ ap (λ (fs : List ℕ). slice_index fs c.args.factor) c.factors.ensures) c.requires.factor
    (omega (arith, c.if-j-rank.false, c.rank-rank.ensures)) (omega (arith, c.rank-rank.ensures, c.requires.row))

pub returns : goal.returns
returns c =
    let M = c.args.rep.now in
    let e = c.deref.ensures.0 ∙ c.factor_column.ensures in
    let l : c.args.j < M.rank = omega (arith, c.if-j-rank.false, c.rank-rank.ensures) in
    c.neg.ensures.negative
    ∙ (λ t. negative ((c.field.ensures ∙ ap (λ (fs : List ℕ). slice_index fs c.args.factor) c.factors.ensures) t)
    (column-entry M c.args.factor (c.rank-rank.result + c.args.i) c.args.j c.deref.result.now e l t))
    ∙ ap (λ (r : ℕ). negative (order M c.args.factor) (matrix M c.args.factor c.args.j (r + c.args.i))) c.rank-rank.ensures
    ∙ sym (ap (λ b. cond b (negative (order M c.args.factor) (matrix M c.args.factor c.args.j (M.rank + c.args.i)))
    (unit (M.rank + c.args.i) c.args.j)) (lt-ltb c.args.j M.rank l))
