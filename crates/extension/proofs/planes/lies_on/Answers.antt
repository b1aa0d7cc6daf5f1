use Rattle.std.proofs.Common.{◌≡◌, ◌<◌, ℕ, List, length, slice_index, sym, ◌∙◌, ap, arith, refl}
use Rattle.matroid_theory.specs.Rep.{count, order, matrix}
use Rattle.matroid_laws.proofs.Agreement.{one_more}
use Rattle.elimination.specs.Columns.{column}
use Rattle.extension.specs.Planes.{product, LiesOnIn}
use Rattle.extension.proofs.PlaneLemmas.{read_column, CanMultiply, multiplies}
use Rattle.extension.proofs.planes.lies_on.Goals as goal
use Rattle.extension.proofs.planes.lies_on.Goals.{After-as_slice-in-loop-factor}

-- the normal and the column of a factor, as they are read
read : (c : After-as_slice-in-loop-factor) → CanMultiply c.field.result c.as_slice.result.now c.as_slice-in-loop-factor.result.now
    (product (order c.args.rep.now c.loop-factor.factor) c.args.rep.now.rank (column c.args.normals.now c.loop-factor.factor)
    (matrix c.args.rep.now c.loop-factor.factor) c.args.j)
read c =
    let n : c.count-factor-end.result ≡ count c.args.rep.now = c.count-factor-end.ensures.count ∙ ap (λ (fs : List ℕ). length fs) c.factors-factors.ensures in
    let e : length c.args.normals.now ≡ count c.args.rep.now = c.requires.count in
    let l : c.loop-factor.factor < count c.args.rep.now = omega arith in
    multiplies c.args.rep.now c.laws.ensures c.loop-factor.factor c.args.j l c.requires.column
    c.field.result (c.field.ensures ∙ ap (λ (fs : List ℕ). slice_index fs c.loop-factor.factor) c.factors-factors.ensures)
    c.as_slice-in-loop-factor.result.now (c.as_slice-in-loop-factor.ensures.value ∙ c.factor_column-part.ensures)
    (column c.args.normals.now c.loop-factor.factor) (c.requires.normals c.loop-factor.factor l)
    c.as_slice.result.now (read_column c.args.normals.now c.args.normals.now refl c.loop-factor.factor (omega arith)
    c.index-normals-factor.result c.index-normals-factor.is c.as_slice.result.now c.as_slice.ensures.value)

pub sum_of_products-requires : goal.sum_of_products-requires
sum_of_products-requires c =
    let r = read ((goal.at.sum_of_products-requires c).After-as_slice-in-loop-factor) in
    record { count = r.rows; left_codes = r.row_codes; right_codes = r.part_codes }

pub loop-factor-preserved : goal.loop-factor-preserved
loop-factor-preserved c =
    let r = read ((goal.at.loop-factor-preserved c).After-as_slice-in-loop-factor) in
    one_more c.loop-factor.factor (LiesOnIn c.args.rep.now c.args.normals.now c.args.j) c.loop-factor.invariant
    (sym (c.sum_of_products.ensures.sum ∙ r.sum_is) ∙ c.if-sum_of_products-ne0.false)
