use Rattle.std.proofs.Common.{◌≡◌, ℕ, List, length, slice_index, sym, ◌∙◌, ap, arith, refl, eqb-true, eq-eqb}
use Rattle.matroid_theory.specs.Rep.{size, count, order, matrix}
use Rattle.matroid_theory.specs.Level.{followed_by}
use Rattle.elimination.specs.Columns.{column}
use Rattle.extension.specs.Planes.{product}
use Rattle.extension.proofs.Followers.{rep_followed}
use Rattle.extension.proofs.PlaneLemmas.{last_below, read_column, CanMultiply, multiplies}
use Rattle.extension.proofs.agreement.lies_on.Goals as goal
use Rattle.extension.proofs.agreement.lies_on.Goals.{After-as_slice-2}

-- the normal and the part, as they are read
read : (c : After-as_slice-2) → CanMultiply c.field.result c.as_slice.result.now c.as_slice-2.result.now
    (product (order c.args.rep.now c.args.factor) c.args.rep.now.rank (column c.args.plane.now.normals.items c.args.factor)
    (matrix (followed_by c.args.rep.now c.args.new.now.items) c.args.factor) (size c.args.rep.now))
read c =
    let n = c.requires.plane in
    let l = c.requires.factor in
    multiplies (followed_by c.args.rep.now c.args.new.now.items)
    (rep_followed c.args.rep.now c.args.new.now.items c.requires.is_rep c.requires.room c.requires.column)
    c.args.factor (size c.args.rep.now) c.requires.factor (last_below c.args.rep.now c.args.new.now.items)
    c.field.result (c.field.ensures ∙ ap (λ (fs : List ℕ). slice_index fs c.args.factor) c.requires.factors)
    c.as_slice-2.result.now (read_column c.args.parts.now c.args.parts.now refl c.args.factor
    (let e : length c.args.parts.now ≡ count c.args.rep.now = c.requires.count in omega arith)
    c.index-parts-factor.result c.index-parts-factor.is c.as_slice-2.result.now c.as_slice-2.ensures.value ∙ c.requires.part)
    (column c.args.plane.now.normals.items c.args.factor) (let k = n.normals c.args.factor c.requires.factor in k.codes)
    c.as_slice.result.now (read_column c.args.plane.now.normals.items c.deref.result.now c.deref.ensures.0 c.args.factor
    (let e : length c.args.plane.now.normals.items ≡ count c.args.rep.now = n.count in omega arith)
    c.index-deref-factor.result c.index-deref-factor.is c.as_slice.result.now c.as_slice.ensures.value)

pub sum_of_products-requires : goal.sum_of_products-requires
sum_of_products-requires c =
    let r = read ((goal.at.sum_of_products-requires c).After-as_slice-2) in record { count = r.rows; left_codes = r.row_codes; right_codes = r.part_codes }

pub returns : goal.returns
returns c =
    let r = read ((goal.at.returns c).After-as_slice-2) in (
      (λ t. sym (c.sum_of_products.ensures.sum ∙ r.sum_is) ∙ eqb-true c.sum_of_products.result 0 t),
      (λ z. eq-eqb c.sum_of_products.result 0 (c.sum_of_products.ensures.sum ∙ r.sum_is ∙ z)),
    )
