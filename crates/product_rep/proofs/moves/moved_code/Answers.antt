use Rattle.std.proofs.Common.{◌≡◌, ◌<◌, ℕ, map, sym, ◌∙◌, ap, subst, arith, length, slice_index}
use Rattle.matroid_theory.specs.Field.{raised}
use Rattle.matroid_theory.specs.Rep.{Shape, column_of}
use Rattle.product_rep.proofs.MoveLemmas.{column-length, column_codes, raised-length, raised_codes, label_below, code-moved}
use Rattle.product_rep.proofs.moves.moved_code.Goals as goal

pub raised_column-column-requires : goal.raised_column-column-requires
raised_column-column-requires c = λ k l.
    column_codes c.args.rep.now c.args.factor c.label.result k c.field-field.result c.factor_column-from.result.items
    c.requires.is_rep c.factor_column-from.ensures
    (c.field-field.ensures ∙ ap (λ (S : Shape). slice_index S.factors c.args.factor) c.requires.shape) c.requires.factor
    (subst (λ (n : ℕ). k < n) (column-length c.args.rep.now c.args.factor c.label.result c.factor_column-from.result.items c.factor_column-from.ensures) l)
    (label_below c.args.rep.now c.args.step.now c.args.j c.label.result c.requires.valid c.requires.column c.label.ensures)

pub sum_of_products-code-requires-clause-count : goal.sum_of_products-code-requires-clause-count
sum_of_products-code-requires-clause-count c =
    let r : length c.row.result.now ≡ c.args.rep.now.rank = c.row.ensures.length ∙ ap (λ (S : Shape). S.rank) c.requires.shape in
    let e : c.as_slice.result.now ≡ map (raised c.field-field.result c.power.result) (column_of c.args.rep.now c.args.factor c.label.result) =
    c.as_slice.ensures.value ∙ c.raised_column-column.ensures ∙ ap (map (raised c.field-field.result c.power.result)) c.factor_column-from.ensures in
    let n : length c.as_slice.result.now ≡ c.args.rep.now.rank =
    raised-length c.args.rep.now c.args.factor c.label.result c.field-field.result c.power.result c.as_slice.result.now e in
    omega arith

pub sum_of_products-code-requires-clause-right_codes : goal.sum_of_products-code-requires-clause-right_codes
sum_of_products-code-requires-clause-right_codes c = λ k l.
    let e : c.as_slice.result.now ≡ map (raised c.field-field.result c.power.result) (column_of c.args.rep.now c.args.factor c.label.result) =
    c.as_slice.ensures.value ∙ c.raised_column-column.ensures ∙ ap (map (raised c.field-field.result c.power.result)) c.factor_column-from.ensures in
    raised_codes c.args.rep.now c.args.factor c.label.result k c.field-field.result c.power.result c.as_slice.result.now c.requires.is_rep e
    (c.field-field.ensures ∙ ap (λ (S : Shape). slice_index S.factors c.args.factor) c.requires.shape) c.requires.factor
    (subst (λ (n : ℕ). k < n) (raised-length c.args.rep.now c.args.factor c.label.result c.field-field.result c.power.result c.as_slice.result.now e) l)
    (label_below c.args.rep.now c.args.step.now c.args.j c.label.result c.requires.valid c.requires.column c.label.ensures)

pub returns : goal.returns
returns c =
    let e : c.as_slice.result.now ≡ map (raised c.field-field.result c.power.result) (column_of c.args.rep.now c.args.factor c.label.result) =
    c.as_slice.ensures.value ∙ c.raised_column-column.ensures ∙ ap (map (raised c.field-field.result c.power.result)) c.factor_column-from.ensures in
    c.mul.ensures.product
    ∙ code-moved c.args.rep.now c.args.step.now c.args.factor c.args.i c.args.j c.field-field.result _ c.power.result
    _ c.label.result _ c.row.result.now c.as_slice.result.now
    c.requires.is_rep c.requires.factor
    (c.field-field.ensures ∙ ap (λ (S : Shape). slice_index S.factors c.args.factor) c.requires.shape) c.scalar.ensures c.power.ensures
    (raised-length c.args.rep.now c.args.factor c.label.result c.field-field.result c.power.result c.as_slice.result.now e) c.label.ensures
    (λ k l. c.row.ensures.entries k (subst (λ (n : ℕ). k < n) (sym (ap (λ (S : Shape). S.rank) c.requires.shape)) l))
    e c.sum_of_products-code.ensures.sum
