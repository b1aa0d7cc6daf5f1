use Rattle.std.proofs.Common.{◌≡◌, ◌<◌, ◌+◌, ◌-◌, ◌*◌, ◌/◌, ◌%◌, ◌^◌, ℕ, List, slice_index, sym, ◌∙◌, ap, subst, arith}
use Rattle.matroid_theory.specs.Rep.{Rep, count, size}
use Rattle.form_states.specs.States.{IsShapeOf}
use Rattle.form_states.proofs.Shapes.{some}
use Rattle.fast_form.proofs.Decoded.{IsPart, unit_part, part_room, part_column, pushed_part, whole_part}
use Rattle.fast_form.proofs.form.with_numbers.Goals as goal

digits_are : (number n width : ℕ) (items : List ℕ) → number ≡ n → ((e : ℕ) → e < width → slice_index items e ≡ number / 16 ^ (width - 1 - e) % 16) → (e : ℕ)
    → e < width → slice_index items e ≡ n / 16 ^ (width - 1 - e) % 16
digits_are number n width items y h e l = h e l ∙ ap (λ v. v / 16 ^ (width - 1 - e) % 16) y

width_is : (M : Rep) (fields : List ℕ) (factors rank total : ℕ) → IsShapeOf M fields factors rank total → rank * factors ≡ M.rank * count M
width_is M fields factors rank total h = λ t. h.rank_is t * h.factors_are t

pub loop-j-init : goal.loop-j-init
loop-j-init c =
    unit_part c.args.rep.now c.args.numbers.now (some _ _ _ _ _ c.requires.shape) c.unit-form.result c.requires.class c.laws.ensures.shaped
    c.unit-form.ensures.standard
    (c.unit-form.ensures.shape ∙ (λ t. record { factors = c.factors.ensures t; rank = c.rank.ensures t; size = c.rank.ensures t }))

pub push_column-requires-clause-room : goal.push_column-requires-clause-room
push_column-requires-clause-room c =
    let l : size c.loop-j.form < size c.args.rep.now =
    part_room c.args.rep.now c.args.numbers.now (some _ _ _ _ _ c.requires.shape) c.loop-j.j c.loop-j.form c.loop-j.invariant
    (omega (arith, c.loop-j-test.true, c.len-j-end.ensures.count)) c.digits_of.result.items
    (c.args.shape.now.rank * c.args.shape.now.count) (width_is _ _ _ _ _ c.requires.shape) c.digits_of.ensures.rows
    (digits_are c.get.result _ _ c.digits_of.result.items c.get.ensures c.digits_of.ensures.digits) in
    omega (arith, c.requires.shape.total_is, c.requires.shape.limits.sixteen)

pub push_column-requires-clause-column : goal.push_column-requires-clause-column
push_column-requires-clause-column c =
    part_column c.args.rep.now c.args.numbers.now (some _ _ _ _ _ c.requires.shape) c.loop-j.j c.loop-j.form c.loop-j.invariant
    (omega (arith, c.loop-j-test.true, c.len-j-end.ensures.count)) c.digits_of.result.items
    (c.args.shape.now.rank * c.args.shape.now.count) (width_is _ _ _ _ _ c.requires.shape) c.digits_of.ensures.rows
    (digits_are c.get.result _ _ c.digits_of.result.items c.get.ensures c.digits_of.ensures.digits)

pub loop-j-preserved : goal.loop-j-preserved
loop-j-preserved c =
    subst (IsPart c.args.rep.now c.args.numbers.now (c.loop-j.j + 1)) (sym c.push_column.ensures)
    (pushed_part c.args.rep.now c.args.numbers.now (some _ _ _ _ _ c.requires.shape) c.loop-j.j c.loop-j.form c.loop-j.invariant
    (omega (arith, c.loop-j-test.true, c.len-j-end.ensures.count)) c.digits_of.result.items
    (c.args.shape.now.rank * c.args.shape.now.count) (width_is _ _ _ _ _ c.requires.shape) c.digits_of.ensures.rows
    (digits_are c.get.result _ _ c.digits_of.result.items c.get.ensures c.digits_of.ensures.digits))

pub returns : goal.returns
returns c = whole_part c.args.rep.now c.args.numbers.now (some _ _ _ _ _ c.requires.shape) c.loop-j.j c.loop-j.form c.loop-j.invariant
    (omega (arith, c.len-j-end.ensures.count))
