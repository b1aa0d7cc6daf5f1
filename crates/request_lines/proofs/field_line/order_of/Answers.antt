use Rattle.std.proofs.Common.{◌≡◌, arith, sym, subst}
use Rattle.matroid_theory.specs.Field.{IsOrder}
use Rattle.formats.proofs.Unique.{same_order}
use Rattle.request_lines.proofs.field_line.order_of.Goals as goal

pub returns-then-number-from : goal.returns-then-number-from
returns-then-number-from c = λ q is e.
    let same : c.in_ok-number.number ≡ q = same_order c.in_ok-number.number q c.args.word.now c.in_ok-number.ensures.0 c.in_ok-number.ensures.1 is.0 e in
    omega (arith, is.1, same, c.from.ensures, c.greatest_order.ensures, c.if-number-from.true)

pub returns-in_err-field : goal.returns-in_err-field
returns-in_err-field c = rw c.from_residual-in_err-field.ensures (λ q is e.
    let same : c.in_ok-number.number ≡ q = same_order c.in_ok-number.number q c.args.word.now c.in_ok-number.ensures.0 c.in_ok-number.ensures.1 is.0 e in
    let found = c.in_err-field.ensures.found.1 (subst IsOrder (sym same) is.0) in
    cc (found))
