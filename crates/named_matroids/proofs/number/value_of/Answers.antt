use Rattle.std.proofs.Common.{◌≡◌, ◌+◌, ◌*◌, ◌^◌, ◌<◌, ◌≤◌, sym, ◌∙◌, arith, length, take, get_or, length-take}
use Rattle.std.specs.Char.{digit_value}
use Rattle.std.specs.Int.{IsInRange}
use Rattle.std.specs.Str.Parse.{digits_value}
use Rattle.std.proofs.lemmas.Str.{digit_value_digit}
use Rattle.std.proofs.lemmas.Str.Parse.{digit_at}
use Rattle.std.proofs.lemmas.Int.Digits.{digits_more, digits_value_more}
use Rattle.named_matroids.proofs.Decimals.{value_short, is_digit, no_digit}
use Rattle.named_matroids.proofs.number.value_of.Goals as goal

pub returns-then-not-is_ascii_digit : goal.returns-then-not-is_ascii_digit
returns-then-not-is_ascii_digit c =
    λ all. no_digit (get_or c.args.digits.now c.loop-digit.digit-index 0)
    (sym c.is_ascii_digit.ensures.value ∙ c.if-not-is_ascii_digit.true)
    (digit_at c.args.digits.now c.loop-digit.digit-index all c.loop-digit-test.true)

pub overflow_mul-value : goal.overflow_mul-value
overflow_mul-value c =
    let n : length (take c.loop-digit.digit-index c.args.digits.now) ≤ 8 = omega (arith, length-take c.loop-digit.digit-index c.args.digits.now) in
    let l : digits_value 10 (take c.loop-digit.digit-index c.args.digits.now) < 10 ^ 8 =
    value_short (take c.loop-digit.digit-index c.args.digits.now) 8 c.loop-digit.invariant.digits n in
    let v : c.loop-digit.value ≡ digits_value 10 (take c.loop-digit.digit-index c.args.digits.now) = c.loop-digit.invariant.value in
    omega arith

pub overflow_add-value : goal.overflow_add-value
overflow_add-value c =
    let n : length (take c.loop-digit.digit-index c.args.digits.now) ≤ 8 = omega (arith, length-take c.loop-digit.digit-index c.args.digits.now) in
    let l : digits_value 10 (take c.loop-digit.digit-index c.args.digits.now) < 10 ^ 8 =
    value_short (take c.loop-digit.digit-index c.args.digits.now) 8 c.loop-digit.invariant.digits n in
    let v : c.loop-digit.value ≡ digits_value 10 (take c.loop-digit.digit-index c.args.digits.now) = c.loop-digit.invariant.value in
    let r : IsInRange 48 57 (get_or c.args.digits.now c.loop-digit.digit-index 0) =
    is_digit (get_or c.args.digits.now c.loop-digit.digit-index 0) (sym c.is_ascii_digit.ensures.value ∙ c.if-not-is_ascii_digit.false) in
    let f : c.from.result ≤ 9 = omega (arith, r.1, c.from.ensures) in
    omega arith

pub loop-digit-preserved : goal.loop-digit-preserved
loop-digit-preserved c =
    let digits = c.args.digits.now in
    let i = c.loop-digit.digit-index in
    let r : IsInRange 48 57 (get_or digits i 0) = is_digit (get_or digits i 0) (sym c.is_ascii_digit.ensures.value ∙ c.if-not-is_ascii_digit.false) in
    let d : digit_value (get_or digits i 0) + 48 ≡ get_or digits i 0 = digit_value_digit (get_or digits i 0) r in
    record {
      digits = digits_more 10 digits i c.loop-digit-test.true c.loop-digit.invariant.digits (omega (arith, r.1));
      value =
          (let m : digits_value 10 (take (i + 1) digits) ≡ digits_value 10 (take i digits) * 10 + digit_value (get_or digits i 0) =
          digits_value_more 10 digits i c.loop-digit-test.true in
          let v : c.loop-digit.value ≡ digits_value 10 (take i digits) = c.loop-digit.invariant.value in
          omega (arith, c.from.ensures));
    }
