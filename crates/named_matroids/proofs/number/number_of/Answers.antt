use Rattle.std.proofs.Common.{◌≡◌, ℕ, ◌<◌, ◌≤◌, List, length, ap, arith, sym, ◌∙◌, eqb-true, eq-eqb, inl, inr}
use Rattle.std.specs.Prelude.{decimal}
use Rattle.std.proofs.lemmas.Fmt.{decimal_nonempty, length-decimal-le}
use mathlib.Core.Bool.{true≢false}
use Rattle.std.proofs.lemmas.Bool.{cases_eq}
use Rattle.named_matroids.proofs.Decimals.{spelled, no_zero}
use Rattle.named_matroids.proofs.number.number_of.Goals as goal
use Rattle.named_matroids.proofs.number.number_of.Goals.{else-word-gt1-via-then-word-gt1+else-word-eq48, else-word-gt1-via-else-word-gt1}

pub returns-then-is_empty : goal.returns-then-is_empty
returns-then-is_empty c = λ n l e.
    let h : 0 < length (decimal n) = decimal_nonempty n (omega arith) in
    let k : length c.args.word.now ≡ length (decimal n) = ap (λ (w : List ℕ). length w) e in
    let z : length c.args.word.now ≡ 0 = eqb-true (length c.args.word.now) 0 (sym c.is_empty.ensures ∙ c.if-is_empty.true) in
    omega arith

pub returns-then-word-gt9 : goal.returns-then-word-gt9
returns-then-word-gt9 c = λ n l e.
    let h : length (decimal n) ≤ 9 = length-decimal-le 9 n (omega arith) l (omega arith) in
    let k : length c.args.word.now ≡ length (decimal n) = ap (λ (w : List ℕ). length w) e in
    omega arith

pub returns-then-word-eq48 : goal.returns-then-word-eq48
returns-then-word-eq48 c = λ n l e. no_zero c.args.word.now n l e c.if-word-eq48.true c.if-word-gt1.true

pub returns : goal.returns
returns c =
    let some : 0 < length c.args.word.now = elim (cases_eq (length c.args.word.now) 0) [
      | inl z ↦ absurd (true≢false (sym (eq-eqb (length c.args.word.now) 0 z) ∙ sym c.is_empty.ensures ∙ c.if-is_empty.false))
      | inr n ↦ omega arith
    ] in
    spelled c.args.word.now c.value_of.result
    some
    c.if-word-gt9.false
    (λ z. elim c.else-word-gt1.branch [
      | else-word-gt1-via-then-word-gt1+else-word-eq48 w ↦ absurd (w.if-word-eq48.false z)
      | else-word-gt1-via-else-word-gt1 w ↦ omega (arith, some)
    ])
    c.value_of.ensures
