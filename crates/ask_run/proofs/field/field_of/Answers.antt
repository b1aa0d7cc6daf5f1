use Rattle.std.proofs.Common.{◌≡◌, ◌∙◌, ◌↔◌, ℕ, List, Option, Some, None, arith, refl, sym, ap, subst}
use Rattle.std.specs.Prelude.{decimal, IsSome, IfSome, MatchOption}
use Rattle.matroid_theory.specs.Field.{IsOrder}
use Rattle.formats.specs.Statement.{IsNumber}
use Rattle.formats.proofs.Unique.{order_small, same_order}
use Rattle.ask_run.proofs.field.field_of.Goals as goal

-- the field of that order is found
found_field : (o : Option ℕ) (n : ℕ) (word : List ℕ) → IsSome o ↔ IsOrder n → IfSome o (λ q. q ≡ n) → IsNumber n → word ≡ decimal n
    → MatchOption o ((q : ℕ) → IsOrder q → word ≡ decimal q → ⊥) (λ q. IsOrder q × (word ≡ decimal q))
found_field None n word some order is e = λ q of_q f.
    let same : n ≡ q = same_order n q word is e of_q f in
    let found = some.1 (subst IsOrder (sym same) of_q) in
    cc (found)
found_field (Some q) n word some order is e = (subst IsOrder (sym order) (some.0 refl), e ∙ ap decimal (sym order))

pub returns-then-number-gt13 : goal.returns-then-number-gt13
returns-then-number-gt13 c = λ q is e.
    let same : c.in_ok-number.number ≡ q = same_order c.in_ok-number.number q c.args.word.now c.in_ok-number.ensures.0 c.in_ok-number.ensures.1 is e in
    let small = order_small q is in
    omega (arith, small, same, c.if-number-gt13.true)

pub returns : goal.returns
returns c =
    found_field c.of.result c.in_ok-number.number c.args.word.now c.of.ensures.found c.of.ensures.order c.in_ok-number.ensures.0 c.in_ok-number.ensures.1
