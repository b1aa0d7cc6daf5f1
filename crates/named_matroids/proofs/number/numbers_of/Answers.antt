use Rattle.std.proofs.Common.{◌≡◌, ◌+◌, sym, ◌∙◌, Some}
use Rattle.std.specs.Bool.{◌==◌}
use Rattle.std.specs.Prelude.{decimal, position}
use Rattle.named_matroids.proofs.Spelt.{numbers_parts, rest_of, has_comma, joined}
use Rattle.named_matroids.proofs.number.numbers_of.Goals as goal

pub returns-in_err-comma : goal.returns-in_err-comma
returns-in_err-comma c =
    rw c.from_residual.ensures (λ m n p q e. has_comma (decimal m) (decimal n) c.args.text.now e (sym c.comma_in.ensures ∙ c.in_err-comma.was))

pub returns-in_err-first : goal.returns-in_err-first
returns-in_err-first c =
    let at : position (λ byte. byte == 44) c.args.text.now ≡ Some c.in_ok-comma.comma = sym c.comma_in.ensures ∙ c.in_ok-comma.was in
    rw c.from_residual-in_err-first.ensures
    (λ m n p q e. let w = numbers_parts m n c.args.text.now c.in_ok-comma.comma p e at in c.in_err-first.ensures m p w.0)

pub returns-in_err-second : goal.returns-in_err-second
returns-in_err-second c =
    let at : position (λ byte. byte == 44) c.args.text.now ≡ Some c.in_ok-comma.comma = sym c.comma_in.ensures ∙ c.in_ok-comma.was in
    rw c.from_residual-in_err-second.ensures
    (λ m n p q e. let w = numbers_parts m n c.args.text.now c.in_ok-comma.comma p e at in
    c.in_err-second.ensures n q (rest_of c.args.text.now (c.in_ok-comma.comma + 1) ∙ w.1))

pub returns : goal.returns
returns c =
    let at : position (λ byte. byte == 44) c.args.text.now ≡ Some c.in_ok-comma.comma = sym c.comma_in.ensures ∙ c.in_ok-comma.was in (
      c.in_ok-first.ensures.0,
      c.in_ok-second.ensures.0,
      joined (decimal c.in_ok-first.first) (decimal c.in_ok-second.second) c.args.text.now c.in_ok-comma.comma at
          c.in_ok-first.ensures.1 (sym (rest_of c.args.text.now (c.in_ok-comma.comma + 1)) ∙ c.in_ok-second.ensures.1),
    )
